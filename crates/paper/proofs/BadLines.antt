-- The first bad line (01, "Room text"). A text begins with the first k lines of some good text for all k up to one, and that one is its first
-- bad line; bytes beyond the 649th have no part in it.
--   begins_frames, frames_begin   a text's first lines, by frames
--   begins_zero, begins_fewer     no line at all begins a good text; fewer lines do where more do
--   bad_line_one                  a text has one first bad line
--   good_begins                   all lines of a good text begin one
--   NextLine, begins_next         one more line that begins some good text has its frame next among that text's frames
--   good_whole                    a good text that goes on with no such line is at its end
--   begins_near, bad_line_near    the first 648 bytes hold all lines of a good text, so the first 649 tell the first bad line of a longer text
use mathlib.Core.Path.{◌≡◌, refl, sym, ap, ◌∙◌, subst}
use mathlib.Core.Logic.{◌↔◌, ⊎_elim}
use mathlib.Core.List.{List, [], ◌∷◌, ◌++◌, flat_map, flatten, append_assoc, append-nil}
use mathlib.Core.List.Memᴰ
use Prim.Native.Nat.{ℕ, ◌+◌, ◌-◌, ◌≤◌, ◌<◌}
use native.Mathlib.Omega.{arith}
use lib.Dec.{lit<}
use lib.ListN.{length, take, drop, length-append, take-append-drop, length-take}
use lib.Seq.{take-take, take-append-add, length-take-le}
use Rattle.laws.specs.Lists.{row}
use Rattle.laws.specs.Forks.{One}
use Rattle.laws.proofs.Tests.{lt_or_le}
use Rattle.laws.proofs.Forks.{first_failure_one}
use Rattle.paper.specs.declared.Room.{Room}
use Rattle.paper.specs.Text.{line, frames, lines, Carried, GoodText, Begins, FirstBadLine, no_room}
use Rattle.paper.proofs.Lines.{Bytes, bytes_none, bytes_more}
use Rattle.paper.proofs.Texts.{flatten_map, take_map, EachBytes, frames_code, frames_whole, text_split}
use Rattle.paper.proofs.Texts.{all_frames, lines_is, all_length, render_is, all_frames_bytes, render_short, good_short}

-- ---- By frames

take_lines : (room : Room) (k : ℕ) → flatten (take k (lines room)) ≡ flat_map line (take k (all_frames room))
take_lines room k =
    ap (λ (l : List (List ℕ)). flatten (take k l)) (lines_is room)
    ∙ ap flatten (take_map line k (all_frames room))
    ∙ flatten_map line (take k (all_frames room))

pub begins_frames : {text : List ℕ} {k : ℕ} (b : Begins text k) → text ≡ flat_map line (take k (all_frames b.room)) ++ b.rest
begins_frames {k = k} b = b.same ∙ ap (λ (l : List ℕ). l ++ b.rest) (take_lines b.room k)

pub frames_begin : {text : List ℕ} {k : ℕ} (room : Room) (rest : List ℕ) → Carried room → k ≤ length (lines room)
    → text ≡ flat_map line (take k (all_frames room)) ++ rest → Begins text k
frames_begin {k = k} room rest c h e = record {
  room = room;
  carried = c;
  enough = h;
  rest = rest;
  same = e ∙ ap (λ (l : List ℕ). l ++ rest) (sym (take_lines room k));
}

-- ---- Fewer lines

carried_none : Carried no_room
unfolding frames row
carried_none = record {
  jobs = omega arith;
  sections = omega arith;
  links = omega arith;
  bytes = λ f p. subst Bytes (sym (Memᴰ.eq_of_singleton p)) (bytes_more (lit< tt) (bytes_more (lit< tt) bytes_none));
}

pub begins_zero : (text : List ℕ) → Begins text 0
unfolding flat_map
begins_zero text = frames_begin no_room text carried_none (omega arith) refl

pub begins_fewer : {text : List ℕ} {j k : ℕ} → j ≤ k → Begins text k → Begins text j
begins_fewer {text} {j} {k} h b =
    let all = all_frames b.room in
    let fs = take k all in
    let e = rw take-take at (text_split j fs) in
    frames_begin b.room (flat_map line (drop j fs) ++ b.rest) b.carried (omega (arith, b.enough))
    (begins_frames b ∙ ap (λ (l : List ℕ). l ++ b.rest) e ∙ append_assoc (flat_map line (take j all)) (flat_map line (drop j fs)) b.rest)

pub bad_line_one : {text : List ℕ} → One (FirstBadLine text)
bad_line_one {text} k k' b d =
    first_failure_one (λ t. Begins text (t + 1))
    b.here (λ t h. begins_fewer (omega arith) b.until)
    d.here (λ t h. begins_fewer (omega arith) d.until)

pub good_begins : {text : List ℕ} (g : GoodText text) (k : ℕ) → k ≤ length (lines g.room) → Begins text k
good_begins g k h =
    frames_begin g.room (flat_map line (drop k (all_frames g.room))) g.carried h (g.same ∙ render_is g.room ∙ text_split k (all_frames g.room))

-- ---- One more line

each_take : (k : ℕ) (fs : List (List ℕ)) → EachBytes fs → EachBytes (take k fs)
each_take k fs p f m = p f (rw (take-append-drop k fs) at (Memᴰ.append_left (drop k fs) m))

-- some good text has the frames fs and then the frame of the line that x begins with
pub record NextLine (fs : List (List ℕ)) (x : List ℕ) : Type 0 where
  pub room : Room
  pub carried : Carried room
  pub frame : List ℕ
  pub more : List (List ℕ)
  pub all : all_frames room ≡ fs ++ (frame ∷ more)
  pub bytes : Bytes frame
  pub rest : List ℕ
  pub goes : x ≡ line frame ++ rest

-- a text that begins with k lines, those of the frames fs, and then has x
module _ (text : List ℕ) (k : ℕ) (fs : List (List ℕ)) (x : List ℕ)
    (number : length fs ≡ k) (each : EachBytes fs) (same : text ≡ flat_map line fs ++ x) where
  pub begins_next : Begins text (k + 1) → NextLine fs x
  unfolding flat_map
  begins_next b = go r.0 r.1 r.2
    where
      all : List (List ℕ)
      all = all_frames b.room

      bytes : EachBytes all
      bytes = all_frames_bytes b.room b.carried

      long : length (take (k + 1) all) ≡ k + 1
      long = length-take-le (k + 1) all (omega (arith, b.enough, all_length b.room))

      r : (more : List (List ℕ)) × (take (k + 1) all ≡ fs ++ more) × (x ≡ flat_map line more ++ b.rest)
      r = frames_code fs (take (k + 1) all) x b.rest each (each_take (k + 1) all bytes) (omega (arith, long)) (sym same ∙ begins_frames b)

      go : (more : List (List ℕ)) → take (k + 1) all ≡ fs ++ more → x ≡ flat_map line more ++ b.rest → NextLine fs x
      go [] p q = absurd (omega (arith, long, ap length (p ∙ append-nil fs)))
      go (f ∷ more) p q =
          let later = drop (k + 1) all in
          let e = sym (take-append-drop (k + 1) all) ∙ ap (λ (gs : List (List ℕ)). gs ++ later) p ∙ append_assoc fs (f ∷ more) later in
          record {
            room = b.room;
            carried = b.carried;
            frame = f;
            more = more ++ later;
            all = e;
            bytes = bytes f (rw e (Memᴰ.append_right fs (Memᴰ.head refl)));
            rest = flat_map line more ++ b.rest;
            goes = q ∙ append_assoc (line f) (flat_map line more) b.rest;
          }

  -- where the text is good and one more line is not that of a good text, these are all its lines
  pub good_whole : (g : GoodText text) → ¬ Begins text (k + 1) → (fs ≡ all_frames g.room) × (x ≡ [])
  good_whole g n = ⊎_elim fewer whole (lt_or_le (length fs) (length (all_frames g.room)))
    where
      fewer : length fs < length (all_frames g.room) → (fs ≡ all_frames g.room) × (x ≡ [])
      fewer h = absurd (n (good_begins g (k + 1) (omega (arith, all_length g.room))))

      whole : length (all_frames g.room) ≤ length fs → (fs ≡ all_frames g.room) × (x ≡ [])
      whole h =
          frames_whole (all_frames g.room) fs x (all_frames_bytes g.room g.carried) each h (sym (render_is g.room) ∙ sym g.same ∙ same)

-- ---- Far bytes do not matter

-- the first k lines of a room's text are at most 648 bytes
beginning_short : (room : Room) (k : ℕ) → Carried room → length (flat_map line (take k (all_frames room))) ≤ 648
beginning_short room k c =
    let fs = all_frames room in
    let e = ap length (render_is room ∙ text_split k fs) ∙ length-append (flat_map line (take k fs)) (flat_map line (drop k fs)) in
    omega (arith, render_short room c)

module _ (text : List ℕ) (k n : ℕ) where
  pub begins_near : 648 ≤ n → Begins text k ↔ Begins (take n text) k
  begins_near h = (near, far)
    where
      near : Begins text k → Begins (take n text) k
      near b =
          let a = flat_map line (take k (all_frames b.room)) in
          let m = n - length a in
          let l : n ≡ length a + m = omega (arith, beginning_short b.room k b.carried) in
          frames_begin b.room (take m b.rest) b.carried b.enough
          (ap (take n) (begins_frames b) ∙ ap (λ (i : ℕ). take i (a ++ b.rest)) l ∙ take-append-add a b.rest m)

      far : Begins (take n text) k → Begins text k
      far b =
          let a = flat_map line (take k (all_frames b.room)) in
          frames_begin b.room (b.rest ++ drop n text) b.carried b.enough
          (sym (take-append-drop n text) ∙ ap (λ (l : List ℕ). l ++ drop n text) (begins_frames b) ∙ append_assoc a b.rest (drop n text))

-- a program may stop reading after 649 bytes
pub bad_line_near : (text : List ℕ) (k n : ℕ) → 648 < length text → 648 < n → FirstBadLine text k ↔ FirstBadLine (take n text) k
bad_line_near text k n h l = (near, far)
  where
    near : FirstBadLine text k → FirstBadLine (take n text) k
    near b = record {
      bad = λ g. let s = good_short g in omega (arith, length-take n text);
      until = (begins_near text k n (omega arith)).0 b.until;
      here = λ c. b.here ((begins_near text (k + 1) n (omega arith)).1 c);
    }

    far : FirstBadLine (take n text) k → FirstBadLine text k
    far b = record {
      bad = λ g. let s = good_short g in omega arith;
      until = (begins_near text k n (omega arith)).1 b.until;
      here = λ c. b.here ((begins_near text (k + 1) n (omega arith)).0 c);
    }
