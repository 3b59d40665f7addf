-- Texts (01, "Room text"). The text of a list of frames is their lines one after another, `flat_map line`. Lines can be told apart, so a text is
-- that of one list of frames; the text of a room is that of its frames and the frame ff.
--   flat_map_append, flatten_map, take_map
--                                     laws of lists
--   EachBytes                         frames of bytes
--   frames_code                       where two texts agree, the shorter list of frames begins the longer
--   text_more, text_split             a text with one more frame, and in two parts
--   frames_whole, frames_one          a text is that of one list of frames
--   all_frames, lines_is, all_length, render_is, render_parts
--                                     the frames of a room and ff: the room's lines and its text are theirs
--   all_frames_bytes                   they are frames of bytes
--   render_frames                     rooms with the same text have the same frames
--   frames_length, lines_length       how many lines a room has
--   frames_text_length, render_length how many bytes
--   render_short, good_short          at most 648
use mathlib.Core.Path.{◌≡◌, refl, sym, ap, ◌∙◌, subst}
use mathlib.Core.Logic.{⊎_elim}
use mathlib.Core.List.{List, [], ◌∷◌, ◌++◌, map, flat_map, flatten, append_assoc, append-nil, append_cancel_right, map-append}
use mathlib.Core.List.Memᴰ
use Prim.Native.Nat.{ℕ, zero, suc, ◌+◌, ◌*◌, ◌≤◌, ◌<◌}
use native.Mathlib.Omega.{arith}
use native.Mathlib.Nat.{zero-mul, suc-mul}
use lib.Dec.{lit<}
use lib.ListN.{length, take, drop, length-append, length-map, take-append-drop}
use Rattle.laws.specs.Lists.{◌∈◌, row}
use Rattle.laws.proofs.Tests.{lt_or_le}
use Rattle.laws.proofs.Lists.{row_length}
use Rattle.paper.specs.declared.Room.{Room}
use Rattle.paper.specs.Room.{job, section, link}
use Rattle.paper.specs.Text.{line, job_frame, section_frame, link_frame, frames, ending, lines, render, Carried, GoodText}
use Rattle.paper.proofs.Lines.{Bytes, bytes_none, bytes_more, line_length, line_code, ending_line}

-- ---- Lists of frames

module _ {A B : Type 0} (f : A → List B) where
  pub flat_map_append : (l m : List A) → flat_map f (l ++ m) ≡ flat_map f l ++ flat_map f m
  unfolding flat_map
  flat_map_append [] m = refl
  flat_map_append (x ∷ l) m = ap (λ (k : List B). f x ++ k) (flat_map_append l m) ∙ sym (append_assoc (f x) (flat_map f l) (flat_map f m))

  pub flatten_map : (l : List A) → flatten (map f l) ≡ flat_map f l
  unfolding flatten flat_map
  flatten_map [] = refl
  flatten_map (x ∷ l) = ap (λ (k : List B). f x ++ k) (flatten_map l)

pub take_map : {A B : Type 0} (f : A → B) (k : ℕ) (l : List A) → take k (map f l) ≡ map f (take k l)
take_map f zero l = refl
take_map f (suc k) [] = refl
take_map f (suc k) (x ∷ l) = ap (λ (m : List _). f x ∷ m) (take_map f k l)

abbrev pub EachBytes : List (List ℕ) → Type 0
EachBytes fs = (frame : List ℕ) → frame ∈ fs → Bytes frame

pub frames_code : (fs gs : List (List ℕ)) (x y : List ℕ) → EachBytes fs → EachBytes gs → length fs ≤ length gs
    → flat_map line fs ++ x ≡ flat_map line gs ++ y → (more : List (List ℕ)) × (gs ≡ fs ++ more) × (x ≡ flat_map line more ++ y)
unfolding flat_map
frames_code [] gs x y p q h e = (gs, refl, e)
frames_code (f ∷ fs) [] x y p q h e = absurd (omega arith)
frames_code (f ∷ fs) (g ∷ gs) x y p q h e =
    let s = sym (append_assoc (line f) (flat_map line fs) x) ∙ e ∙ append_assoc (line g) (flat_map line gs) y in
    let c = line_code f g (flat_map line fs ++ x) (flat_map line gs ++ y) (p f (Memᴰ.head refl)) (q g (Memᴰ.head refl)) s in
    let r = frames_code fs gs x y (λ k m. p k (Memᴰ.tail m)) (λ k m. q k (Memᴰ.tail m)) (omega arith) c.1 in
    (r.0, λ i. sym c.0 i ∷ r.1 i, r.2)

pub text_more : (fs : List (List ℕ)) (f : List ℕ) → flat_map line (fs ++ (f ∷ [])) ≡ flat_map line fs ++ line f
unfolding flat_map
text_more fs f = flat_map_append line fs (f ∷ []) ∙ ap (λ (l : List ℕ). flat_map line fs ++ l) (append-nil (line f))

pub text_split : (k : ℕ) (fs : List (List ℕ)) → flat_map line fs ≡ flat_map line (take k fs) ++ flat_map line (drop k fs)
text_split k fs = ap (flat_map line) (sym (take-append-drop k fs)) ∙ flat_map_append line (take k fs) (drop k fs)

-- no text but that of no frames is empty
text_none : (fs : List (List ℕ)) (x : List ℕ) → [] ≡ flat_map line fs ++ x → (fs ≡ []) × (x ≡ [])
unfolding flat_map
text_none [] x e = (refl, sym e)
text_none (f ∷ fs) x e =
    absurd (omega (arith, ap length (e ∙ append_assoc (line f) (flat_map line fs) x), length-append (line f) (flat_map line fs ++ x), line_length f))

pub frames_whole : (fs gs : List (List ℕ)) (x : List ℕ) → EachBytes fs → EachBytes gs → length fs ≤ length gs
    → flat_map line fs ≡ flat_map line gs ++ x → (gs ≡ fs) × (x ≡ [])
frames_whole fs gs x p q h e =
    let r = frames_code fs gs [] x p q h (append-nil (flat_map line fs) ∙ e) in
    let n = text_none r.0 x r.2 in
    (r.1 ∙ rw n.0 (append-nil fs), n.1)

pub frames_one : (fs gs : List (List ℕ)) → EachBytes fs → EachBytes gs → flat_map line fs ≡ flat_map line gs → fs ≡ gs
frames_one fs gs p q e = ⊎_elim
    (λ (h : length fs < length gs). sym (frames_whole fs gs [] p q (omega arith) (e ∙ sym (append-nil (flat_map line gs)))).0)
    (λ h. (frames_whole gs fs [] q p h (sym e ∙ sym (append-nil (flat_map line fs)))).0)
    (lt_or_le (length fs) (length gs))

-- ---- The frames of a room, and ff

unfoldable pub all_frames : Room → List (List ℕ)
all_frames room = frames room ++ ((0xff ∷ []) ∷ [])

pub lines_is : (room : Room) → lines room ≡ map line (all_frames room)
unfolding lines all_frames
lines_is room = ap (λ (l : List ℕ). map line (frames room) ++ (l ∷ [])) ending_line ∙ sym (map-append line (frames room) ((0xff ∷ []) ∷ []))

pub all_length : (room : Room) → length (all_frames room) ≡ length (lines room)
all_length room = sym (ap length (lines_is room) ∙ length-map (all_frames room) line)

pub render_is : (room : Room) → render room ≡ flat_map line (all_frames room)
unfolding render
render_is room = ap flatten (lines_is room) ∙ flatten_map line (all_frames room)

pub render_parts : (room : Room) → render room ≡ flat_map line (frames room) ++ ending
unfolding all_frames
render_parts room = render_is room ∙ text_more (frames room) (0xff ∷ []) ∙ ap (λ (l : List ℕ). flat_map line (frames room) ++ l) (sym ending_line)

pub all_frames_bytes : (room : Room) → Carried room → EachBytes (all_frames room)
unfolding all_frames
all_frames_bytes room c f p =
    ⊎_elim (c.bytes f) (λ q. subst Bytes (sym (Memᴰ.eq_of_singleton q)) (bytes_more (lit< tt) bytes_none)) (Memᴰ.append_cases (frames room) p)

pub render_frames : (room room' : Room) → Carried room → Carried room' → render room ≡ render room' → frames room ≡ frames room'
unfolding all_frames
render_frames room room' c d e =
    append_cancel_right (frames room) (frames room') ((0xff ∷ []) ∷ [])
    (frames_one (all_frames room) (all_frames room') (all_frames_bytes room c) (all_frames_bytes room' d) (sym (render_is room) ∙ e ∙ render_is room'))

-- ---- Lengths

module _ (f : ℕ → List ℕ) (w : ℕ) (each : (i : ℕ) → 2 * length (f i) + 1 ≡ w) where
  row_text : (i n : ℕ) → length (flat_map line (row f i n)) ≡ n * w
  unfolding flat_map row
  row_text i zero = sym (zero-mul w)
  row_text i (suc n) =
      length-append (line (f i)) (flat_map line (row f (suc i) n)) ∙ omega (arith, line_length (f i), each i, row_text (suc i) n, suc-mul n w)

pub frames_length : (room : Room) → length (frames room) ≡ 1 + room.jobs + room.sections + room.links
unfolding frames
frames_length room = simp (length-append, row_length) (omega arith)

pub lines_length : (room : Room) → length (lines room) ≡ 2 + room.jobs + room.sections + room.links
unfolding lines
lines_length room = simp (length-append, length-map, frames_length) (omega arith)

pub frames_text_length : (room : Room) → length (flat_map line (frames room)) ≡ 5 + 11 * room.jobs + 11 * room.sections + 7 * room.links
unfolding frames flat_map
frames_text_length room =
    let j = row_text (λ i. job_frame (job room i)) 11 (λ i. refl) 0 room.jobs in
    let s = row_text (λ q. section_frame (section room q)) 11 (λ q. refl) 0 room.sections in
    let l = row_text (λ q. link_frame (link room q)) 7 (λ q. refl) 0 room.links in
    simp (flat_map_append, length-append, line_length, j, s, l) (omega arith)

pub render_length : (room : Room) → length (render room) ≡ 5 + 11 * room.jobs + 11 * room.sections + 7 * room.links + 3
render_length room =
    ap length (render_parts room) ∙ length-append (flat_map line (frames room)) ending ∙ ap (λ (n : ℕ). n + 3) (frames_text_length room)

pub render_short : (room : Room) → Carried room → length (render room) ≤ 648
render_short room c = omega (arith, render_length room)

pub good_short : {text : List ℕ} → GoodText text → length text ≤ 648
good_short g = rw g.same (render_short g.room g.carried)
