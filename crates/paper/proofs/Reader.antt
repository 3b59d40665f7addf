-- Reading a room text line by line (01, "Room text"). What was read before a place is a room, and its counts and the bytes at the place say
-- how it goes on: by one entry more, by the end, or not at all, and then that line is the first bad one.
--   job_at, section_at, link_at                 the entry whose line stands at a place
--   so_far_first                             the first line stands at the start
--   so_far_job, so_far_section, so_far_link  one more line
--   begins_first, so_far_begins              the first line of good texts; the lines of a room begin a good text
--   begins_follows                           where one more line begins a good text too, it may follow
--   read_end                                 `ff` and nothing after it: the room is read
--   bad_next                                 no line that may follow: that one is the first bad line
--   ended_begins, ended_last, bad_after      `ff` and something after it: the line after `ff` is
--   bad_first                                no first line: line 0 is
--   ReadTo, begins_read_to                   the lines that begin some good text are none, those of a room, or those and `ff`
use mathlib.Core.Path.{◌≡◌, refl, sym, ap, ◌∙◌, subst}
use mathlib.Core.Logic.{⊎_elim}
use mathlib.Core.List.Memᴰ
use mathlib.Core.List.{List, [], ◌∷◌, ◌++◌, flat_map, append_assoc, append-nil, head-eq_of_cons-eq}
use Prim.Native.Nat.{ℕ, zero, suc, ◌+◌, ◌*◌, ◌≤◌, ◌<◌}
use native.Mathlib.Omega.{arith}
use native.Mathlib.Numerals.{add-one}
use lib.ListN.{length, take, drop, take-append-drop, drop_of_length-le, length-drop}
use lib.Seq.{take-add, take_at, take_all}
use Rattle.laws.specs.Lists.{row}
use Rattle.laws.proofs.Lists.{in_last, in_snoc}
use Rattle.paper.specs.declared.Room.{Room}
use Rattle.paper.specs.declared.Job.{Job}
use Rattle.paper.specs.declared.Section.{Section}
use Rattle.paper.specs.declared.Link.{Link}
use Rattle.paper.specs.Room.{job, section, link, no_job, no_section, no_link}
use Rattle.paper.specs.Text.{line, engine_frame, job_frame, section_frame, link_frame, frames, ending, render, pad, GoodText, Begins, FirstBadLine, Read}
use Rattle.paper.specs.Reading.{byte_at, Line, Ending, FirstLine, line_after, SoFar, Follows, job_follows, section_follows, link_follows, end_follows}
use Rattle.paper.proofs.Lines.{Bytes, line_length, ending_line, line_within, frame_at, frame_at_length, frame_at_kind, frame_at_bytes}
use Rattle.paper.proofs.Lines.{line_there, there_kind, there_line, ending_there, there_ending}
use Rattle.paper.proofs.Texts.{EachBytes, text_more, all_frames, all_frames_bytes, all_length, render_is, render_parts, frames_length, lines_length}
use Rattle.paper.proofs.BadLines.{frames_begin, begins_zero, begins_fewer, begins_next, good_whole}
use Rattle.paper.proofs.Frames.{ff_no_frame, frames_then}
use Rattle.paper.proofs.Grammar.{Next, a_job, a_section, a_link, the_end, next_frame, end_last, pad_length, pad_set}
use Rattle.paper.proofs.Grammar.{with_engines, with_job, with_section, with_link, frames_engines, frames_job, frames_section, frames_link}

-- ---- What was read so far

-- the entries whose lines stand at a place
abbrev pub job_at : List ℕ → ℕ → Job
job_at text at = record { first = byte_at text (at + 2); load = byte_at text (at + 4); deadline = byte_at text (at + 6); period = byte_at text (at + 8) }

abbrev pub section_at : List ℕ → ℕ → Section
section_at text at = record { job = byte_at text (at + 2); block = byte_at text (at + 4); first = byte_at text (at + 6); after = byte_at text (at + 8) }

abbrev pub link_at : List ℕ → ℕ → Link
link_at text at = record { sender = byte_at text (at + 2); receiver = byte_at text (at + 4) }

-- their frames
module _ (text : List ℕ) (at : ℕ) where
  job_there : byte_at text at ≡ 0xa1 → frame_at text at 5 ≡ job_frame (job_at text at)
  unfolding row
  job_there e = frame_at_kind text at 4 e

  section_there : byte_at text at ≡ 0xa2 → frame_at text at 5 ≡ section_frame (section_at text at)
  unfolding row
  section_there e = frame_at_kind text at 4 e

  link_there : byte_at text at ≡ 0xa3 → frame_at text at 3 ≡ link_frame (link_at text at)
  unfolding row
  link_there e = frame_at_kind text at 2 e

-- one more line: the frames fs and then f are those of the room
module _ (text : List ℕ) (at n : ℕ) (fs : List (List ℕ)) (f : List ℕ) (room : Room) (each : EachBytes fs) (so_far : take at text ≡ flat_map line fs)
    (l : Line text at n) (there : frame_at text at n ≡ f) (now : frames room ≡ fs ++ (f ∷ [])) where
  more_same : take (at + (2 * n + 1)) text ≡ flat_map line (frames room)
  more_same =
      let goes = rw there at (line_there text at n l) in
      let size : length (line f) ≡ 2 * n + 1 = omega (arith, line_length f, ap length (sym there) ∙ frame_at_length text at n) in
      let t = ap (take (2 * n + 1)) goes ∙ take_at (line f) (drop (at + (2 * n + 1)) text) (2 * n + 1) size in
      take-add at (2 * n + 1) text ∙ (λ i. so_far i ++ t i) ∙ sym (text_more fs f) ∙ ap (flat_map line) (sym now)

  more_bytes : EachBytes (frames room)
  more_bytes g p = ⊎_elim (each g) (λ q. subst Bytes (there ∙ sym q) (frame_at_bytes text at n l)) (in_snoc fs f (rw now at p))

  so_far_more : room.jobs ≤ 16 → room.sections ≤ 32 → room.links ≤ 16
      → room.job ≡ pad no_job 16 (job room) room.jobs
      → room.section ≡ pad no_section 32 (section room) room.sections
      → room.link ≡ pad no_link 16 (link room) room.links
      → SoFar text (at + (2 * n + 1)) room
  so_far_more a b c p q r = record {
    carried = record { jobs = a; sections = b; links = c; bytes = more_bytes };
    job = p;
    section = q;
    link = r;
    within = line_within text at n l;
    same = more_same;
  }

none_bytes : EachBytes []
none_bytes f p = absurd (Memᴰ.not-nil p)

pub so_far_first : {text : List ℕ} → FirstLine text → SoFar text 5 (with_engines (byte_at text 2))
unfolding row flat_map
so_far_first {text} f =
    let p = byte_at text 2 in
    so_far_more text 0 2 [] (0xa0 ∷ p ∷ []) (with_engines p) none_bytes refl f.1 (frame_at_kind text 0 1 f.0) (frames_engines p)
    (omega arith) (omega arith) (omega arith) refl refl refl

module _ {text : List ℕ} {at : ℕ} {room : Room} (s : SoFar text at room) where
  pub so_far_job : room.sections ≡ 0 → room.links ≡ 0 → room.jobs < 16 → byte_at text at ≡ 0xa1 → Line text at 5
      → SoFar text (at + 11) (with_job room (job_at text at))
  so_far_job no_sections no_links few k l =
      let j = job_at text at in
      let now = frames_job room j no_sections no_links (pad_length room.job no_job j room.jobs 16 few s.job) in
      so_far_more text at 5 (frames room) (job_frame j) (with_job room j) s.carried.bytes s.same l (job_there text at k) now
      (omega arith) s.carried.sections s.carried.links
      (pad_set room.job no_job j room.jobs 16 few s.job) s.section s.link

  pub so_far_section : room.links ≡ 0 → room.sections < 32 → byte_at text at ≡ 0xa2 → Line text at 5
      → SoFar text (at + 11) (with_section room (section_at text at))
  so_far_section no_links few k l =
      let q = section_at text at in
      let now = frames_section room q no_links (pad_length room.section no_section q room.sections 32 few s.section) in
      so_far_more text at 5 (frames room) (section_frame q) (with_section room q) s.carried.bytes s.same l (section_there text at k) now
      s.carried.jobs (omega arith) s.carried.links
      s.job (pad_set room.section no_section q room.sections 32 few s.section) s.link

  pub so_far_link : room.links < 16 → byte_at text at ≡ 0xa3 → Line text at 3 → SoFar text (at + 7) (with_link room (link_at text at))
  so_far_link few k l =
      let q = link_at text at in
      let now = frames_link room q (pad_length room.link no_link q room.links 16 few s.link) in
      so_far_more text at 3 (frames room) (link_frame q) (with_link room q) s.carried.bytes s.same l (link_there text at k) now
      s.carried.jobs s.carried.sections (omega arith)
      s.job s.section (pad_set room.link no_link q room.links 16 few s.link)

-- ---- Which line may follow

-- the first line
pub begins_first : {text : List ℕ} → Begins text 1 → FirstLine text
unfolding flat_map all_frames
begins_first {text} b =
    let n = begins_next text 0 [] text refl none_bytes refl b in
    let f = engine_frame n.room in
    let e = head-eq_of_cons-eq (sym n.all ∙ frames_then n.room ((0xff ∷ []) ∷ [])) in
    let y : Bytes f = rw e at n.bytes in
    let g : text ≡ line f ++ n.rest = rw e at n.goes in
    (there_kind text f n.rest 0 y g (omega arith), there_line text f n.rest 0 y g)

module _ {text : List ℕ} {at : ℕ} {room : Room} (s : SoFar text at room) where
  so_far_same : text ≡ flat_map line (frames room) ++ drop at text
  so_far_same = sym (take-append-drop at text) ∙ ap (λ (l : List ℕ). l ++ drop at text) s.same

  pub so_far_begins : Begins text (line_after room)
  unfolding all_frames
  so_far_begins =
      let t = take_at (frames room) ((0xff ∷ []) ∷ []) (line_after room) (frames_length room) in
      frames_begin room (drop at text) s.carried (omega (arith, lines_length room))
      (so_far_same ∙ ap (λ (fs : List (List ℕ)). flat_map line fs ++ drop at text) (sym t))

  pub begins_follows : Begins text (line_after room + 1) → Follows text at room
  begins_follows b =
      let n = begins_next text (line_after room) (frames room) (drop at text) (frames_length room) s.carried.bytes so_far_same b in
      go n.frame n.rest n.bytes n.goes (next_frame room n.room n.frame n.more n.carried n.all)
    where
      go : (f rest : List ℕ) → Bytes f → drop at text ≡ line f ++ rest → Next room f → Follows text at room
      go f rest y g (a_job j p q r) = job_follows p q r (there_kind text f rest at y g (omega arith)) (there_line text f rest at y g)
      go f rest y g (a_section k p q) = section_follows p q (there_kind text f rest at y g (omega arith)) (there_line text f rest at y g)
      go f rest y g (a_link k p) = link_follows p (there_kind text f rest at y g (omega arith)) (there_line text f rest at y g)
      go f rest y g the_end = end_follows (there_ending text at rest (g ∙ ap (λ (l : List ℕ). l ++ rest) (sym ending_line)))

  -- ---- The end of a reading

  ended_same : Ending text at → text ≡ render room ++ drop (at + 3) text
  ended_same e =
      so_far_same
      ∙ ap (λ (l : List ℕ). flat_map line (frames room) ++ l) (ending_there text at e)
      ∙ sym (append_assoc (flat_map line (frames room)) ending (drop (at + 3) text))
      ∙ ap (λ (l : List ℕ). l ++ drop (at + 3) text) (sym (render_parts room))

  pub read_end : Ending text at → length text ≡ at + 3 → Read text room
  read_end e l =
      let d : drop (at + 3) text ≡ [] = drop_of_length-le text {i = at + 3} (omega arith) in
      let t : text ≡ render room = ended_same e ∙ rw d (append-nil (render room)) in
      record { carried = s.carried; same = t; job = s.job; section = s.section; link = s.link }

  pub bad_next : ¬ Follows text at room → FirstBadLine text (line_after room)
  unfolding all_frames
  bad_next n = record { bad = bad; until = so_far_begins; here = here }
    where
      here : ¬ Begins text (line_after room + 1)
      here b = n (begins_follows b)

      bad : ¬ GoodText text
      bad g =
          let w = good_whole text (line_after room) (frames room) (drop at text) (frames_length room) s.carried.bytes so_far_same g here in
          ff_no_frame room (0xff ∷ []) (rw w.0 (in_last (frames g.room) (0xff ∷ []))) refl

  module _ (e : Ending text at) where
    rest : List ℕ
    rest = drop (at + 3) text

    all_number : length (all_frames room) ≡ line_after room + 1
    all_number = all_length room ∙ omega (arith, lines_length room)

    all_same : text ≡ flat_map line (all_frames room) ++ rest
    unfolding rest
    all_same = ended_same e ∙ ap (λ (l : List ℕ). l ++ rest) (render_is room)

    pub ended_begins : Begins text (line_after room + 1)
    ended_begins =
        let t = take_all (line_after room + 1) (all_frames room) (omega (arith, all_number)) in
        frames_begin room rest s.carried (omega (arith, lines_length room))
        (all_same ∙ ap (λ (fs : List (List ℕ)). flat_map line fs ++ rest) (sym t))

    pub ended_last : ¬ Begins text (line_after room + 1 + 1)
    ended_last b =
        let n = begins_next text (line_after room + 1) (all_frames room) rest all_number (all_frames_bytes room s.carried) all_same b in
        end_last room n.room n.frame n.more n.all

    pub bad_after : at + 3 < length text → FirstBadLine text (line_after room + 1)
    unfolding rest
    bad_after h = record { bad = bad; until = ended_begins; here = ended_last }
      where
        bad : ¬ GoodText text
        bad g =
            let w = good_whole text (line_after room + 1) (all_frames room) rest all_number (all_frames_bytes room s.carried) all_same g ended_last in
            omega (arith, ap length w.1, length-drop (at + 3) text)

pub bad_first : {text : List ℕ} → ¬ FirstLine text → FirstBadLine text 0
unfolding flat_map
bad_first {text} n = record { bad = bad; until = begins_zero text; here = here }
  where
    here : ¬ Begins text 1
    here b = n (begins_first b)

    bad : ¬ GoodText text
    bad g =
        let w = good_whole text 0 [] text refl none_bytes refl g here in
        omega (arith, ap length w.0, all_length g.room, lines_length g.room)

-- ---- The first lines of a text, by what was read

pub data ReadTo (text : List ℕ) (k : ℕ) : Type 0 where
  nothing : k ≡ 0 → ReadTo text k
  lines_of : (at : ℕ) (room : Room) → SoFar text at room → k ≡ line_after room → ReadTo text k
  ended : (at : ℕ) (room : Room) → SoFar text at room → Ending text at → k ≡ line_after room + 1 → ReadTo text k

read_to_next : {text : List ℕ} {k : ℕ} (at : ℕ) (room : Room) → SoFar text at room → k ≡ line_after room → Follows text at room
    → ReadTo text (k + 1)
read_to_next {text} at room s e (job_follows p q r t l) = lines_of (at + 11) (with_job room (job_at text at)) (so_far_job s p q r t l) (omega arith)
read_to_next {text} at room s e (section_follows p q t l) = lines_of (at + 11) (with_section room (section_at text at)) (so_far_section s p q t l) (omega arith)
read_to_next {text} at room s e (link_follows p t l) = lines_of (at + 7) (with_link room (link_at text at)) (so_far_link s p t l) (omega arith)
read_to_next at room s e (end_follows d) = ended at room s d (omega arith)

pub begins_read_to : (text : List ℕ) (k : ℕ) → Begins text k → ReadTo text k
begins_read_to text zero b = nothing refl
begins_read_to text (suc k) b = rw add-one at (more (rw (← add-one) at b) (begins_read_to text k (begins_fewer (omega arith) b)))
  where
    more : Begins text (k + 1) → ReadTo text k → ReadTo text (k + 1)
    more b (nothing e) = lines_of 5 (with_engines (byte_at text 2)) (so_far_first (begins_first (rw e at b))) (omega arith)
    more b (lines_of at room s e) = read_to_next at room s e (begins_follows s (rw e at b))
    more b (ended at room s d e) = absurd (ended_last s d (rw e at b))
