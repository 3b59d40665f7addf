-- The frames of room texts, one by one from the front (01, "Room text"). The first lines of a good text are again the frames of a room, and
-- its counts alone say which frame may follow; the reader's room and the writer's grow by one entry a line.
--   Next                                          a frame that may follow those of a room
--   next_frame, end_last                          what follows them in a good text is such a frame; nothing follows ff
--   pad_length, pad_set                           an entry stored after the first n, the later ones being zeros
--   with_engines, with_job, with_section, with_link   a room of engines alone; a room with one more entry, the last of its kind
--   frames_engines, frames_job, frames_section, frames_link
--                                                 its frames
use mathlib.Core.Path.{◌≡◌, refl, sym, ap, ◌∙◌, subst}
use mathlib.Core.Logic.{⊎_elim}
use mathlib.Core.List.{List, [], ◌∷◌, ◌++◌, append_assoc, append-nil, head-eq_of_cons-eq, tail-eq_of_cons-eq}
use Prim.Native.Nat.{ℕ, suc, ◌+◌, ◌-◌, ◌<◌}
use native.Mathlib.Omega.{arith}
use lib.ListN.{length, get_or, set, replicate, length-append, length-replicate, get_or-append}
use lib.Seq.{get_or-set_same, get_or-set_other, set_at, append_snoc, get_or-append_seam}
use Rattle.laws.specs.Lists.{row, beginning}
use Rattle.laws.proofs.Lists.{beginning_length, beginning_more, beginning_same, at_in}
use Rattle.paper.specs.declared.Room.{Room}
use Rattle.paper.specs.declared.Job.{Job}
use Rattle.paper.specs.declared.Section.{Section}
use Rattle.paper.specs.declared.Link.{Link}
use Rattle.paper.specs.Room.{job, section, link, no_job, no_section, no_link}
use Rattle.paper.specs.Text.{engine_frame, job_frame, section_frame, link_frame, frames, Carried, pad}
use Rattle.paper.proofs.Texts.{all_frames}
use Rattle.paper.proofs.Frames.{kind, ff_no_frame, Longer, rows_meet, row_empty, job_frames, section_frames, link_frames, frames_then}
use Rattle.paper.proofs.Frames.{after_jobs, after_sections}

-- ---- Which frame may follow those of a room

pub data Next (room : Room) : List ℕ → Type 0 where
  a_job : (j : Job) → room.sections ≡ 0 → room.links ≡ 0 → room.jobs < 16 → Next room (job_frame j)
  a_section : (s : Section) → room.links ≡ 0 → room.sections < 32 → Next room (section_frame s)
  a_link : (k : Link) → room.links < 16 → Next room (link_frame k)
  the_end : Next room (0xff ∷ [])

pub next_frame : (room room' : Room) (f : List ℕ) (more : List (List ℕ)) → Carried room' → all_frames room' ≡ frames room ++ (f ∷ more) → Next room f
unfolding all_frames
next_frame room room' f more c e =
    ⊎_elim (λ r. past_jobs r.1) jobs (rows_meet 0xa1 _ _ _ _ _ _ (λ i. refl) (after_jobs room' ff (omega arith)) all)
  where
    ff : List (List ℕ)
    ff = (0xff ∷ []) ∷ []

    all : job_frames room ++ (section_frames room ++ (link_frames room ++ (f ∷ more))) ≡ job_frames room' ++ (section_frames room' ++ (link_frames room' ++ ff))
    all = tail-eq_of_cons-eq (sym (frames_then room (f ∷ more)) ∙ sym e ∙ frames_then room' ff)

    jobs : Longer (λ i. job_frame (job room' i)) room.jobs room'.jobs (section_frames room ++ (link_frames room ++ (f ∷ more))) → Next room f
    jobs l =
        let s = row_empty _ room.sections _ _ (job_frame (job room' l.i)) (omega arith) l.same in
        let k = row_empty _ room.links _ _ (job_frame (job room' l.i)) (omega arith) s.1 in
        subst (Next room) (sym (head-eq_of_cons-eq k.1)) (a_job (job room' l.i) s.0 k.0 (omega (arith, l.fewer, c.jobs)))

    sections : Longer (λ q. section_frame (section room' q)) room.sections room'.sections (link_frames room ++ (f ∷ more)) → Next room f
    sections l =
        let k = row_empty _ room.links _ _ (section_frame (section room' l.i)) (omega arith) l.same in
        subst (Next room) (sym (head-eq_of_cons-eq k.1)) (a_section (section room' l.i) k.0 (omega (arith, l.fewer, c.sections)))

    links : Longer (λ q. link_frame (link room' q)) room.links room'.links (f ∷ more) → Next room f
    links l = subst (Next room) (sym (head-eq_of_cons-eq l.same)) (a_link (link room' l.i) (omega (arith, l.fewer, c.links)))

    past_links : f ∷ more ≡ ff → Next room f
    past_links e = subst (Next room) (sym (head-eq_of_cons-eq e)) the_end

    past_sections : link_frames room ++ (f ∷ more) ≡ link_frames room' ++ ff → Next room f
    past_sections e = ⊎_elim (λ r. past_links r.1) links (rows_meet 0xa3 _ _ _ _ _ _ (λ i. refl) (omega arith) e)

    past_jobs : section_frames room ++ (link_frames room ++ (f ∷ more)) ≡ section_frames room' ++ (link_frames room' ++ ff) → Next room f
    past_jobs e = ⊎_elim (λ r. past_sections r.1) sections (rows_meet 0xa2 _ _ _ _ _ _ (λ i. refl) (after_sections room' ff (omega arith)) e)

-- nothing follows ff
pub end_last : (room room' : Room) (f : List ℕ) (more : List (List ℕ)) → ¬ (all_frames room' ≡ all_frames room ++ (f ∷ more))
unfolding all_frames
end_last room room' f more e =
    let ff : List ℕ = 0xff ∷ [] in
    let n = length (frames room) in
    let a = ap length e ∙ length-append (frames room ++ (ff ∷ [])) (f ∷ more) in
    let h : n < length (frames room') = omega (arith, a, length-append (frames room) (ff ∷ []), length-append (frames room') (ff ∷ [])) in
    let p : get_or (frames room') n [] ≡ ff =
    sym (get_or-append (frames room') (ff ∷ []) [] n h)
    ∙ ap (λ (l : List (List ℕ)). get_or l n []) (e ∙ append_snoc (frames room) ff (f ∷ more))
    ∙ get_or-append_seam (frames room) ff (f ∷ more) []
    in
    ff_no_frame room' (get_or (frames room') n []) (at_in (frames room') [] n h) (ap kind p)

-- ---- One entry more

module _ {A : Type 0} (l : List A) (d x : A) (n : ℕ) where
  -- an entry is stored after the first n
  row_set : {B : Type 0} (g : A → B) → n < length l
      → row (λ i. g (get_or (set l n x) i d)) 0 (n + 1) ≡ row (λ i. g (get_or l i d)) 0 n ++ (g x ∷ [])
  unfolding beginning
  row_set g h =
      let e = beginning_same (λ i. g (get_or (set l n x) i d)) (λ i. g (get_or l i d)) n (λ j k. ap g (get_or-set_other l n j x d (omega arith))) in
      beginning_more (λ i. g (get_or (set l n x) i d)) n ∙ (λ i. e i ++ (g (get_or-set_same l n x d h i) ∷ []))

  pub pad_length : (most : ℕ) → n < most → l ≡ pad d most (λ i. get_or l i d) n → n < length l
  unfolding beginning
  pad_length most h e =
      let r = row (λ i. get_or l i d) 0 n in
      let k = ap length e ∙ length-append r (replicate (most - n) d) in
      omega (arith, beginning_length (λ i. get_or l i d) n, length-replicate (most - n) d)

  pub pad_set : (most : ℕ) → n < most → l ≡ pad d most (λ i. get_or l i d) n → set l n x ≡ pad d most (λ i. get_or (set l n x) i d) (n + 1)
  unfolding beginning
  pad_set most h e =
      let r = row (λ i. get_or l i d) 0 n in
      let zeros = replicate (most - (n + 1)) d in
      let m : most - n ≡ suc (most - (n + 1)) = omega arith in
      ap (λ (k : List A). set k n x) (e ∙ ap (λ (k : ℕ). r ++ replicate k d) m)
      ∙ set_at r d zeros x n (beginning_length (λ i. get_or l i d) n)
      ∙ sym (append_snoc r x zeros)
      ∙ ap (λ (k : List A). k ++ zeros) (sym (row_set (λ y. y) (pad_length most h e)))

abbrev pub with_engines : ℕ → Room
with_engines p = record {
  engines = p;
  jobs = 0;
  sections = 0;
  links = 0;
  job = replicate 16 no_job;
  section = replicate 32 no_section;
  link = replicate 16 no_link;
}

abbrev pub with_job : Room → Job → Room
with_job room j = record {
  engines = room.engines;
  jobs = room.jobs + 1;
  sections = room.sections;
  links = room.links;
  job = set room.job room.jobs j;
  section = room.section;
  link = room.link;
}

abbrev pub with_section : Room → Section → Room
with_section room s = record {
  engines = room.engines;
  jobs = room.jobs;
  sections = room.sections + 1;
  links = room.links;
  job = room.job;
  section = set room.section room.sections s;
  link = room.link;
}

abbrev pub with_link : Room → Link → Room
with_link room k = record {
  engines = room.engines;
  jobs = room.jobs;
  sections = room.sections;
  links = room.links + 1;
  job = room.job;
  section = room.section;
  link = set room.link room.links k;
}

row_none : {A : Type 0} (f : ℕ → A) (n : ℕ) → n ≡ 0 → row f 0 n ≡ []
unfolding row
row_none f n e = ap (row f 0) e

-- one more at the end of a block, where the later blocks are empty
module _ (e a b c : List (List ℕ)) (f : List ℕ) where
  last_job : b ≡ [] → c ≡ [] → e ++ (a ++ (f ∷ [])) ++ b ++ c ≡ e ++ a ++ b ++ c ++ (f ∷ [])
  last_job p q = rw (p, q) (simp (append-nil, append_assoc))

  last_section : c ≡ [] → e ++ a ++ (b ++ (f ∷ [])) ++ c ≡ e ++ a ++ b ++ c ++ (f ∷ [])
  last_section q = rw q (simp (append-nil, append_assoc))

  last_link : e ++ a ++ b ++ (c ++ (f ∷ [])) ≡ e ++ a ++ b ++ c ++ (f ∷ [])
  last_link = simp append_assoc

pub frames_engines : (p : ℕ) → frames (with_engines p) ≡ (0xa0 ∷ p ∷ []) ∷ []
unfolding frames row
frames_engines p = refl

-- the blocks of a room's frames
abbrev blocks : Room → List (List ℕ) → List (List ℕ) → List (List ℕ) → List (List ℕ)
blocks room a b c = (engine_frame room ∷ []) ++ a ++ b ++ c

module _ (room : Room) where
  pub frames_job : (j : Job) → room.sections ≡ 0 → room.links ≡ 0 → room.jobs < length room.job
      → frames (with_job room j) ≡ frames room ++ (job_frame j ∷ [])
  unfolding frames
  frames_job j s k h =
      ap (λ (m : List (List ℕ)). blocks room m (section_frames room) (link_frames room)) (row_set room.job no_job j room.jobs job_frame h)
      ∙ last_job (engine_frame room ∷ []) (job_frames room) (section_frames room) (link_frames room) (job_frame j) (row_none _ _ s) (row_none _ _ k)

  pub frames_section : (s : Section) → room.links ≡ 0 → room.sections < length room.section
      → frames (with_section room s) ≡ frames room ++ (section_frame s ∷ [])
  unfolding frames
  frames_section s k h =
      ap (λ (m : List (List ℕ)). blocks room (job_frames room) m (link_frames room)) (row_set room.section no_section s room.sections section_frame h)
      ∙ last_section (engine_frame room ∷ []) (job_frames room) (section_frames room) (link_frames room) (section_frame s) (row_none _ _ k)

  pub frames_link : (k : Link) → room.links < length room.link → frames (with_link room k) ≡ frames room ++ (link_frame k ∷ [])
  unfolding frames
  frames_link k h =
      ap (blocks room (job_frames room) (section_frames room)) (row_set room.link no_link k room.links link_frame h)
      ∙ last_link (engine_frame room ∷ []) (job_frames room) (section_frames room) (link_frames room) (link_frame k)
