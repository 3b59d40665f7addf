-- The frames of a room (01, "Room text"). Those of one kind stand together and begin with the kind's own byte, so that one sees where a block
-- ends.
--   job_frames, section_frames, link_frames   the blocks of a room
--   Entry, in_frames                       its frames, one by one
--   kind, opens                            the first byte of a frame; that of the first frame of a list
--   ff_no_frame                            `ff` is no frame of a room
--   carried_entries, limits_carried        a room of bytes within the counts is carried, and so is one within the limits
--   Longer, rows_meet                      of two equal lists that begin with frames of one kind, one has more of them, or they have the same
--   rows_same                              they have the same where neither goes on with that kind
--   row_empty                              a list that opens with another kind begins with none of a kind
--   frames_then                            the frames of a room, and more, block by block
--   after_jobs, after_sections             what follows a block is of another kind
use mathlib.Core.Path.{◌≡◌, refl, sym, ap, ◌∙◌, subst}
use mathlib.Core.Logic.{◌⊎◌, inl, inr, ◌≢◌, ⊎_elim}
use mathlib.Core.List.{List, [], ◌∷◌, ◌++◌, append_assoc, append-nil}
use mathlib.Core.List.Memᴰ
use Prim.Native.Nat.{ℕ, zero, suc, ◌≤◌, ◌<◌}
use native.Mathlib.Omega.{arith}
use lib.Dec.{lit<}
use lib.ListN.{length, get_or, length-append}
use Rattle.laws.specs.Lists.{◌∈◌, row, beginning}
use Rattle.laws.proofs.Lists.{beginning_length, in_beginning_at}
use Rattle.paper.specs.declared.Room.{Room}
use Rattle.paper.specs.Room.{job, section, link, Limits}
use Rattle.paper.specs.Text.{engine_frame, job_frame, section_frame, link_frame, frames, Carried}
use Rattle.paper.proofs.Lines.{Bytes, bytes_none, bytes_more}

-- ---- The frames of a room

abbrev pub job_frames : Room → List (List ℕ)
job_frames room = row (λ i. job_frame (job room i)) 0 room.jobs

abbrev pub section_frames : Room → List (List ℕ)
section_frames room = row (λ q. section_frame (section room q)) 0 room.sections

abbrev pub link_frames : Room → List (List ℕ)
link_frames room = row (λ q. link_frame (link room q)) 0 room.links

pub data Entry (room : Room) : List ℕ → Type 0 where
  of_engines : Entry room (engine_frame room)
  of_job : (i : ℕ) → i < room.jobs → Entry room (job_frame (job room i))
  of_section : (q : ℕ) → q < room.sections → Entry room (section_frame (section room q))
  of_link : (q : ℕ) → q < room.links → Entry room (link_frame (link room q))

pub in_frames : (room : Room) (f : List ℕ) → f ∈ frames room → Entry room f
unfolding frames beginning
in_frames room f p =
    ⊎_elim (λ p. ⊎_elim (λ p. ⊎_elim first jobs (Memᴰ.append_cases _ p)) sections (Memᴰ.append_cases _ p)) links (Memᴰ.append_cases _ p)
  where
    first : f ∈ engine_frame room ∷ [] → Entry room f
    first p = subst (Entry room) (sym (Memᴰ.eq_of_singleton p)) of_engines

    jobs : f ∈ job_frames room → Entry room f
    jobs p = let r = in_beginning_at (λ i. job_frame (job room i)) room.jobs p in subst (Entry room) r.2 (of_job r.0 r.1)

    sections : f ∈ section_frames room → Entry room f
    sections p = let r = in_beginning_at (λ q. section_frame (section room q)) room.sections p in subst (Entry room) r.2 (of_section r.0 r.1)

    links : f ∈ link_frames room → Entry room f
    links p = let r = in_beginning_at (λ q. link_frame (link room q)) room.links p in subst (Entry room) r.2 (of_link r.0 r.1)

-- the kind of a frame is its first byte
abbrev pub kind : List ℕ → ℕ
kind frame = get_or frame 0 0

abbrev pub opens : List (List ℕ) → ℕ
opens fs = kind (get_or fs 0 [])

entry_kind : {room : Room} {f : List ℕ} → Entry room f → kind f < 0xff
entry_kind of_engines = lit< tt
entry_kind (of_job i h) = lit< tt
entry_kind (of_section q h) = lit< tt
entry_kind (of_link q h) = lit< tt

pub ff_no_frame : (room : Room) (f : List ℕ) → f ∈ frames room → kind f ≢ 0xff
ff_no_frame room f p e = omega (arith, entry_kind (in_frames room f p))

-- ---- Rooms that a text can carry

module _ (room : Room) (jobs : room.jobs ≤ 16) (sections : room.sections ≤ 32) (links : room.links ≤ 16)
    (engines : room.engines < 256)
    (job_bytes_lem : (i : ℕ) → i < room.jobs → Bytes (job_frame (job room i)))
    (section_bytes_lem : (q : ℕ) → q < room.sections → Bytes (section_frame (section room q)))
    (link_bytes_lem : (q : ℕ) → q < room.links → Bytes (link_frame (link room q))) where
  pub carried_entries : Carried room
  carried_entries = record { jobs = jobs; sections = sections; links = links; bytes = λ f p. bytes f (in_frames room f p) }
    where
      bytes : (f : List ℕ) → Entry room f → Bytes f
      bytes f of_engines = bytes_more (lit< tt) (bytes_more engines bytes_none)
      bytes f (of_job i h) = job_bytes_lem i h
      bytes f (of_section q h) = section_bytes_lem q h
      bytes f (of_link q h) = link_bytes_lem q h

pub limits_carried : (room : Room) → Limits room → Carried room
limits_carried room l = carried_entries room l.jobs.1 l.sections.0 l.links.0 (omega (arith, l.engines.1)) jobs sections links
  where
    jobs : (i : ℕ) → i < room.jobs → Bytes (job_frame (job room i))
    jobs i h =
        let g = l.job i h in
        bytes_more (lit< tt)
        (bytes_more (omega arith) (bytes_more (omega arith) (bytes_more (omega arith) (bytes_more (omega arith) bytes_none))))

    sections : (q : ℕ) → q < room.sections → Bytes (section_frame (section room q))
    sections q h =
        let g = l.sections.1 q h in
        let j = l.job (section room q).job g.known in
        let n = l.jobs.1 in
        bytes_more (lit< tt)
        (bytes_more (omega arith) (bytes_more (omega arith) (bytes_more (omega arith) (bytes_more (omega arith) bytes_none))))

    links : (q : ℕ) → q < room.links → Bytes (link_frame (link room q))
    links q h =
        let g = l.links.1 q h in
        let n = l.jobs.1 in
        bytes_more (lit< tt) (bytes_more (omega arith) (bytes_more (omega arith) bytes_none))

-- ---- Blocks of one kind

-- where gs opens with another kind, the frames of the kind x before fs begin those before gs, and the others of those begin fs
kind_block : (x : ℕ) (a b fs gs : List (List ℕ)) → ((f : List ℕ) → f ∈ a → kind f ≡ x) → opens gs ≢ x → a ++ fs ≡ b ++ gs
    → (c : List (List ℕ)) × (b ≡ a ++ c) × (fs ≡ c ++ gs)
kind_block x [] b fs gs k o e = (b, refl, e)
kind_block x (f ∷ a) [] fs gs k o e = absurd (o (ap opens (sym e) ∙ k f (Memᴰ.head refl)))
kind_block x (f ∷ a) (g ∷ b) fs gs k o e =
    let p : f ≡ g = cc in
    let q : a ++ fs ≡ b ++ gs = cc in
    let r = kind_block x a b fs gs (λ h m. k h (Memᴰ.tail m)) o q in
    (r.0, λ i. sym p i ∷ r.1 i, r.2)

-- g has m frames, more than n, and fs begins with one of them
pub record Longer (g : ℕ → List ℕ) (n m : ℕ) (fs : List (List ℕ)) : Type 0 where
  pub fewer : n < m
  pub i : ℕ
  pub rest : List (List ℕ)
  pub same : fs ≡ g i ∷ rest

-- the frames of f, of the kind x, and then fs, are those of g, and then gs, which opens with another kind
module _ (x : ℕ) (f g : ℕ → List ℕ) (n m : ℕ) (fs gs : List (List ℕ)) (kinds : (i : ℕ) → kind (f i) ≡ x) (other : opens gs ≢ x)
    (e : row f 0 n ++ fs ≡ row g 0 m ++ gs) where
  pub rows_meet : ((row f 0 n ≡ row g 0 m) × (fs ≡ gs)) ⊎ Longer g n m fs
  unfolding beginning
  rows_meet =
      let r = kind_block x (row f 0 n) (row g 0 m) fs gs (λ h p. let w = in_beginning_at f n p in ap kind (sym w.2) ∙ kinds w.0) other e in
      go r.0 r.1 r.2
    where
      go : (c : List (List ℕ)) → row g 0 m ≡ row f 0 n ++ c → fs ≡ c ++ gs → ((row f 0 n ≡ row g 0 m) × (fs ≡ gs)) ⊎ Longer g n m fs
      go [] p q = inl (sym (p ∙ append-nil (row f 0 n)), q)
      go (h ∷ c) p q =
          let l = ap length p ∙ length-append (row f 0 n) (h ∷ c) in
          let w = in_beginning_at {x = h} g m (rw p (Memᴰ.append_right (row f 0 n) (Memᴰ.head refl))) in
          inr (record {
            fewer = omega (arith, beginning_length g m, beginning_length f n);
            i = w.0;
            rest = c ++ gs;
            same = q ∙ (λ i. sym w.2 i ∷ (c ++ gs));
          })

  pub rows_same : ((i : ℕ) → kind (g i) ≡ x) → opens fs ≢ x → (row f 0 n ≡ row g 0 m) × (fs ≡ gs)
  rows_same k o = ⊎_elim (λ r. r) (λ (l : Longer g n m fs). absurd (o (ap opens l.same ∙ k l.i))) rows_meet

-- a row that does not open with the kind of h, before what begins with h, is empty
pub row_empty : (f : ℕ → List ℕ) (n : ℕ) (fs gs : List (List ℕ)) (h : List ℕ) → kind (f 0) ≢ kind h → row f 0 n ++ fs ≡ h ∷ gs
    → (n ≡ 0) × (fs ≡ h ∷ gs)
unfolding row
row_empty f zero fs gs h d e = (refl, e)
row_empty f (suc n) fs gs h d e = absurd (d (ap opens e))

opens_row : (x : ℕ) (f : ℕ → List ℕ) (fs : List (List ℕ)) (n : ℕ) → kind (f 0) ≢ x → opens fs ≢ x → opens (row f 0 n ++ fs) ≢ x
unfolding row
opens_row x f fs zero g h = h
opens_row x f fs (suc n) g h = g

-- ---- The blocks of a room, one after another

pub frames_then : (room : Room) (fs : List (List ℕ))
    → frames room ++ fs ≡ engine_frame room ∷ (job_frames room ++ (section_frames room ++ (link_frames room ++ fs)))
unfolding frames
frames_then room fs = simp append_assoc

-- what follows the jobs opens with no job, and what follows the sections with no section
module _ (room : Room) (fs : List (List ℕ)) where
  pub after_jobs : opens fs ≢ 0xa1 → opens (section_frames room ++ (link_frames room ++ fs)) ≢ 0xa1
  after_jobs o = opens_row 0xa1 _ (link_frames room ++ fs) room.sections (omega arith) (opens_row 0xa1 _ fs room.links (omega arith) o)

  pub after_sections : opens fs ≢ 0xa2 → opens (link_frames room ++ fs) ≢ 0xa2
  after_sections o = opens_row 0xa2 _ fs room.links (omega arith) o
