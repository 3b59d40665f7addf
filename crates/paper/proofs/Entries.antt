-- What a room text says of its room (01, "Room text"): every used entry; the others are read as zeros.
--   row_one, row_equal            equal rows have the same entries
--   frames_room, used_frames      rooms with the same used entries are those with the same frames
--   used_carried, used_render     they are carried together, and have the same text
--   pad_same, pad_at              n entries and then zeros
--   read_one                      a text gives one room
--   padded, padded_same           a room's used entries and then zeros
--   padded_reads                  which is what its text gives
--   read_writes                   writing what was read gives the same bytes
use mathlib.Core.Path.{◌≡◌, refl, sym, ap, ◌∙◌}
use mathlib.Core.List.{List, [], ◌∷◌, ◌++◌, map, flatten, tail-eq_of_cons-eq}
use Prim.Native.Nat.{ℕ, ◌-◌, ◌<◌}
use native.Mathlib.Omega.{arith}
use lib.ListN.{length, get_or, replicate, get_or-append}
use Rattle.laws.specs.Lists.{row, beginning}
use Rattle.laws.specs.Forks.{One}
use Rattle.laws.proofs.Lists.{beginning_length, beginning_at, beginning_same}
use Rattle.paper.specs.declared.Room.{Room}
use Rattle.paper.specs.declared.Job.{Job}
use Rattle.paper.specs.declared.Section.{Section}
use Rattle.paper.specs.declared.Link.{Link}
use Rattle.paper.specs.Room.{job, section, link, no_job, no_section, no_link, SameUsed}
use Rattle.paper.specs.Text.{line, job_frame, section_frame, link_frame, frames, ending, lines, render, Carried, Read, pad}
use Rattle.paper.proofs.Texts.{render_frames}
use Rattle.paper.proofs.Frames.{rows_same, frames_then, after_jobs, after_sections}

-- ---- Rooms with the same used entries

module _ {A : Type 0} (f g : ℕ → A) (n m : ℕ) where
  -- equal rows have the same length and entries
  pub row_one : row f 0 n ≡ row g 0 m → (n ≡ m) × ((i : ℕ) → i < n → f i ≡ g i)
  unfolding beginning
  row_one e =
      let l : n ≡ m = sym (beginning_length f n) ∙ ap length e ∙ beginning_length g m in
      (l, λ i h. sym (beginning_at f n (f 0) i h) ∙ ap (λ (k : List A). get_or k i (f 0)) e ∙ beginning_at g m (f 0) i (omega arith))

  pub row_equal : n ≡ m → ((i : ℕ) → i < n → f i ≡ g i) → row f 0 n ≡ row g 0 m
  unfolding beginning
  row_equal e h = beginning_same f g n h ∙ ap (beginning g) e

job_one : (j k : Job) → job_frame j ≡ job_frame k → j ≡ k
job_one j k e =
    let a : j.first ≡ k.first = cc in
    let b : j.load ≡ k.load = cc in
    let c : j.deadline ≡ k.deadline = cc in
    let d : j.period ≡ k.period = cc in
    λ i. record { first = a i; load = b i; deadline = c i; period = d i }

section_one : (s t : Section) → section_frame s ≡ section_frame t → s ≡ t
section_one s t e =
    let a : s.job ≡ t.job = cc in
    let b : s.block ≡ t.block = cc in
    let c : s.first ≡ t.first = cc in
    let d : s.after ≡ t.after = cc in
    λ i. record { job = a i; block = b i; first = c i; after = d i }

link_one : (k l : Link) → link_frame k ≡ link_frame l → k ≡ l
link_one k l e =
    let a : k.sender ≡ l.sender = cc in
    let b : k.receiver ≡ l.receiver = cc in
    λ i. record { sender = a i; receiver = b i }

pub frames_room : (room room' : Room) → frames room ≡ frames room' → SameUsed room room'
frames_room room room' e =
    let all = sym (frames_then room []) ∙ ap (λ (fs : List (List ℕ)). fs ++ []) e ∙ frames_then room' [] in
    let rest = tail-eq_of_cons-eq all in
    let a = rows_same 0xa1 _ _ _ _ _ _ (λ i. refl) (after_jobs room' [] (omega arith)) rest (λ i. refl) (after_jobs room [] (omega arith)) in
    let b = rows_same 0xa2 _ _ _ _ _ _ (λ i. refl) (after_sections room' [] (omega arith)) a.1 (λ i. refl) (after_sections room [] (omega arith)) in
    let c = rows_same 0xa3 _ _ _ _ [] [] (λ i. refl) (omega arith) b.1 (λ i. refl) (omega arith) in
    let j = row_one _ _ _ _ a.0 in
    let s = row_one _ _ _ _ b.0 in
    let l = row_one _ _ _ _ c.0 in
    record {
      engines = cc;
      jobs = j.0;
      sections = s.0;
      links = l.0;
      job = λ i h. job_one (job room i) (job room' i) (j.1 i h);
      section = λ q h. section_one (section room q) (section room' q) (s.1 q h);
      link = λ q h. link_one (link room q) (link room' q) (l.1 q h);
    }

module _ (room room' : Room) (s : SameUsed room room') where
  pub used_frames : frames room ≡ frames room'
  unfolding frames
  used_frames =
      let j = row_equal _ _ _ _ s.jobs (λ i h. ap job_frame (s.job i h)) in
      let q = row_equal _ _ _ _ s.sections (λ i h. ap section_frame (s.section i h)) in
      let l = row_equal _ _ _ _ s.links (λ i h. ap link_frame (s.link i h)) in
      λ i. ((0xa0 ∷ s.engines i ∷ []) ∷ []) ++ j i ++ q i ++ l i

  pub used_carried : Carried room → Carried room'
  used_carried c = record {
    jobs = omega (arith, s.jobs, c.jobs);
    sections = omega (arith, s.sections, c.sections);
    links = omega (arith, s.links, c.links);
    bytes = rw used_frames at c.bytes;
  }

  pub used_render : render room ≡ render room'
  unfolding render lines
  used_render = ap (λ (fs : List (List ℕ)). flatten (map line fs ++ (ending ∷ []))) used_frames

-- ---- What is read

module _ {A : Type 0} (d : A) (most : ℕ) where
  pub pad_same : (f g : ℕ → A) (n m : ℕ) → n ≡ m → ((i : ℕ) → i < n → f i ≡ g i) → pad d most f n ≡ pad d most g m
  pad_same f g n m e h = λ i. row_equal f g n m e h i ++ replicate (most - e i) d

  pub pad_at : (f : ℕ → A) (n i : ℕ) → i < n → get_or (pad d most f n) i d ≡ f i
  unfolding beginning
  pad_at f n i h = get_or-append (beginning f n) (replicate (most - n) d) d i (omega (arith, beginning_length f n)) ∙ beginning_at f n d i h

pub read_one : {text : List ℕ} → One (Read text)
read_one room room' r t =
    let s = frames_room room room' (render_frames room room' r.carried t.carried (sym r.same ∙ t.same)) in
    let j = r.job ∙ pad_same no_job 16 (job room) (job room') _ _ s.jobs s.job ∙ sym t.job in
    let q = r.section ∙ pad_same no_section 32 (section room) (section room') _ _ s.sections s.section ∙ sym t.section in
    let l = r.link ∙ pad_same no_link 16 (link room) (link room') _ _ s.links s.link ∙ sym t.link in
    λ i. record {
      engines = s.engines i;
      jobs = s.jobs i;
      sections = s.sections i;
      links = s.links i;
      job = j i;
      section = q i;
      link = l i;
    }

-- a room whose entries beyond the used ones are zeros
unfoldable pub padded : Room → Room
padded room = record {
  engines = room.engines;
  jobs = room.jobs;
  sections = room.sections;
  links = room.links;
  job = pad no_job 16 (job room) room.jobs;
  section = pad no_section 32 (section room) room.sections;
  link = pad no_link 16 (link room) room.links;
}

pub padded_same : (room : Room) → SameUsed room (padded room)
unfolding padded
padded_same room = record {
  engines = refl;
  jobs = refl;
  sections = refl;
  links = refl;
  job = λ i h. sym (pad_at no_job 16 (job room) room.jobs i h);
  section = λ q h. sym (pad_at no_section 32 (section room) room.sections q h);
  link = λ q h. sym (pad_at no_link 16 (link room) room.links q h);
}

-- ---- Reading and writing

pub padded_reads : (room : Room) → Carried room → Read (render room) (padded room)
unfolding padded
padded_reads room c =
    let s = padded_same room in
    record {
      carried = used_carried room (padded room) s c;
      same = used_render room (padded room) s;
      job = pad_same no_job 16 _ _ _ _ refl s.job;
      section = pad_same no_section 32 _ _ _ _ refl s.section;
      link = pad_same no_link 16 _ _ _ _ refl s.link;
    }

-- writing what was read gives the same bytes
pub read_writes : {text : List ℕ} {room : Room} → Read text room → render room ≡ text
read_writes r = sym r.same
