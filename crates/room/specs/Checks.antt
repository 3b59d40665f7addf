-- What the parts of the check promise.
--   Verdict                                a Boolean that says whether a property holds
--   JobSearch, SectionSearch, LinkSearch   a search for the refusals 5 to 7: where the fault is, or that there is none
--   LeastMultiple                          the least positive multiple of h that t divides
--   JobsWithin                             the multiple of all jobs, at most 4,096, or the job with which it passes that
use Rattle.std.specs.Prelude.{ℕ, ◌*◌, ◌≤◌, ◌<◌, ◌%◌, ◌≡◌, ◌≢◌, Bool, not, T, Option, MatchOption, Result, Ok, Err}
use Rattle.paper.specs.declared.Room.{Room}
use Rattle.paper.specs.Room.{job, section, link, GoodJob, GoodSection, GoodLink, EachJobFits, SectionsFit, LinksFit, Multiple}
use Rattle.paper.specs.Reply.{LeastBad, FirstBad, Passes}

-- ---- Entries

pub record Verdict (fits : Bool) (P : Type 0) : Type 0 where
  pub yes : T fits → P
  pub no : T (not fits) → ¬ P

abbrev pub JobSearch : Room → Option ℕ → Type 0
JobSearch room r = MatchOption r (EachJobFits room) (LeastBad (λ i. GoodJob (job room i)) room.jobs)

abbrev pub SectionSearch : Room → Option ℕ → Type 0
SectionSearch room r = MatchOption r (SectionsFit room) (FirstBad (λ q. GoodSection room (section room q)) room.sections 32)

abbrev pub LinkSearch : Room → Option ℕ → Type 0
LinkSearch room r = MatchOption r (LinksFit room) (FirstBad (λ q. GoodLink room (link room q)) room.links 16)

-- ---- H

pub record LeastMultiple (h t m : ℕ) : Type 0 where
  pub times : ℕ
  pub some : 0 < times
  pub same : m ≡ times * h
  pub divided : m % t ≡ 0
  pub least : (s : ℕ) → 0 < s → s < times → s * h % t ≢ 0

abbrev pub JobsWithin : Room → Result ℕ ℕ → Type 0
JobsWithin room (Ok h) = Multiple room room.jobs h × (h ≤ 4096)
JobsWithin room (Err i) = Passes room i
