-- The reply to a room text, by its numbers: TEXT, with all memory as found, or what the planner answers of the room read.
--   OfAnswer      the numbers of an answer that keeps a promise
--   OfText        the numbers of the reply to a text: to its first bad line, or to the room read
--   CheckOfText, PlanOfText, JudgeOfText   the replies of checking, planning and judging
use Rattle.std.specs.Prelude.{ℕ, ◌≡◌, List, Ok, Err}
use Rattle.paper.specs.declared.Room.{Room}
use Rattle.paper.specs.declared.Numbers.{Numbers}
use Rattle.paper.specs.declared.BadLine.{BadLine}
use Rattle.paper.specs.Reply.{checked_numbers, planned_numbers, judged_numbers, reading_numbers, ReadReply, CheckReply, PlanReply, JudgeReply}

-- some answer keeps the promise, and N are its numbers
pub record OfAnswer {A : Type 0} (numbers : A → Numbers) (Promised : A → Type 0) (N : Numbers) : Type 0 where
  pub answer : A
  pub promised : Promised answer
  pub told : N ≡ numbers answer

-- the text has a first bad line and Found holds; or a room is read, and N are the numbers of Of
pub data OfText (text : List ℕ) (Of : Room → Numbers → Type 0) (Found : Type 0) : Numbers → Type 0 where
  broken : {N : Numbers} (bad : BadLine) → ReadReply text (Err bad) → N ≡ reading_numbers (Err bad) → Found → OfText text Of Found N
  good : {N : Numbers} (room : Room) → ReadReply text (Ok room) → Of room N → OfText text Of Found N

-- of checking
abbrev pub CheckOfText : List ℕ → Numbers → Type 0
CheckOfText text = OfText text (λ room. OfAnswer checked_numbers (CheckReply room)) (Unit {0})

-- of planning; TEXT leaves table and plan buffer as found
abbrev pub PlanOfText : List ℕ → List ℕ → List ℕ → List ℕ → List ℕ → Numbers → Type 0
PlanOfText text table₀ plan₀ table plan =
    OfText text (λ room. OfAnswer planned_numbers (λ r. PlanReply room table₀ plan₀ r table plan)) ((table ≡ table₀) × (plan ≡ plan₀))

-- of judging; TEXT leaves the table as found
abbrev pub JudgeOfText : List ℕ → List ℕ → List ℕ → List ℕ → Numbers → Type 0
JudgeOfText text past table₀ table = OfText text (λ room. OfAnswer judged_numbers (λ r. JudgeReply room past table₀ r table)) (table ≡ table₀)
