-- What a reply means: demand 2 of a reply to planning, demand 3 of a reply to judging.
--   HasSchedule    an endless schedule exists
--   GoesOn         a past goes on as a prefix and a cycle, repeated for ever
--   Behaves        document 004 has a time-valid behaviour of the room
--   IsDecided        the room is within the limits, and the table is not too long and holds all its configurations
--   PlanFits       the room's plan fits into a buffer
--   Singled        the endless schedule that the paper singles out
--   PlanMeans      planning: each code is given exactly when, and what stands in the buffer
--   ShortestLost   the shortest beginning that does not go on
--   JudgeMeans     judging: each code is given exactly when, and the place
use Rattle.std.specs.Prelude.{ℕ, ◌+◌, ◌≤◌, ◌<◌, ◌≡◌, ◌↔◌, List, length, take}
use Rattle.paper.specs.declared.Room.{Room}
use Rattle.paper.specs.declared.Numbers.{Numbers}
use Rattle.paper.specs.Centre.{beginning, Endless, ForEver}
use Rattle.paper.specs.Plan.{Greatest, unrolled}
use Rattle.paper.specs.Reply.{PlanIs, Decided}
use Rattle.paper.specs.Languages.{DependentValid}

-- ---- What can be

abbrev pub HasSchedule : Room → Type 0
HasSchedule room = (s : ℕ → ℕ) × Endless room s

abbrev pub GoesOn : Room → List ℕ → Type 0
GoesOn room past = (prefix : List ℕ) × (cycle : List ℕ) × ForEver room past prefix cycle

abbrev pub Behaves : Room → Type 0
Behaves room = (l : List ℕ) × DependentValid room l

-- ---- Planning

-- none of 3 to 8 applies, nor TABLE, nor ROOM
abbrev pub IsDecided : Room → List ℕ → Type 0
IsDecided room table₀ = (n : ℕ) × Decided room table₀ n

abbrev pub PlanFits : Room → List ℕ → Type 0
PlanFits room plan₀ = (masks : List ℕ) × (a : ℕ) × PlanIs room masks a × (length masks ≤ length plan₀)

-- an endless schedule that takes in each slot the mask, greatest as a number, that keeps the past in the centre
pub record Singled (room : Room) (s : ℕ → ℕ) : Type 0 where
  pub endless : Endless room s
  pub greatest : (t : ℕ) → Greatest room (beginning s t) (s t)

-- Possible is that an endless schedule exists, said in either way above. Of a decided room planning says GOOD exactly if it is possible and the
-- plan fits, SHORT exactly if it is possible and the plan does not fit, NONE exactly if it is not possible. On GOOD the masks in the buffer, the
-- cycle repeated for ever, are the endless schedule that the paper singles out.
pub record PlanMeans (Possible : Type 0) (room : Room) (table₀ plan₀ : List ℕ) (N : Numbers) (plan : List ℕ) : Type 0 where
  pub good : (N.code ≡ 0) ↔ (IsDecided room table₀ × Possible × PlanFits room plan₀)
  pub none : (N.code ≡ 1) ↔ (IsDecided room table₀ × (¬ Possible))
  pub short : (N.code ≡ 11) ↔ (IsDecided room table₀ × Possible × (¬ PlanFits room plan₀))
  pub schedule : N.code ≡ 0 → Singled room (unrolled (take (N.prefix + N.cycle) plan) N.prefix)

-- ---- Judging

-- n is the length of the shortest beginning of a past that is not Possible
pub record ShortestLost (Possible : List ℕ → Type 0) (past : List ℕ) (n : ℕ) : Type 0 where
  pub within : n ≤ length past
  pub lost : ¬ Possible (take n past)
  pub shortest : (t : ℕ) → t < n → Possible (take t past)

-- Possible is that a past can be continued without end, said in either way above. Of a decided room judging says GOOD exactly if the past is
-- possible, and OUT exactly if it is not, with the length of its shortest lost beginning.
pub record JudgeMeans (Possible : List ℕ → Type 0) (room : Room) (past table₀ : List ℕ) (N : Numbers) : Type 0 where
  pub good : (N.code ≡ 0) ↔ (IsDecided room table₀ × Possible past)
  pub out : (N.code ≡ 12) ↔ (IsDecided room table₀ × (¬ Possible past))
  pub place : N.code ≡ 12 → ShortestLost Possible past N.place
