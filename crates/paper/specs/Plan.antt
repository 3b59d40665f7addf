-- The plan (01, "Configurations and the plan").
--   Greatest   the greatest mask that keeps a past in the centre
--   Plan       prefix and cycle as one list, with the length of the prefix
--   unrolled   the mask of each slot, where the cycle is repeated for ever
use Rattle.std.specs.Prelude.{ℕ, ◌-◌, ◌≤◌, ◌<◌, List, [], ◌∷◌, ◌++◌, length, take, get_or}
use Rattle.paper.specs.declared.Room.{Room}
use Rattle.paper.specs.declared.Times.{Times}
use Rattle.paper.specs.Centre.{Centre}
use Rattle.paper.specs.Configuration.{time_position, configuration}
use Rattle.laws.specs.Repeats.{FirstTwice}

-- the mask, greatest as a number, that keeps the past l in the centre
pub record Greatest (room : Room) (l : List ℕ) (m : ℕ) : Type 0 where
  pub stays : Centre room (l ++ (m ∷ []))
  pub greatest : (m' : ℕ) → Centre room (l ++ (m' ∷ [])) → m' ≤ m

-- in each slot that mask, until the first configuration met twice, at slots a < b: the prefix is slots 0 to a - 1, the cycle a to b - 1
pub record Plan (room : Room) (times : Times) (masks : List ℕ) (a : ℕ) : Type 0 where
  pub follows : (t : ℕ) → t < length masks → Greatest room (take t masks) (get_or masks t 0)
  pub turns : FirstTwice (λ t. configuration room times (take t masks)) a (length masks)

-- prefix and cycle as one list, the first a masks the prefix: from slot a on the cycle is repeated for ever, as time positions are from R on
unfoldable pub unrolled : List ℕ → ℕ → ℕ → ℕ
unrolled masks a s = get_or masks (time_position a (length masks - a) s) 0
