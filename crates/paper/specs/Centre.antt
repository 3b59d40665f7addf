-- The centre (01, "One slot, one past"), and schedules without end.
--   Continues    an admissible continuation of at least n slots
--   Centre       a past in the centre
--   Feasible     a room whose empty past is in the centre
--   Outside      the length of the shortest beginning outside the centre
--   Endless      an endless schedule
--   ForEver      a past that goes on as a prefix and a cycle repeated for ever
use Rattle.std.specs.Prelude.{ℕ, ◌≤◌, ◌<◌, List, [], ◌++◌, length, take}
use Rattle.paper.specs.declared.Room.{Room}
use Rattle.paper.specs.Past.{Admissible}
unfoldable pub use Rattle.laws.specs.Lists.{repeated, beginning}

-- an admissible continuation at least n slots long
pub record Continues (room : Room) (l : List ℕ) (n : ℕ) : Type 0 where
  pub rest : List ℕ
  pub long : n ≤ length rest
  pub keeps : Admissible room (l ++ rest)

-- a past is in the centre if it is admissible and for every number there is an admissible continuation at least that long
pub record Centre (room : Room) (l : List ℕ) : Type 0 where
  pub admissible : Admissible room l
  pub continues : (n : ℕ) → Continues room l n

-- a room is feasible if the empty past is in the centre
abbrev pub Feasible : Room → Type 0
Feasible room = Centre room []

-- n is the length of the shortest beginning of l outside the centre
pub record Outside (room : Room) (l : List ℕ) (n : ℕ) : Type 0 where
  pub within : n ≤ length l
  pub outside : ¬ Centre room (take n l)
  pub shortest : (t : ℕ) → t < n → Centre room (take t l)

-- an endless schedule: a mask for each slot, all of whose beginnings are admissible
abbrev pub Endless : Room → (ℕ → ℕ) → Type 0
Endless room s = (n : ℕ) → Admissible room (beginning s n)

-- after the past l, a prefix and then a cycle, repeated for ever
pub record ForEver (room : Room) (l prefix cycle : List ℕ) : Type 0 where
  pub turns : 0 < length cycle
  pub keeps : (n : ℕ) → Admissible room (l ++ prefix ++ repeated n cycle)
