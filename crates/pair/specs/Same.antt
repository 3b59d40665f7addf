-- What it means that the two planners agree.
--   Agree   two replies have the same numbers, and something else is the same; in a room that is too large nothing is compared
use Rattle.std.specs.Prelude.{◌≡◌, Result, Ok, Err}
use Rattle.paper.specs.declared.Numbers.{Numbers}
use Rattle.second.specs.declared.TooLarge.{TooLarge}

abbrev pub Agree : Numbers → Result Numbers TooLarge → Type 0 → Type 0
Agree first (Ok numbers) Rest = (first ≡ numbers) × Rest
Agree first (Err large) Rest = Unit {0}
