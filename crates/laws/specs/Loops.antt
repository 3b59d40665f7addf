-- A loop through n entries, one a turn.
--   Through P n i   it came to i: P holds of the entries before that
use Rattle.std.specs.Prelude.{ℕ, ◌≤◌, ◌<◌}

pub record Through (P : ℕ → Type 0) (n i : ℕ) : Type 0 where
  pub within : i ≤ n
  pub each : (k : ℕ) → k < i → P k
