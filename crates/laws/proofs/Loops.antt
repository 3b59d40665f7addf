-- A loop through n entries, one a turn.
--   through_first, through_more   where it begins, and one turn
--   through_all                   where it ends
use Prim.Native.Nat.{ℕ, ◌+◌, ◌≤◌, ◌<◌}
use native.Mathlib.Omega.{arith}
use borrow.Author.Count.{below_none, below_more}
use Rattle.laws.specs.Loops.{Through}

module _ {P : ℕ → Type 0} {n : ℕ} where
  pub through_first : Through P n 0
  through_first = record { within = omega arith; each = below_none _ }

  module _ {i : ℕ} (t : Through P n i) where
    pub through_more : i < n → P i → Through P n (i + 1)
    through_more l p = record { within = omega arith; each = below_more _ _ t.each p }

    pub through_all : n ≤ i → (k : ℕ) → k < n → P k
    through_all l k h = t.each k (omega arith)
