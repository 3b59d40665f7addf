-- How many numbers pass a test.
--   tally f n    how many numbers below n pass the test f
use Rattle.std.specs.Prelude.{ℕ, zero, suc, ◌+◌, Bool, cond}

unfoldable pub tally : (ℕ → Bool) → ℕ → ℕ
tally f zero = 0
tally f (suc n) = tally f n + cond (f n) 1 0
