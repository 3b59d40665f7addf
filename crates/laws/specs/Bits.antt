-- Masks as numbers.
--   bit m i      bit i of the mask m: 0 or 1
--   count m n    how many of its bits below n are ones
--   mask_of f n   the mask whose bit i is a one exactly for the i below n with f i
use Rattle.std.specs.Prelude.{ℕ, zero, suc, ◌+◌, ◌^◌, ◌/◌, ◌%◌, Bool, cond}

unfoldable pub bit : ℕ → ℕ → ℕ
bit m i = m / 2 ^ i % 2

unfoldable pub count : ℕ → ℕ → ℕ
count m zero = 0
count m (suc n) = count m n + bit m n

unfoldable pub mask_of : (ℕ → Bool) → ℕ → ℕ
mask_of f zero = 0
mask_of f (suc n) = mask_of f n + cond (f n) (2 ^ n) 0
