-- Boolean tests joined. They are shut, so that a proof's `_` is found from the goal; the laws are in proofs/Tests.
--   both a b     a and b
--   asks a b     b, where a
--   all n f      f i for every i below n
use Rattle.std.specs.Prelude.{ℕ, zero, suc, Bool, true, false}

unfoldable pub both : Bool → Bool → Bool
both true b = b
both false b = false

unfoldable pub asks : Bool → Bool → Bool
asks true b = b
asks false b = true

unfoldable pub all : ℕ → (ℕ → Bool) → Bool
all zero f = true
all (suc n) f = both (f n) (all n f)
