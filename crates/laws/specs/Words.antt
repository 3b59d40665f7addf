-- Places of a mask, and masks made from two.
--   Highest m i     bit i of m is set, and none above it
--   Lowest m i      bit i of m is set, and none below it
--   Without a b m   m has the bits of a that b has not
use Rattle.std.specs.Prelude.{◌≡◌, ℕ, ◌<◌}
use Rattle.laws.specs.Bits.{bit}

pub record Highest (m i : ℕ) : Type 0 where
  pub set : bit m i ≡ 1
  pub above : (j : ℕ) → i < j → bit m j ≡ 0

pub record Lowest (m i : ℕ) : Type 0 where
  pub set : bit m i ≡ 1
  pub below : (j : ℕ) → j < i → bit m j ≡ 0

pub record Without (a b m : ℕ) : Type 0 where
  pub first : (i : ℕ) → bit m i ≡ 1 → bit a i ≡ 1
  pub second : (i : ℕ) → bit m i ≡ 1 → bit b i ≡ 0
  pub all : (i : ℕ) → bit a i ≡ 1 → bit b i ≡ 0 → bit m i ≡ 1
