-- A mask that tells of which numbers something holds.
--   Marks P x             bit i of x is set exactly if P i
--   Below P n             a number below n of which P holds
--   Among a P             a number of the mask a of which P holds
--   Covers f n x          x has at least f k for each k below n
--   Gathering f n q x     it is on its way there: it has those of the k below q
--   Sieve a P x r         r marks numbers of a of which P holds: all of them but those of x, which are still to come
use Rattle.std.specs.Prelude.{ℕ, ◌<◌, ◌≡◌}
use Rattle.laws.specs.Bits.{bit}
use Rattle.laws.specs.Loops.{Through}

pub record Marks (P : ℕ → Type 0) (x : ℕ) : Type 0 where
  pub only : (i : ℕ) → bit x i ≡ 1 → P i
  pub each : (i : ℕ) → P i → bit x i ≡ 1

pub record Below (P : ℕ → Type 0) (n i : ℕ) : Type 0 where
  pub low : i < n
  pub holds : P i

pub record Among (a : ℕ) (P : ℕ → Type 0) (i : ℕ) : Type 0 where
  pub set : bit a i ≡ 1
  pub holds : P i

abbrev pub Covers : (ℕ → ℕ) → ℕ → ℕ → Type 0
Covers f n x = (k : ℕ) → k < n → bit x (f k) ≡ 1

abbrev pub Gathering : (ℕ → ℕ) → ℕ → ℕ → ℕ → Type 0
Gathering f n q x = Through (λ k. bit x (f k) ≡ 1) n q

pub record Sieve (a : ℕ) (P : ℕ → Type 0) (x r : ℕ) : Type 0 where
  pub within : (i : ℕ) → bit x i ≡ 1 → bit a i ≡ 1
  pub only : (i : ℕ) → bit r i ≡ 1 → Among a P i
  pub each : (i : ℕ) → Among a P i → bit x i ≡ 0 → bit r i ≡ 1
