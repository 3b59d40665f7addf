-- Common multiples of the numbers f 0 to f (n - 1).
--   Common f n h        each of them divides h
--   LeastCommon f n h   h is the least positive number that each of them divides
use Rattle.std.specs.Prelude.{ℕ, ◌≤◌, ◌<◌, ◌%◌, ◌≡◌}

abbrev pub Common : (ℕ → ℕ) → ℕ → ℕ → Type 0
Common f n h = (i : ℕ) → i < n → h % f i ≡ 0

pub record LeastCommon (f : ℕ → ℕ) (n h : ℕ) : Type 0 where
  pub positive : 0 < h
  pub common : Common f n h
  pub least : (g : ℕ) → 0 < g → Common f n g → h ≤ g
