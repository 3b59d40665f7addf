-- The first value that a sequence has twice.
--   DistinctBelow f n   f has no value twice below n
--   FirstTwice f a b    a value stands at a < b, and before b the sequence has none twice
use Rattle.std.specs.Prelude.{◌≡◌, ◌≢◌, ℕ, ◌<◌}

module _ {A : Type 0} (f : ℕ → A) where
  abbrev pub DistinctBelow : ℕ → Type 0
  DistinctBelow n = (x y : ℕ) → x < y → y < n → f x ≢ f y

  pub record FirstTwice (a b : ℕ) : Type 0 where
    pub earlier : a < b
    pub same : f a ≡ f b
    pub before : DistinctBelow b
