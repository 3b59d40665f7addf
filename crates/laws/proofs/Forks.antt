-- Laws of forks. A tree of forks has one outcome where each of its leaves has one: of two outcomes at different leaves
-- one failed a test that the other passed.
--   fork_one            a fork of two that have one outcome has one
--   settled_one         so has a settled one
--   leaf_one            and a leaf, where at most one i has P i
--   leaf                the outcome u i is at its leaf
--   first_failure_one   there is one number at which a property fails for the first time
use mathlib.Core.Path.{◌≡◌, refl, sym, ap, ◌∙◌}
use mathlib.Core.Logic.{⊎_elim}
use Prim.Native.Nat.{ℕ, ◌≤◌, ◌<◌}
use native.Mathlib.Omega.{arith}
use Rattle.laws.specs.Forks.{One, Fork, fails, passes, Settled, Leaf}
use Rattle.laws.proofs.Tests.{lt_or_le}

module _ {Z : Type 0} where
  pub fork_one : {A : Type 0} {X Y : Z → Type 0} → One X → One Y → One (Fork A X Y)
  fork_one f g z z' (fails a x) (fails b y) = f z z' x y
  fork_one f g z z' (fails a x) (passes b y) = absurd (a b)
  fork_one f g z z' (passes a x) (fails b y) = absurd (b a)
  fork_one f g z z' (passes a x) (passes b y) = g z z' x y

  pub settled_one : (u : Z) → One (Settled u)
  settled_one u z z' e d = e ∙ sym d

  module _ {I : Type 0} {P : I → Type 0} (u : I → Z) where
    pub leaf_one : One P → One (Leaf P u)
    leaf_one f z z' x y = x.same ∙ ap u (f x.value y.value x.holds y.holds) ∙ sym y.same

    pub leaf : (i : I) → P i → Leaf P u (u i)
    leaf i p = record { value = i; holds = p; same = refl }

pub first_failure_one : (P : ℕ → Type 0) {i j : ℕ} → ¬ P i → ((k : ℕ) → k < i → P k) → ¬ P j → ((k : ℕ) → k < j → P k) → i ≡ j
first_failure_one P {i} {j} n f m g =
    ⊎_elim
    (λ (h : i < j). absurd (n (g i h)))
    (λ (h : j ≤ i). ⊎_elim (λ (l : j < i). absurd (m (f j l))) (λ (l : i ≤ j). omega arith) (lt_or_le j i))
    (lt_or_le i j)
