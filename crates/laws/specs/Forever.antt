-- Following one mask at each configuration, and the plan.
--   path c n                  the configuration after n slots, where the mask `best` is taken everywhere
--   follow c n                the masks of these slots
--   masks c                   all its masks, an endless sequence
--   Greedy c l                a walk each of whose masks is the greatest one
--   Plan c a b l              the greatest masks until a configuration comes again: that of slot b is that of slot a
--   ForEver c prefix cycle    the prefix, then the cycle as often as one likes: every mask is the greatest, and the cycle leads back
use Rattle.std.specs.Prelude.{◌≡◌, Bool, List, [], ◌∷◌, ◌++◌, ℕ, zero, suc, ◌<◌, length, take}
use Rattle.laws.specs.Lists.{repeated}
use Rattle.laws.specs.Repeats.{FirstTwice}
use Rattle.laws.specs.Walks.{after}
use Rattle.laws.specs.Certificate.{Greatest}

module _ {C : Type 0} (step : C → ℕ → C) (best : C → ℕ) where
  unfoldable pub path : C → ℕ → C
  path c zero = c
  path c (suc n) = path (step c (best c)) n

  unfoldable pub follow : C → ℕ → List ℕ
  follow c zero = []
  follow c (suc n) = best c ∷ follow (step c (best c)) n

  unfoldable pub masks : C → ℕ → ℕ
  masks c n = best (path c n)

module _ {C : Type 0} (test : C → ℕ → Bool) (step : C → ℕ → C) where
  pub data Greedy : C → List ℕ → Type 0 where
    end : {c : C} → Greedy c []
    pick : {c : C} {m : ℕ} {l : List ℕ} → Greatest test step c m → Greedy (step c m) l → Greedy c (m ∷ l)

  pub record Plan (c : C) (a b : ℕ) (l : List ℕ) : Type 0 where
    pub greedy : Greedy c l
    pub long : length l ≡ b
    pub turns : FirstTwice (λ i. after step c (take i l)) a b

  pub record ForEver (c : C) (prefix cycle : List ℕ) : Type 0 where
    pub moves : 0 < length cycle
    pub back : after step (after step c prefix) cycle ≡ after step c prefix
    pub greedy : (k : ℕ) → Greedy c (prefix ++ repeated k cycle)
