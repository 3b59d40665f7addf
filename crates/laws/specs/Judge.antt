-- A past judged by the rows of a certificate, by computing.
--   walk? c l      the masks of l pass one after the other, from c on
--   found? c       c stands at the place that is found for it
--   living? c      the row found for c is a living one
--   inside? l      l is a walk, and leads to a living row
--   lost? l        where l is a walk, it leads to a dead row
--   outside? l n   the first n masks of l are lost, and fewer are inside
use Rattle.std.specs.Prelude.{Bool, true, not, List, [], ◌∷◌, ℕ, ltb, leb, length, take}
use Rattle.laws.specs.Tests.{both, asks, all}
use Rattle.laws.specs.Walks.{after}
use Rattle.laws.specs.Check.{Found, row_at, find}

unfoldable pub walk? : {C : Type 0} → (C → ℕ → Bool) → (C → ℕ → C) → C → List ℕ → Bool
walk? test step c [] = true
walk? test step c (m ∷ l) = both (test c m) (walk? test step (step c m) l)

module _ {C : Type 0} (same : C → C → Bool) (start : C) (rows : List (Found C)) where
  unfoldable pub found? : C → Bool
  found? c = let j = find same c rows in both (ltb j (length rows)) (same (row_at start rows j).config c)

  unfoldable pub living? : C → Bool
  living? c = (row_at start rows (find same c rows)).living

module _ {C : Type 0} (same : C → C → Bool) (test : C → ℕ → Bool) (step : C → ℕ → C) (start : C) (rows : List (Found C)) where
  unfoldable pub inside? : List ℕ → Bool
  inside? l = let c = after step start l in both (walk? test step start l) (both (found? same start rows c) (living? same start rows c))

  unfoldable pub lost? : List ℕ → Bool
  lost? l = let c = after step start l in asks (walk? test step start l) (both (found? same start rows c) (not (living? same start rows c)))

  unfoldable pub outside? : List ℕ → ℕ → Bool
  outside? l n = both (leb n (length l)) (both (lost? (take n l)) (all n (λ k. inside? (take k l))))
