-- Searches that end by fuel. What is proved rests on the tests of what they yield and not on how they look for it. The choices are `elim`s,
-- so that nothing is computed that is not asked for.
--   least            the least number from k on that passes, looked for among n
--   least_first      none from k to before it passes
--   add, visit       the rows of a certificate, breadth first: one more unless it is there; all steps from a place by masks below m
--   explore          place by place until none is left, at most n places
--   lead             the greatest mask below m that leads to a living row; where none does, dead, of rank k
--   survivors        how many rows are living
--   mark             deaths by rounds, of which the rank is the number, until a round has none
--   search           all of this: the rows of a certificate of at most n configurations, if there is one
use Prim.Native.Nat.{ℕ, zero, suc, ◌+◌, ◌≤◌, ◌<◌}
use native.Mathlib.Omega.{arith}
use native.Mathlib.Decide.{ℕ_discrete}
use mathlib.Core.Path.{◌≡◌, refl, sym, subst}
use mathlib.Core.Bool.{Bool, true, false, cond}
use mathlib.Core.List.{List, [], ◌∷◌, ◌++◌, map}
use lib.Dec.{T, ltb, eqb}
use lib.ListN.{length}
use Rattle.laws.specs.Check.{Found, row_at, find}

-- ---- A number

unfoldable pub least : (ℕ → Bool) → ℕ → ℕ → ℕ
least f zero k = k
least f (suc n) k = elim (f k) [ true ↦ k | false ↦ least f n (suc k) ]

pub least_first : (f : ℕ → Bool) (n k i : ℕ) → k ≤ i → i < least f n k → ¬ T (f i)
unfolding least
least_first f zero k i h l = absurd (omega arith)
least_first f (suc n) k i h l = head (f k) refl (λ g. least_first f n (suc k) i g) l
  where
    head : (b : Bool) → f k ≡ b → (suc k ≤ i → i < least f n (suc k) → ¬ T (f i)) → i < elim b [ true ↦ k | false ↦ least f n (suc k) ] → ¬ T (f i)
    head true e rest l = absurd (omega arith)
    head false e rest l = elim (ℕ_discrete k i) [ yes z ↦ (λ t. subst T e (subst (λ x. T (f x)) (sym z) t)) | no z ↦ rest (omega arith) l ]

-- ---- A certificate

module _ {C : Type 0} (same : C → C → Bool) (test : C → ℕ → Bool) (step : C → ℕ → C) (start : C) (B : ℕ) where
  unfoldable pub add : ℕ → ℕ → C → List (Found C) → List (Found C)
  add j m c rows = elim (ltb (find same c rows) (length rows)) [
    | true ↦ rows
    | false ↦ rows ++ (record { config = c; living = true; mask = 0; leads = 0; rank = 0; from = j; by = m } ∷ [])
  ]

  unfoldable pub visit : ℕ → C → ℕ → List (Found C) → List (Found C)
  visit j c zero rows = rows
  visit j c (suc m) rows = let found = visit j c m rows in elim (test c m) [ true ↦ add j m (step c m) found | false ↦ found ]

  unfoldable pub explore : ℕ → ℕ → List (Found C) → List (Found C)
  explore zero j rows = rows
  explore (suc n) j rows = elim (ltb j (length rows)) [ true ↦ explore n (suc j) (visit j (row_at start rows j).config B rows) | false ↦ rows ]

  unfoldable pub lead : List (Found C) → ℕ → Found C → ℕ → Found C
  lead rows k r zero = record { config = r.config; living = false; mask = 0; leads = 0; rank = k; from = r.from; by = r.by }
  lead rows k r (suc m) = elim (test r.config m) [
    | true ↦ (
        let j = find same (step r.config m) rows in
        elim (row_at start rows j).living [
          | true ↦ record { config = r.config; living = true; mask = m; leads = j; rank = 0; from = r.from; by = r.by }
          | false ↦ lead rows k r m
        ])
    | false ↦ lead rows k r m
  ]

  unfoldable pub survivors : List (Found C) → ℕ
  survivors [] = 0
  survivors (r ∷ rows) = cond r.living 1 0 + survivors rows

  unfoldable pub mark : ℕ → ℕ → List (Found C) → List (Found C)
  mark zero k rows = rows
  mark (suc n) k rows =
      let marked : List (Found C) = map (λ r. elim r.living [ true ↦ lead rows k r B | false ↦ r ]) rows in
      elim (eqb (survivors marked) (survivors rows)) [ true ↦ marked | false ↦ mark n (suc k) marked ]

  unfoldable pub search : ℕ → List (Found C)
  search n = mark n 0 (explore n 0 (add 0 0 start []))
