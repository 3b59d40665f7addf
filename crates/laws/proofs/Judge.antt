-- The tests of a past say what they test, where the rows are a certificate.
--   walk_T, T_walk   the test of a walk
--   T_inside         a past in the centre
--   T_lost           a past outside it
--   T_outside        the shortest beginning outside
use mathlib.Core.Path.{◌≡◌, subst}
use mathlib.Core.Logic.{◌↔◌}
use mathlib.Core.Bool.{Bool}
use mathlib.Core.List.{List, [], ◌∷◌}
use Prim.Native.Nat.{ℕ, ◌<◌}
use lib.Dec.{T, leb→le, ltb→lt, T_not}
use lib.ListN.{take}
use Rattle.laws.specs.Walks.{after, Walk, stop, go, Alive}
use Rattle.laws.specs.Certificate.{Centre, Outside}
use Rattle.laws.specs.Check.{Found, row_at, find, good?}
use Rattle.laws.specs.Judge.{walk?, found?, living?, inside?, lost?, outside?}
use Rattle.laws.proofs.Tests.{and_T, T_and, T_asks, T_all}
use Rattle.laws.proofs.Check.{row_alive}

module _ {C : Type 0} (test : C → ℕ → Bool) (step : C → ℕ → C) where
  walk_T : {c : C} {l : List ℕ} → Walk test step c l → T (walk? test step c l)
  unfolding walk?
  walk_T stop = tt
  walk_T (go t w) = and_T _ _ t (walk_T w)

  T_walk : (c : C) (l : List ℕ) → T (walk? test step c l) → Walk test step c l
  unfolding walk?
  T_walk c [] t = stop
  T_walk c (m ∷ l) t = let p = T_and _ _ t in go p.0 (T_walk (step c m) l p.1)

module _ {C : Type 0} (same : C → C → Bool) (same_eq : (c d : C) → T (same c d) → c ≡ d) (test : C → ℕ → Bool) (step : C → ℕ → C) (start : C)
    (B : ℕ) (below : (c : C) (m : ℕ) → T (test c m) → m < B) (rows : List (Found C)) (good : T (good? same test step start B rows))
    (same_refl : (c : C) → T (same c c)) where
  living_alive : (c : C) → T (found? same start rows c) → T (living? same start rows c) ↔ Alive test step c
  unfolding found? living?
  living_alive c t =
      let p = T_and _ _ t in
      let j = find same c rows in
      subst (λ d. T (row_at start rows j).living ↔ Alive test step d) (same_eq _ _ p.1)
      (row_alive same same_eq test step start B below rows good same_refl j (ltb→lt _ _ p.0))

  pub T_inside : (l : List ℕ) → T (inside? same test step start rows l) → Centre test step start l
  unfolding inside?
  T_inside l t =
      let p = T_and _ _ t in
      let q = T_and _ _ p.1 in
      (T_walk test step start l p.0, (living_alive _ q.0).0 q.1)

  pub T_lost : (l : List ℕ) → T (lost? same test step start rows l) → ¬ Centre test step start l
  unfolding lost?
  T_lost l t c =
      let q = T_and _ _ (T_asks _ _ t (walk_T test step c.0)) in
      T_not (living? same start rows (after step start l)) q.1 ((living_alive _ q.0).1 c.1)

  pub T_outside : (l : List ℕ) (n : ℕ) → T (outside? same test step start rows l n) → Outside test step start l n
  unfolding outside?
  T_outside l n t =
      let p = T_and _ _ t in
      let q = T_and _ _ p.1 in
      record { within = leb→le _ _ p.0; out = T_lost (take n l) q.0; shorter = λ k h. T_inside (take k l) (T_all n _ q.1 k h) }
