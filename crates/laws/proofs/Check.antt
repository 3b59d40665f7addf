-- Rows that pass the test are a certificate.
--   same_discrete    a test of equality decides it
--   checked_places   rows that pass the test, as places
--   checked          and as a certificate
--   row_alive        the living rows are the alive ones
--   row_plan         the plan, where the places that the marks lead to come again
use mathlib.Core.Path.{◌≡◌, sym, ◌∙◌, ap, subst}
use mathlib.Core.Logic.{◌↔◌}
use mathlib.Core.HLevel.{Discrete}
use mathlib.Core.Bool.{Bool, true, false, cond}
use mathlib.Core.List.{List, [], ◌∷◌}
use Prim.Native.Nat.{ℕ, zero, suc, ◌<◌}
use native.Mathlib.Omega.{arith}
use lib.Dec.{T, ltb→lt, lt→ltb, eqb→eq, T_not, not_T}
use lib.ListN.{length, get_or}
use Rattle.laws.specs.Lists.{beginning}
use Rattle.laws.specs.Repeats.{DistinctBelow}
use Rattle.laws.specs.Walks.{Alive, Bound, Dead}
use Rattle.laws.specs.Certificate.{Reached, Certificate}
use Rattle.laws.specs.Places.{Mark, Places}
use Rattle.laws.specs.Forever.{Plan}
use Rattle.laws.specs.Trails.{trail_masks, turns?}
use Rattle.laws.specs.Check.{Found, row_at, find, onward?, reached?, leads?, steps?, row?, good?}
use Rattle.laws.proofs.Tests.{T?, T_and, T_asks, T_all}
use Rattle.laws.proofs.Walks.{bound_step}
use Rattle.laws.proofs.Certificate.{reached_start, reached_step}
use Rattle.laws.proofs.Places.{certify, living_iff}
use Rattle.laws.proofs.Trails.{turns_first, layout_start}

module _ {C : Type 0} (same : C → C → Bool) (same_eq : (c d : C) → T (same c d) → c ≡ d) where
  same_discrete : ((c : C) → T (same c c)) → Discrete C
  same_discrete same_refl c d = elim (T? (same c d)) [ yes t ↦ yes (same_eq c d t) | no n ↦ no (λ e. n (subst (λ x. T (same c x)) e (same_refl c))) ]

  -- what is found within the rows stands there
  find_at : (c : C) (rows : List (Found C)) (r₀ : Found C) → find same c rows < length rows → (get_or rows (find same c rows) r₀).config ≡ c
  unfolding find
  find_at c [] r₀ h = absurd (omega arith)
  find_at c (r ∷ rows) r₀ h = head (same c r.config) (same_eq c r.config) (λ l. find_at c rows r₀ l) h
    where
      head : (b : Bool) → (T b → c ≡ r.config) → (find same c rows < length rows → (get_or rows (find same c rows) r₀).config ≡ c)
          → cond b zero (suc (find same c rows)) < suc (length rows) → (get_or (r ∷ rows) (cond b zero (suc (find same c rows))) r₀).config ≡ c
      head true e rest l = sym (e tt)
      head false e rest l = rest (omega arith)

-- ---- What the test says of a step

onward_living : {C : Type 0} (r q : Found C) (m : ℕ) → T (onward? r q m) → T r.living → r.mask < m → ¬ T q.living
unfolding onward?
onward_living r q m t v h = T_not q.living (T_asks _ _ (T_asks _ _ (T_and _ _ t).0 v) (lt→ltb _ _ h))

onward_dead : {C : Type 0} (r q : Found C) (m : ℕ) → T (onward? r q m) → ¬ T r.living → (¬ T q.living) × (q.rank < r.rank)
unfolding onward?
onward_dead r q m t n = let p = T_and _ _ (T_asks _ _ (T_and _ _ t).1 (not_T r.living n)) in (T_not q.living p.0, ltb→lt _ _ p.1)

-- ---- Rows that pass

module _ {C : Type 0} (same : C → C → Bool) (same_eq : (c d : C) → T (same c d) → c ≡ d) (test : C → ℕ → Bool) (step : C → ℕ → C) (start : C)
    (B : ℕ) (below : (c : C) (m : ℕ) → T (test c m) → m < B) (rows : List (Found C)) (good : T (good? same test step start B rows)) where
  some : 0 < length rows
  unfolding good?
  some = ltb→lt _ _ (T_and _ _ good).0

  each : (j : ℕ) → j < length rows → T (row? same test step start B rows j)
  unfolding good?
  each j h = T_all (length rows) _ (T_and _ _ good).1 j h

  -- each row stands at its first place, so no configuration stands twice
  own : (j : ℕ) → j < length rows → find same (row_at start rows j).config rows ≡ j
  unfolding row?
  own j h = eqb→eq _ _ (T_and _ _ (each j h)).0

  distinct : DistinctBelow (λ j. (row_at start rows j).config) (length rows)
  distinct i j h l e = let q : i ≡ j = sym (own i (omega arith)) ∙ ap (λ c. find same c rows) e ∙ own j l in omega arith

  -- the way from the start, by the rows from which each was found
  found : (j : ℕ) → j < length rows → T (reached? same test step start B rows j)
  unfolding row?
  found j h = (T_and _ _ (T_and _ _ (each j h)).1).0

  found_start : (row_at start rows 0).config ≡ start
  unfolding reached?
  found_start = same_eq _ _ (found zero some)

  reached_row : (k j : ℕ) → j < k → j < length rows → Reached test step start (row_at start rows j).config
  unfolding reached?
  reached_row zero j h l = absurd (omega arith)
  reached_row (suc k) zero h l = subst (Reached test step start) (sym found_start) (reached_start test step start)
  reached_row (suc k) (suc j) h l =
      let f = T_and _ _ (found (suc j) l) in
      let g = T_and _ _ f.1 in
      let i : (row_at start rows (suc j)).from < suc j = ltb→lt _ _ f.0 in
      subst (Reached test step start) (same_eq _ _ g.1)
      (reached_step test step _ (reached_row k (row_at start rows (suc j)).from (omega arith) (omega arith)) g.0)

  -- where a living row leads
  lead : (j : ℕ) → j < length rows → T (row_at start rows j).living
      → T (test (row_at start rows j).config (row_at start rows j).mask)
      × ((row_at start rows j).leads < length rows)
      × T (row_at start rows (row_at start rows j).leads).living
      × ((row_at start rows (row_at start rows j).leads).config ≡ step (row_at start rows j).config (row_at start rows j).mask)
  unfolding row? leads?
  lead j h v =
      let a = T_and _ _ (T_asks _ _ (T_and _ _ (T_and _ _ (T_and _ _ (each j h)).1).1).0 v) in
      let b = T_and _ _ a.1 in
      let c = T_and _ _ b.1 in
      (a.0, ltb→lt _ _ b.0, c.0, same_eq _ _ c.1)

  -- where a step leads: the place, and that row's mark
  to : ℕ → ℕ → ℕ
  to j m = find same (step (row_at start rows j).config m) rows

  stepped : (j : ℕ) → j < length rows → (m : ℕ) → T (test (row_at start rows j).config m)
      → (to j m < length rows) × T (onward? (row_at start rows j) (row_at start rows (to j m)) m)
  unfolding row? steps? to
  stepped j h m t =
      let a = T_and _ _ (T_asks _ _ (T_all B _ (T_and _ _ (T_and _ _ (T_and _ _ (each j h)).1).1).1 m (below _ m t)) t) in
      (ltb→lt _ _ a.0, a.1)

  step_to : (j : ℕ) → j < length rows → (m : ℕ) → T (test (row_at start rows j).config m)
      → (row_at start rows (to j m)).config ≡ step (row_at start rows j).config m
  unfolding to
  step_to j h m t = find_at same same_eq _ rows _ (stepped j h m t).0

  -- a dead row has no walk as long as its rank and one more
  rank_bound : (k j : ℕ) → j < length rows → ¬ T (row_at start rows j).living → (row_at start rows j).rank < k
      → Bound test step k (row_at start rows j).config
  rank_bound zero j h n l = absurd (omega arith)
  rank_bound (suc k) j h n l = bound_step test step k (row_at start rows j).config (λ m t.
      let s = stepped j h m t in
      let d = onward_dead _ _ m s.1 n in
      subst (Bound test step k) (step_to j h m t) (rank_bound k (to j m) s.0 d.0 (omega arith)))

  dead_row : (j : ℕ) → j < length rows → ¬ T (row_at start rows j).living → Dead test step (row_at start rows j).config
  dead_row j h n = (suc (row_at start rows j).rank, rank_bound (suc (row_at start rows j).rank) j h n (omega arith))

  mark_row : (j : ℕ) → j < length rows → Mark test step (row_at start rows j).config (row_at start rows j).living (row_at start rows j).mask
  mark_row j h = record {
    dead = dead_row j h;
    passes = λ v. (lead j h v).0;
    above = λ v m l t.
        let s = stepped j h m t in
        subst (Dead test step) (step_to j h m t) (dead_row (to j m) s.0 (onward_living _ _ m s.1 v l));
  }

  checked_places : Places test step start (λ j. (row_at start rows j).config) (length rows)
      (λ j. (row_at start rows j).living) (λ j. (row_at start rows j).mask) (λ j. (row_at start rows j).leads)
  checked_places = record {
    explored = record {
      distinct = distinct;
      some = some;
      within = omega arith;
      starts = found_start;
      reached = λ j h. reached_row (suc j) j (omega arith) h;
      closed = λ j h m t. (to j m, (stepped j h m t).0, step_to j h m t);
    };
    mark = mark_row;
    inside = λ j h v. (lead j h v).1;
    leads_to = λ j h v. (lead j h v).3;
    leads_on = λ j h v. (lead j h v).2;
  }

  module _ (same_refl : (c : C) → T (same c c)) where
    pub checked : Certificate test step start (beginning (λ j. (row_at start rows j).config) (length rows))
    checked = certify test step (same_discrete same same_eq same_refl) checked_places

    pub row_alive : (j : ℕ) → j < length rows → T (row_at start rows j).living ↔ Alive test step (row_at start rows j).config
    row_alive j h = living_iff test step (same_discrete same same_eq same_refl) checked_places j h

    pub row_plan : (a b : ℕ) → T (row_at start rows 0).living → T (turns? (λ j. (row_at start rows j).leads) 0 a b)
        → Plan test step start a b (trail_masks (λ j. (row_at start rows j).mask) (λ j. (row_at start rows j).leads) 0 b)
    row_plan a b v t = layout_start test step checked_places (same_discrete same same_eq same_refl) a b v (turns_first _ 0 a b t)
