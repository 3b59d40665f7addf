-- Prefix and cycle, the plan, and the endless sequence.
--   path_suc                             one slot more at the end
--   length_follow, take_follow           the masks of n slots: their number, and the first k
--   after_follow                         they lead where the path does
--   beginning_masks                      the first n of all masks are those of n slots
--   greedy_walk, greedy_alive            a greedy walk is a walk, and from an alive one it leads to an alive one
--   greedy_append, greedy_parts          a greedy walk of l ++ k is one of l, and one of k from where l leads
--   plan_forever                         a plan's first a masks and the rest are a prefix and a cycle
--   endless_alive, endless_centre        an endless sequence whose beginnings are walks: it starts at an alive one, and stays in the centre
--   follow_greedy, endless               every beginning of the kept masks is greedy
--   alive_iff_endless                    alive is what has an endless sequence whose beginnings are walks
--   feasible_iff_endless                 any past is in the centre exactly where all beginnings of some endless sequence are
--   comes_again                          within as many slots as there are members a configuration comes again
--   plan_exists, feasible_plan           each living one has a plan; so has the start where any past is in the centre
--   for_ever                             each living one has a prefix and a cycle
--   continues                            every past in the centre goes on as a prefix and a cycle, and stays in the centre
use mathlib.Core.Path.{◌≡◌, refl, sym, ◌∙◌, ap}
use mathlib.Core.Logic.{◌↔◌}
use mathlib.Core.HLevel.{Discrete}
use mathlib.Core.Bool.{Bool}
use mathlib.Core.List.{List, [], ◌∷◌, ◌++◌}
use Prim.Native.Nat.{ℕ, zero, suc, ◌+◌, ◌≤◌, ◌<◌}
use native.Mathlib.Omega.{arith}
use lib.Dec.{T}
use lib.Seq.{take_all}
use lib.ListN.{length, take, drop, length-append, length-drop, take-append-drop}
use Rattle.laws.specs.Lists.{◌∈◌, row, repeated, beginning}
use Rattle.laws.specs.Repeats.{FirstTwice}
use Rattle.laws.specs.Walks.{after, Walk, stop, go, Alive}
use Rattle.laws.specs.Certificate.{Certificate, Centre}
use Rattle.laws.specs.Forever.{path, follow, masks, Greedy, end, pick, Plan, ForEver}
use Rattle.laws.proofs.Lists.{beginning_length, take_beginning}
use Rattle.laws.proofs.Repeats.{first_along, first_twice_exists}
use Rattle.laws.proofs.Walks.{after_append, walk_append, walk_parts}
use Rattle.laws.proofs.Certificate.{best_is_greatest, lives_iff, after_member}

-- ---- One mask at each configuration

module _ {C : Type 0} (step : C → ℕ → C) (best : C → ℕ) where
  path_suc : (c : C) (n : ℕ) → path step best c (suc n) ≡ step (path step best c n) (best (path step best c n))
  unfolding path
  path_suc c zero = refl
  path_suc c (suc n) = path_suc (step c (best c)) n

  length_follow : (c : C) (n : ℕ) → length (follow step best c n) ≡ n
  unfolding follow
  length_follow c zero = refl
  length_follow c (suc n) = ap suc (length_follow (step c (best c)) n)

  take_follow : (c : C) (k n : ℕ) → k ≤ n → take k (follow step best c n) ≡ follow step best c k
  unfolding follow
  take_follow c zero n h = refl
  take_follow c (suc k) zero h = absurd (omega arith)
  take_follow c (suc k) (suc n) h = ap (λ l. best c ∷ l) (take_follow (step c (best c)) k n (omega arith))

  after_follow : (c : C) (n : ℕ) → after step c (follow step best c n) ≡ path step best c n
  unfolding path follow
  after_follow c zero = refl
  after_follow c (suc n) = after_follow (step c (best c)) n

  -- the masks of n slots after i
  row_masks : (c : C) (i n : ℕ) → row (masks step best c) i n ≡ follow step best (path step best c i) n
  unfolding row masks follow
  row_masks c i zero = refl
  row_masks c i (suc n) = ap (λ l. best (path step best c i) ∷ l) (row_masks c (suc i) n ∙ ap (λ d. follow step best d n) (path_suc c i))

  beginning_masks : (c : C) (n : ℕ) → beginning (masks step best c) n ≡ follow step best c n
  unfolding beginning path
  beginning_masks c n = row_masks c 0 n

module _ {C : Type 0} (test : C → ℕ → Bool) (step : C → ℕ → C) where
  -- ---- Greedy walks

  pub greedy_walk : {c : C} {l : List ℕ} → Greedy test step c l → Walk test step c l
  greedy_walk end = stop
  greedy_walk (pick g w) = go g.passes (greedy_walk w)

  greedy_alive : {c : C} {l : List ℕ} → Alive test step c → Greedy test step c l → Alive test step (after step c l)
  greedy_alive a end = a
  greedy_alive a (pick g w) = greedy_alive g.alive w

  pub greedy_append : {c : C} {l k : List ℕ} → Greedy test step c l → Greedy test step (after step c l) k → Greedy test step c (l ++ k)
  greedy_append end v = v
  greedy_append (pick g w) v = pick g (greedy_append w v)

  pub greedy_parts : (c : C) (l k : List ℕ) → Greedy test step c (l ++ k) → Greedy test step c l × Greedy test step (after step c l) k
  greedy_parts c [] k w = (end, w)
  greedy_parts c (m ∷ l) k (pick g w) = let p = greedy_parts (step c m) l k w in (pick g p.0, p.1)

  -- a greedy walk back to where it began, k times
  greedy_repeated : {c : C} {l : List ℕ} → after step c l ≡ c → Greedy test step c l → (k : ℕ) → Greedy test step c (repeated k l)
  unfolding repeated
  greedy_repeated e w zero = end
  greedy_repeated {c} {l} e w (suc k) = greedy_append w (rw e (greedy_repeated e w k))

  -- ---- The plan

  pub plan_forever : {c : C} {a b : ℕ} {l : List ℕ} → Plan test step c a b l → ForEver test step c (take a l) (drop a l)
  plan_forever {c} {a} {b} {l} p =
      let parts = greedy_parts c (take a l) (drop a l) (rw take-append-drop p.greedy) in
      let h : a < b = p.turns.earlier in
      let n : length l ≡ b = p.long in
      let e : after step (after step c (take a l)) (drop a l) ≡ after step c (take a l) =
      sym (after_append step c (take a l) (drop a l))
      ∙ ap (after step c) (take-append-drop a l)
      ∙ ap (after step c) (sym (take_all b l (omega arith)))
      ∙ sym p.turns.same in
      record {
        moves = simp length-drop (omega arith);
        back = e;
        greedy = λ k. greedy_append parts.0 (greedy_repeated e parts.1 k);
      }

  -- ---- Endless sequences

  endless_alive : (c : C) (s : ℕ → ℕ) → ((n : ℕ) → Walk test step c (beginning s n)) → Alive test step c
  endless_alive c s w n = (beginning s n, w n, rw beginning_length (omega arith))

  endless_centre : (start : C) (s : ℕ → ℕ) → ((n : ℕ) → Walk test step start (beginning s n)) → (n : ℕ) → Centre test step start (beginning s n)
  endless_centre start s w n = (
    w n,
    λ k.
        let e : beginning s n ++ drop n (beginning s (n + k)) ≡ beginning s (n + k) =
        ap (λ l. l ++ drop n (beginning s (n + k))) (sym (take_beginning s n (n + k) (omega arith))) ∙ take-append-drop n (beginning s (n + k)) in (
          drop n (beginning s (n + k)),
          (walk_parts test step start (beginning s n) (drop n (beginning s (n + k))) (rw e (w (n + k)))).1,
          simp (length-drop, beginning_length) (omega arith),
        ),
  )

  -- ---- From a certificate

  module _ {start : C} {cs : List C} (z : Certificate test step start cs) where
    step_member : (c : C) → c ∈ cs → T (z.lives c) → step c (z.best c) ∈ cs
    step_member c p v = z.closed c p (z.best c) (z.best_passes c p v)

    path_member : (c : C) → c ∈ cs → T (z.lives c) → (n : ℕ) → path step z.best c n ∈ cs
    unfolding path
    path_member c p v zero = p
    path_member c p v (suc n) = path_member (step c (z.best c)) (step_member c p v) (z.best_lives c p v) n

    follow_greedy : (c : C) → c ∈ cs → T (z.lives c) → (n : ℕ) → Greedy test step c (follow step z.best c n)
    unfolding follow
    follow_greedy c p v zero = end
    follow_greedy c p v (suc n) =
        pick (best_is_greatest test step z c p v) (follow_greedy (step c (z.best c)) (step_member c p v) (z.best_lives c p v) n)

    endless : (c : C) → c ∈ cs → T (z.lives c) → (n : ℕ) → Greedy test step c (beginning (masks step z.best c) n)
    endless c p v n = rw beginning_masks (follow_greedy c p v n)

    alive_iff_endless : (c : C) → c ∈ cs → Alive test step c ↔ ((s : ℕ → ℕ) × ((n : ℕ) → Walk test step c (beginning s n)))
    alive_iff_endless c p = (
      λ a. (masks step z.best c, λ n. greedy_walk (endless c p ((lives_iff test step z c p).1 a) n)),
      λ s. endless_alive c s.0 s.1,
    )

    pub feasible_iff_endless : Centre test step start [] ↔ ((s : ℕ → ℕ) × ((n : ℕ) → Centre test step start (beginning s n)))
    feasible_iff_endless = (
      λ c. let s = (alive_iff_endless start z.starts).0 c.1 in (s.0, endless_centre start s.0 s.1),
      λ s. (stop, endless_alive start s.0 (λ n. (s.1 n).0)),
    )

    module _ (eq? : Discrete C) where
      comes_again : (c : C) → c ∈ cs → T (z.lives c) → (a : ℕ) × (b : ℕ) × (b ≤ length cs) × FirstTwice (path step z.best c) a b
      comes_again c p v = first_twice_exists (path step z.best c) eq? cs (path_member c p v)

      plan_exists : (c : C) → c ∈ cs → T (z.lives c) → (a : ℕ) × (b : ℕ) × (b ≤ length cs) × Plan test step c a b (follow step z.best c b)
      plan_exists c p v =
          let r = comes_again c p v in
          let b : ℕ = r.1 in (
            r.0,
            b,
            r.2,
            record {
              greedy = follow_greedy c p v b;
              long = length_follow step z.best c b;
              turns = first_along (path step z.best c) (λ i. after step c (take i (follow step z.best c b)))
                  (λ k h. sym (ap (after step c) (take_follow step z.best c k b h) ∙ after_follow step z.best c k)) r.3;
            },
          )

      pub feasible_plan : Centre test step start [] → (a : ℕ) × (b : ℕ) × (l : List ℕ) × (b ≤ length cs) × Plan test step start a b l
      feasible_plan c =
          let r = plan_exists start z.starts ((lives_iff test step z start z.starts).1 c.1) in
          (r.0, r.1, follow step z.best start r.1, r.2, r.3)

      for_ever : (c : C) → c ∈ cs → T (z.lives c)
          → (prefix : List ℕ) × (cycle : List ℕ) × (length prefix + length cycle ≤ length cs) × ForEver test step c prefix cycle
      for_ever c p v =
          let r = plan_exists c p v in
          let l : List ℕ = follow step z.best c r.1 in
          let e : length (take r.0 l) + length (drop r.0 l) ≡ r.1 =
          sym (length-append (take r.0 l) (drop r.0 l)) ∙ ap length (take-append-drop r.0 l) ∙ r.3.long in
          let h : r.1 ≤ length cs = r.2 in
          (take r.0 l, drop r.0 l, rw e h, plan_forever r.3)

      pub continues : (l : List ℕ) → Centre test step start l
          → (prefix : List ℕ) × (cycle : List ℕ) × (0 < length cycle) × ((k : ℕ) → Centre test step start (l ++ (prefix ++ repeated k cycle)))
      continues l c =
          let m = after_member test step z c.0 in
          let r = for_ever (after step start l) m ((lives_iff test step z (after step start l) m).1 c.1) in (
            r.0,
            r.1,
            r.3.moves,
            λ k.
                let g = r.3.greedy k in
                (walk_append test step c.0 (greedy_walk g), rw after_append (greedy_alive c.1 g)),
          )
