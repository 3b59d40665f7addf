-- What `greatest` and `below` answer for a proper law is right. Where no job is hot the law is that of the quiet relation, by
-- which the code went.
--   Split                            m keeps the law, and x is its jobs that need not run
--   greatest_nothing                 no mask keeps the law
--   ready_of                         a law that a mask keeps is ready
--   greatest_apart, greatest_quiet   must, filled up, is the greatest
--   next_nothing                     no job of m can be left out
--   next_lowest, next_few            the lowest that can, and the engines that are left without it
--   next_apart, next_quiet           m without it, filled up from the jobs below, is the greatest below m
use mathlib.Core.Path.{◌≡◌, refl, sym, subst, ◌∙◌}
use mathlib.Core.Bool.{Bool, true, false}
use Prim.Native.Nat.{ℕ, ◌-◌, ◌^◌, ◌≤◌, ◌<◌}
use lib.Bits.{bit_and}
use lib.Pow.{pow_pos}
use lib.Count.{ones}
use Rattle.laws.specs.Bits.{bit}
use Rattle.laws.specs.Words.{Lowest, Without}
use Rattle.laws.specs.Choices.{Mutual, Agree, NextKeeping, GreatestKeeping, NoneBelow, Candidates, Blocked}
use Rattle.laws.proofs.Bits.{bit_beyond, below_of_bits, set_below, clear_bit_other}
use Rattle.laws.proofs.Words.{never, zero_of, zero_bit, one_clear, and_one, one_and, and_pred, lowest_one}
use Rattle.laws.proofs.Choices.{must_keeps, keeps_agree, next_agree, candidates_agree, greatest_next}
use Rattle.laws.proofs.Choices.{filling_first, filling_next, none_next, candidates_next, keeps_less}
use Rattle.choice.specs.declared.Law.{Law}
use Rattle.choice.specs.Laws.{clashes, quiet, KeepsLaw, Ready, Proper, Fills}
use Rattle.choice.proofs.Loops.{without_none}

pub record Split (law : Law) (m x : ℕ) : Type 0 where
  pub proper : Proper law
  pub keeps : KeepsLaw law m
  pub others : Without m law.must x

quiet_mutual : Mutual quiet
quiet_mutual = record { both = λ i j o. never (zero_bit j) o; other = zero_bit }

quiet_blocked : Blocked quiet 0 0
quiet_blocked = record { all = λ i j o p. never (zero_bit i) o; by = λ j o. never (zero_bit j) o }

module _ (law : Law) where
  abbrev must : ℕ
  must = law.must

  abbrev may : ℕ
  may = law.may

  abbrev clash : ℕ → ℕ
  clash = clashes law.clash

  abbrev engines : ℕ
  engines = law.engines

  abbrev free : ℕ
  free = law.free

  abbrev hot : ℕ
  hot = law.hot

  pub greatest_nothing : Proper law → law.none ≡ true → (m : ℕ) → KeepsLaw law m → ⊥
  greatest_nothing p t m a = p.none t (must_keeps must may clash engines a)

  ready_of : Proper law → {m : ℕ} → KeepsLaw law m → Ready law
  ready_of p {m} a = go law.none refl
    where
      go : (b : Bool) → law.none ≡ b → Ready law
      go true t = absurd (greatest_nothing p t m a)
      go false t = p.ready t

  module _ (p : Ready law) where
    -- where no job is hot, none clash
    agree : hot ≡ 0 → Agree may clash quiet
    agree e i j a b =
        zero_of (clash i) j (λ o. never (zero_bit i) (subst (λ (u : ℕ). bit u i ≡ 1) e (p.hot i j a b o))) ∙ sym (zero_bit j)

    agree_back : hot ≡ 0 → Agree may quiet clash
    agree_back e i j a b = sym (agree e i j a b)

    -- ---- The answers of `greatest`

    pub greatest_apart : (r : ℕ) → Fills clash must free (engines - ones must) r → GreatestKeeping must may clash engines r
    greatest_apart r fills =
        let h = filling_first must may clash engines free p.keeps p.free in
        (greatest_next must may clash engines r).1 (fills must may engines (2 ^ 16) p.two h)

    pub greatest_quiet : hot ≡ 0 → (r : ℕ) → Fills quiet must free (engines - ones must) r → GreatestKeeping must may clash engines r
    greatest_quiet e r fills =
        let k = keeps_agree must may clash engines quiet (agree e) p.keeps in
        let s = candidates_agree may clash quiet (agree e) must 16 free k.mays p.free in
        let h = filling_first must may quiet engines free k s in
        (greatest_next must may clash engines r).1
        (next_agree must may engines quiet clash (agree_back e) (fills must may engines (2 ^ 16) quiet_mutual h))

  -- ---- The answers of `below`

  module _ {m x : ℕ} (split : Split law m x) where
    a : KeepsLaw law m
    a = split.keeps

    w : Without m must x
    w = split.others

    p : Ready law
    p = ready_of split.proper a

    pub next_nothing : x ≡ 0 → NoneBelow must may clash engines m
    next_nothing e = none_next must may clash engines m x a w e

    module _ (s : 0 < x) where
      small : x < 2 ^ 16
      small = below_of_bits x 16 (λ i g. zero_of x i (λ o. never (bit_beyond m 16 i a.small g) (w.first i o)))

      -- those but the lowest, and the lowest, as the code has them
      abbrev rest : ℕ
      rest = bit_and x (x - 1)

      abbrev lowest : ℕ
      lowest = x - rest

      abbrev place : ℕ
      place = (lowest_one 16 x s small).0

      low : Lowest x place
      low = (lowest_one 16 x s small).1

      lowest_is : lowest ≡ 2 ^ place
      lowest_is = (lowest_one 16 x s small).2

      set : bit m place ≡ 1
      set = w.first place low.set

      pub next_lowest : (1 ≤ lowest) × (lowest ≤ m)
      next_lowest = rw lowest_is (pow_pos place, set_below m place set)

      pub next_few : ones (m - lowest) ≤ engines
      next_few = rw lowest_is (keeps_less must may clash engines m x a w place low).few

      -- the hot jobs of rest are kept, and are all that are kept, need not run and clash with a job of may
      hot_kept : (k : ℕ) → bit (bit_and rest hot) k ≡ 1 → bit (m - 2 ^ place) k ≡ 1
      hot_kept k o =
          let q = (one_and rest hot k o).0 in
          let d = one_clear x place k low.set (subst (λ (v : ℕ). bit v k ≡ 1) (and_pred x place low) q) in
          clear_bit_other m place k set d.0 ∙ w.first k d.1

      hot_all : (k j : ℕ) → bit (m - 2 ^ place) k ≡ 1 → bit must k ≡ 0 → bit may j ≡ 1 → bit (clash k) j ≡ 1 → bit (bit_and rest hot) k ≡ 1
      hot_all k j o z n q =
          let d = one_clear m place k set o in
          let r = clear_bit_other x place k low.set d.0 ∙ w.all k d.1 z in
          and_one rest hot k (subst (λ (v : ℕ). bit v k ≡ 1) (sym (and_pred x place low)) r) (p.hot k j (a.mays k d.1) n q)

      pub next_apart : (b c r : ℕ) → Blocked clash (bit_and rest hot) b → Without (bit_and free (lowest - 1)) b c
          → Fills clash (m - lowest) c (engines - ones (m - lowest)) r → NextKeeping must may clash engines m r
      next_apart b c r t u fills =
          let s = candidates_next must may clash engines m x a w place low free (bit_and rest hot) b c p.free t (rw lowest_is at u) hot_kept hot_all in
          fills must may engines m p.two (rw lowest_is (filling_next must may clash engines m x a w place low c s))

      candidates_quiet : hot ≡ 0 → Candidates may quiet (m - 2 ^ place) place (bit_and free (2 ^ place - 1))
      candidates_quiet e =
          let k = keeps_agree must may clash engines quiet (agree p e) a in
          let f = candidates_agree may clash quiet (agree p e) must 16 free (λ i o. k.mays i (k.musts i o)) p.free in
          let c = bit_and free (2 ^ place - 1) in
          candidates_next must may quiet engines m x k w place low free 0 0 c f quiet_blocked (without_none c)
          (λ i o. never (zero_bit i) o)
          (λ i j o z n q. never (zero_bit j) q)

      pub next_quiet : hot ≡ 0 → (r : ℕ) → Fills quiet (m - lowest) (bit_and free (lowest - 1)) (engines - ones (m - lowest)) r
          → NextKeeping must may clash engines m r
      next_quiet e r fills =
          let k = keeps_agree must may clash engines quiet (agree p e) a in
          let c = bit_and free (2 ^ place - 1) in
          let h = filling_next must may quiet engines m x k w place low c (candidates_quiet e) in
          next_agree must may engines quiet clash (agree_back p e) (fills must may engines m quiet_mutual (rw lowest_is h))
