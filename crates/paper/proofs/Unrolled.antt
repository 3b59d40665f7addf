-- A plan for ever: a list of masks, the first a of them the prefix, unrolled slot by slot. Its beginnings are the prefix and the cycle n times, so
-- what is known of these is known of every slot.
--   unrolled_prefix, unrolled_cycle   the mask of a slot of the prefix, and of one of the cycle, the n-th time round
--   beginning_unrolled                prefix and cycle, the cycle n times, are a beginning
--   unrolled_cut                      and every beginning is one of these, cut
--   for_ever_unrolled                 what keeps the rules for ever is an endless schedule
--   plan_unrolled                     a plan is one, made of the greatest masks
use Prim.Native.Nat.{ℕ, zero, suc, ◌+◌, ◌*◌, ◌-◌, ◌≤◌, ◌<◌}
use native.Mathlib.Omega.{arith}
use native.Mathlib.Nat.{zero-add, zero-mul, suc-mul, mul-le-mul_left}
use native.Mathlib.Numerals.{add-one}
use mathlib.Core.Path.{◌≡◌, sym, ap, ap₂, ◌∙◌, subst}
use mathlib.Core.List.{List, [], ◌++◌, append_assoc, append-nil}
use lib.ListN.{length, take, drop, get_or, length-drop}
use lib.Seq.{length-take-le, get_or-take, get_or-drop}
use Rattle.paper.specs.declared.Room.{Room}
use Rattle.paper.specs.declared.Times.{Times}
use Rattle.paper.specs.Room.{Clock, Limits}
use Rattle.paper.specs.Centre.{repeated, beginning, Endless, ForEver}
use Rattle.paper.specs.Plan.{Greatest, Plan, unrolled}
use Rattle.paper.specs.Means.{Singled}
use Rattle.laws.specs.Lists.{row}
use Rattle.laws.proofs.Lists.{row_add, row_list, beginning_at, take_beginning, beginning_length, repeated_more}
use Rattle.paper.proofs.Beginnings.{take_admissible}
use Rattle.paper.proofs.Steps.{position_early, position_at}
use Rattle.paper.proofs.Plans.{Follows, plan_for_ever}

module _ (masks : List ℕ) (a : ℕ) (turns : a < length masks) where
  -- the length of the cycle
  abbrev L : ℕ
  L = length masks - a

  pub unrolled_prefix : (t : ℕ) → t < a → unrolled masks a t ≡ get_or masks t 0
  unfolding unrolled
  unrolled_prefix t h = ap (λ (j : ℕ). get_or masks j 0) (position_early a _ t h)

  pub unrolled_cycle : (n t : ℕ) → t < L → unrolled masks a (a + n * L + t) ≡ get_or masks (a + t) 0
  unfolding unrolled
  unrolled_cycle n t h =
      let e : a + n * L + t ≡ a + (n * L + t) = omega arith in
      ap (λ (j : ℕ). get_or masks j 0) (position_at a L (a + n * L + t) n t h e)

  prefix_row : row (unrolled masks a) 0 a ≡ take a masks
  prefix_row =
      let e : length (take a masks) ≡ a = length-take-le a masks (omega arith) in
      rw e at (row_list (unrolled masks a) 0 (take a masks) 0
      (λ j h. ap (unrolled masks a) (zero-add j) ∙ unrolled_prefix j (omega arith) ∙ sym (get_or-take a masks j 0 (omega arith))))

  cycle_row : (n : ℕ) → row (unrolled masks a) (a + n * L) L ≡ drop a masks
  cycle_row n =
      let e = length-drop a masks in
      rw e at (row_list (unrolled masks a) (a + n * L) (drop a masks) 0
      (λ j h. unrolled_cycle n j (omega arith) ∙ sym (get_or-drop a masks j 0)))

  once_more : (n : ℕ) → beginning (unrolled masks a) (a + n * L) ≡ take a masks ++ repeated n (drop a masks)
      → beginning (unrolled masks a) (a + (n + 1) * L) ≡ take a masks ++ repeated (n + 1) (drop a masks)
  unfolding beginning
  once_more n back =
      let e : a + (n + 1) * L ≡ a + n * L + L = omega (arith, suc-mul n L, add-one n) in
      ap (row (unrolled masks a) 0) e
      ∙ row_add (unrolled masks a) 0 (a + n * L) L
      ∙ ap₂ (λ (l k : List ℕ). l ++ k) back (ap (λ (i : ℕ). row (unrolled masks a) i L) (zero-add (a + n * L)) ∙ cycle_row n)
      ∙ append_assoc (take a masks) (repeated n (drop a masks)) (drop a masks)
      ∙ ap (λ (l : List ℕ). take a masks ++ l) (sym (repeated_more n (drop a masks)))

  pub beginning_unrolled : (n : ℕ) → beginning (unrolled masks a) (a + n * L) ≡ take a masks ++ repeated n (drop a masks)
  unfolding beginning repeated
  beginning_unrolled zero =
      let e : a + 0 * L ≡ a = omega (arith, zero-mul L) in
      ap (row (unrolled masks a) 0) e ∙ prefix_row ∙ sym (append-nil (take a masks))
  beginning_unrolled (suc n) =
      subst (λ (k : ℕ). beginning (unrolled masks a) (a + k * L) ≡ take a masks ++ repeated k (drop a masks)) (add-one n) (once_more n (beginning_unrolled n))

  pub unrolled_cut : (n : ℕ) → beginning (unrolled masks a) n ≡ take n (take a masks ++ repeated n (drop a masks))
  unrolled_cut n =
      let h : 1 ≤ L = omega arith in
      let e = mul-le-mul_left n h in
      sym (take_beginning (unrolled masks a) n (a + n * L) (omega arith)) ∙ ap (take n) (beginning_unrolled n)

module _ {room : Room} (masks : List ℕ) (a : ℕ) (turns : a < length masks) where
  pub for_ever_unrolled : ForEver room [] (take a masks) (drop a masks) → Endless room (unrolled masks a)
  for_ever_unrolled f n = rw (unrolled_cut masks a turns n) (take_admissible room _ n (f.keeps n))

  -- each mask is the greatest after the slots before it, where it is in every repetition
  follows_unrolled : ((n : ℕ) → Follows room (take a masks ++ repeated n (drop a masks))) → (t : ℕ) → Greatest room (beginning (unrolled masks a) t) (unrolled masks a t)
  follows_unrolled f t =
      let s = unrolled masks a in
      let long : t < a + (t + 1) * (length masks - a) = let h : 1 ≤ length masks - a = omega arith in let e = mul-le-mul_left (t + 1) h in omega arith in
      let g : Follows room (beginning s (a + (t + 1) * (length masks - a))) = rw (beginning_unrolled masks a turns (t + 1)) (f (t + 1)) in
      rw (take_beginning s t (a + (t + 1) * (length masks - a)) (omega arith), beginning_at s (a + (t + 1) * (length masks - a)) 0 t long) at
      (g t (rw beginning_length long))

pub plan_unrolled : {room : Room} → Limits room → {times : Times} → Clock room times → {masks : List ℕ} {a : ℕ} → Plan room times masks a
    → Singled room (unrolled masks a)
plan_unrolled limits clock {masks} {a} p =
    let f = plan_for_ever limits clock p in
    let turns = p.turns.earlier in
    record { endless = for_ever_unrolled masks a turns f.0; greatest = follows_unrolled masks a turns f.1 }
