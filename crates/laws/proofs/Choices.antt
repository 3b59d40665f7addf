-- Why the masks that keep a law are found without a search. A mask that keeps it has every job of `must`, and any other job may
-- be left out; so the greatest is reached by adding the highest job that can be added, as long as engines are left, and the one
-- below m by leaving out the lowest job of m that need not run and filling up from the jobs below it.
--   must_keeps                          if any mask keeps the law, must does
--   keeps_agree, next_agree, candidates_agree
--                                       relations that agree on the jobs of may make the same law
--   greatest_next                       the greatest mask of all is the greatest below 2 ^ 16
--   filling_none, filling_full          the end of filling: no candidate is left, or no engine
--   filling_more                        one turn: the highest candidate is added
--   filling_first                       the start for the greatest mask: must
--   none_next                           where every job of m must run, nothing below m keeps the law
--   keeps_less, filling_next            the start for the greatest below m: m without its lowest job i that need not run
--   candidates_next                     the candidates below i
--   blocking_first, blocking_more, blocking_all
--                                       the jobs that clash with m, found job by job
--   going_on_all                        going on from each mask to the next meets exactly those that keep the law,
--   going_on_falls, going_on_once       in falling order, once each
use mathlib.Core.Path.{◌≡◌, sym, ap, subst, ◌∙◌}
use mathlib.Core.Logic.{◌⊎◌, ◌≢◌, ◌↔◌, inl, inr, ⊎_elim}
use mathlib.Core.List.Memᴰ
use mathlib.Core.List.{List}
use Prim.Native.Nat.{ℕ, zero, suc, ◌+◌, ◌-◌, ◌^◌, ◌≤◌, ◌<◌}
use native.Mathlib.Omega.{arith}
use native.Mathlib.Decide.{ℕ_discrete}
use native.Mathlib.Nat.{le_of_lt, lt_trans}
use lib.Arith.{lt_of_le-ne}
use lib.Count.{ones}
use lib.Bits.{bit_and, bit_or}
use lib.ListN.{length, get_or}
use Rattle.laws.specs.Bits.{bit}
use Rattle.laws.specs.Words.{Highest, Lowest, Without}
use Rattle.laws.specs.Lists.{◌∈◌, Distinct}
use Rattle.laws.specs.Choices.{Mutual, Agree, Keeps, NextKeeping, GreatestKeeping, NoneBelow, GoingOn, end, on}
use Rattle.laws.specs.Choices.{Candidates, Between, Filling, Blocked, Blocking}
use Rattle.laws.proofs.Tests.{lt_or_le}
use Rattle.laws.proofs.Lists.{at_in, at_distinct}
use Rattle.laws.proofs.Bits.{bit_beyond, below_of_bits, ones_set, lt_at, lt_first}
use Rattle.laws.proofs.Bits.{set_bit_same, set_bit_other, set_room, set_below, clear_bit_same, clear_bit_other}
use Rattle.laws.proofs.Words.{never, zero_of, either, same_bit, bit_place, zero_bit, set_one, one_set, one_clear, ones_mono}
use Rattle.laws.proofs.Words.{one_and, or_left, or_right, one_or, low_one, one_low, and_pred}

-- ---- The law

module _ (must may : ℕ) (clash : ℕ → ℕ) (engines : ℕ) where
  pub must_keeps : {k : ℕ} → Keeps must may clash engines k → Keeps must may clash engines must
  must_keeps {k} h =
      record {
        small = small;
        musts = λ i o. o;
        mays = λ i o. h.mays i (h.musts i o);
        apart = λ i j a b. h.apart i j (h.musts i a) (h.musts j b);
        few = let a = ones_mono must k 16 small h.small h.musts in omega (arith, h.few);
      }
    where
      small : must < 2 ^ 16
      small = below_of_bits must 16 (λ i g. zero_of must i (λ o. never (bit_beyond k 16 i h.small g) (h.musts i o)))

  pub keeps_agree : (clash' : ℕ → ℕ) → Agree may clash clash' → {m : ℕ} → Keeps must may clash engines m → Keeps must may clash' engines m
  keeps_agree clash' e h =
      record {
        small = h.small;
        musts = h.musts;
        mays = h.mays;
        apart = λ i j a b. sym (e i j (h.mays i a) (h.mays j b)) ∙ h.apart i j a b;
        few = h.few;
      }

  pub greatest_next : (m : ℕ) → GreatestKeeping must may clash engines m ↔ NextKeeping must may clash engines (2 ^ 16) m
  greatest_next m = (
    λ h. record { keeps = h.keeps; below = h.keeps.small; greatest = λ k a l. h.greatest k a },
    λ h. record { keeps = h.keeps; greatest = λ k a. h.greatest k a a.small },
  )

pub next_agree : (must may engines : ℕ) (clash clash' : ℕ → ℕ) → Agree may clash clash' → {top m : ℕ}
    → NextKeeping must may clash engines top m → NextKeeping must may clash' engines top m
next_agree must may engines clash clash' e h =
    record {
      keeps = keeps_agree must may clash engines clash' e h.keeps;
      below = h.below;
      greatest = λ k a. h.greatest k (keeps_agree must may clash' engines clash (λ i j a b. sym (e i j a b)) a);
    }

pub candidates_agree : (may : ℕ) (clash clash' : ℕ → ℕ) → Agree may clash clash' → (x p c : ℕ) → ((i : ℕ) → bit x i ≡ 1 → bit may i ≡ 1)
    → Candidates may clash x p c → Candidates may clash' x p c
candidates_agree may clash clash' e x p c within s =
    record {
      addable =
          record {
            low = s.addable.low;
            mays = s.addable.mays;
            fresh = s.addable.fresh;
            apart = λ i j a b. sym (e i j (within i a) (s.addable.mays j b)) ∙ s.addable.apart i j a b;
          };
      all = λ j l o z n. s.all j l o z (λ i a. e i j (within i a) o ∙ n i a);
    }

-- ---- Filling

module _ (must may : ℕ) (clash : ℕ → ℕ) (engines top x c n : ℕ) (h : Filling must may clash engines top x c n) where
  -- x itself, where no mask that can still be reached keeps the law with one more job
  done : ((k i : ℕ) → i < 16 → Keeps must may clash engines k → Between x c k → bit x i ≡ 0 → bit k i ≡ 1 → ⊥) → NextKeeping must may clash engines top x
  done f =
      record {
        keeps = h.keeps;
        below = h.below x (record { has = λ i o. o; more = λ i o z. never z o });
        greatest = λ k a l. ⊎_elim (λ (g : k ≤ x). g) (λ (b : Between x c k). most k a b) (h.rest k a l);
      }
    where
      most : (k : ℕ) → Keeps must may clash engines k → Between x c k → k ≤ x
      most k a b =
          ⊎_elim
          (λ (l : x < k). let d = lt_first x k 16 l a.small in absurd (f k d.0 d.1 a b d.2 d.3))
          (λ (g : k ≤ x). g)
          (lt_or_le x k)

  pub filling_none : c ≡ 0 → NextKeeping must may clash engines top x
  filling_none e = done λ k i l a b z o. never (zero_bit i) (subst (λ (y : ℕ). bit y i ≡ 1) e (b.more i o z))

  -- with i too, x still has only jobs of k
  one_more : (k i : ℕ) → Between x c k → bit x i ≡ 0 → bit k i ≡ 1 → (j : ℕ) → bit (x + 2 ^ i) j ≡ 1 → bit k j ≡ 1
  one_more k i b z o j p = ⊎_elim (λ e. subst (λ (u : ℕ). bit k u ≡ 1) (sym e) o) (λ q. b.has j q) (one_set x i j z p)

  pub filling_full : n ≡ 0 → NextKeeping must may clash engines top x
  filling_full e = done λ k i l a b z o.
      let r = set_room x i 16 l h.keeps.small z in
      let m = ones_mono (x + 2 ^ i) k 16 r a.small (one_more k i b z o) in
      let s = ones_set x i z in
      omega (arith, a.few, h.left)

  -- one turn: j is the highest candidate, and c' what is left of the others
  module _ (two : Mutual clash) (j : ℕ) (high : Highest c j) (c' : ℕ) (others : Without (c - 2 ^ j) (clash j) c') where
    new : bit x j ≡ 0
    new = h.addable.fresh j high.set

    still : (i : ℕ) → bit c' i ≡ 1 → (i ≢ j) × (bit c i ≡ 1)
    still i o = one_clear c j i high.set (others.first i o)

    -- a job of the new mask is j or one of x
    old_or_new : {A : Type 0} (i : ℕ) → bit (x + 2 ^ j) i ≡ 1 → (i ≡ j → A) → (bit x i ≡ 1 → A) → A
    old_or_new i o f g = ⊎_elim f g (one_set x j i new o)

    kept : (i : ℕ) → bit x i ≡ 1 → bit (x + 2 ^ j) i ≡ 1
    kept i o = set_one x j i new o

    apart : (i k : ℕ) → bit (x + 2 ^ j) i ≡ 1 → bit c' k ≡ 1 → bit (clash i) k ≡ 0
    apart i k o p =
        old_or_new i o
        (λ e. subst (λ (u : ℕ). bit (clash u) k ≡ 0) (sym e) (others.second k p))
        (λ q. h.addable.apart i k q (still k p).1)

    -- j clashes with no job of the new mask, and neither does a job of x
    apart_new : (k : ℕ) → bit (x + 2 ^ j) k ≡ 1 → bit (clash j) k ≡ 0
    apart_new k o =
        old_or_new k o
        (λ e. subst (λ (u : ℕ). bit (clash j) u ≡ 0) (sym e) (two.other j))
        (λ q. zero_of (clash j) k (λ b. never (h.addable.apart k j q high.set) (two.both j k b)))

    apart_old : (i k : ℕ) → bit x i ≡ 1 → bit (x + 2 ^ j) k ≡ 1 → bit (clash i) k ≡ 0
    apart_old i k o p =
        old_or_new k p
        (λ e. subst (λ (u : ℕ). bit (clash i) u ≡ 0) (sym e) (h.addable.apart i j o high.set))
        (λ q. h.keeps.apart i k o q)

    keeps : 0 < n → Keeps must may clash engines (x + 2 ^ j)
    keeps l =
        record {
          small = set_room x j 16 (h.addable.low j high.set) h.keeps.small new;
          musts = λ i o. kept i (h.keeps.musts i o);
          mays = λ i o. old_or_new i o (λ e. subst (λ (u : ℕ). bit may u ≡ 1) (sym e) (h.addable.mays j high.set)) (h.keeps.mays i);
          apart = λ i k o p. old_or_new i o (λ e. subst (λ (u : ℕ). bit (clash u) k ≡ 0) (sym e) (apart_new k p)) (λ q. apart_old i k q p);
          few = omega (arith, ones_set x j new, h.left);
        }

    -- what can be reached now could be reached before
    wider : (m : ℕ) → Between (x + 2 ^ j) c' m → Between x c m
    wider m b = record { has = λ i o. b.has i (kept i o); more = more }
      where
        more : (i : ℕ) → bit m i ≡ 1 → bit x i ≡ 0 → bit c i ≡ 1
        more i o z = elim (ℕ_discrete i j) [
          | yes e ↦ subst (λ (u : ℕ). bit c u ≡ 1) (sym e) high.set
          | no d ↦ (still i (b.more i o (set_bit_other x j i new d ∙ z))).1
        ]

    -- what could be reached is less where it has not j
    less : (m : ℕ) → Between x c m → bit m j ≡ 0 → m ≤ x + 2 ^ j
    less m b z = le_of_lt (lt_at m (x + 2 ^ j) j z (set_bit_same x j new) (λ i l. same_bit m (x + 2 ^ j) i (up i l) (down i l)))
      where
        up : (i : ℕ) → j < i → bit m i ≡ 1 → bit (x + 2 ^ j) i ≡ 1
        up i l o = ⊎_elim (λ (y : bit x i ≡ 0). never (high.above i l) (b.more i o y)) (λ (y : bit x i ≡ 1). kept i y) (either x i)

        down : (i : ℕ) → j < i → bit (x + 2 ^ j) i ≡ 1 → bit m i ≡ 1
        down i l o = old_or_new i o (λ e. absurd (omega arith)) (λ q. b.has i q)

    -- and can still be reached where it has
    reached : (m : ℕ) → Keeps must may clash engines m → Between x c m → bit m j ≡ 1 → Between (x + 2 ^ j) c' m
    reached m a b o =
        record { has = λ i p. old_or_new i p (λ e. subst (λ (u : ℕ). bit m u ≡ 1) (sym e) o) (λ q. b.has i q); more = more }
      where
        more : (i : ℕ) → bit m i ≡ 1 → bit (x + 2 ^ j) i ≡ 0 → bit c' i ≡ 1
        more i p z =
            let d : i ≢ j = λ e. never z (subst (λ (u : ℕ). bit (x + 2 ^ j) u ≡ 1) (sym e) (set_bit_same x j new)) in
            others.all i
            (clear_bit_other c j i high.set d ∙ b.more i p (sym (set_bit_other x j i new d) ∙ z))
            (a.apart j i o p)

    pub filling_more : 0 < n → Filling must may clash engines top (x + 2 ^ j) c' (n - 1)
    filling_more l =
        record {
          keeps = keeps l;
          addable =
              record {
                low = λ i o. h.addable.low i (still i o).1;
                mays = λ i o. h.addable.mays i (still i o).1;
                fresh = λ i o. set_bit_other x j i new (still i o).0 ∙ h.addable.fresh i (still i o).1;
                apart = apart;
              };
          left = omega (arith, ones_set x j new, h.left);
          below = λ m b. h.below m (wider m b);
          rest = λ m a t.
              ⊎_elim
              (λ (g : m ≤ x). inl (omega arith))
              (λ (b : Between x c m). ⊎_elim (λ (z : bit m j ≡ 0). inl (less m b z)) (λ (o : bit m j ≡ 1). inr (reached m a b o)) (either m j))
              (h.rest m a t);
        }

-- ---- The start for the greatest mask

pub filling_first : (must may : ℕ) (clash : ℕ → ℕ) (engines c : ℕ) → Keeps must may clash engines must → Candidates may clash must 16 c
    → Filling must may clash engines (2 ^ 16) must c (engines - ones must)
filling_first must may clash engines c h s =
    record {
      keeps = h;
      addable = s.addable;
      left = omega (arith, h.few);
      below = λ m b. below_of_bits m 16 (λ i g. zero_of m i (λ o. out m b i g o));
      rest = λ m a l.
          inr
          (record {
            has = a.musts;
            more = λ i o z. s.all i (bit_place m 16 i a.small o) (a.mays i o) z (λ k p. a.apart k i (a.musts k p) o);
          });
    }
  where
    out : (m : ℕ) → Between must c m → (i : ℕ) → 16 ≤ i → bit m i ≡ 1 → ⊥
    out m b i g o = let l = s.addable.low i (b.more i o (bit_beyond must 16 i h.small g)) in omega arith

-- ---- The start for the greatest mask below m: x is the jobs of m that need not run

module _ (must may : ℕ) (clash : ℕ → ℕ) (engines m x : ℕ) (a : Keeps must may clash engines m) (free : Without m must x) where
  pub none_next : x ≡ 0 → NoneBelow must may clash engines m
  none_next e k b l =
      let d = lt_first k m 16 l a.small in
      let z = zero_of must d.0 (λ o. never d.2 (b.musts d.0 o)) in
      never (zero_bit d.0) (subst (λ (u : ℕ). bit u d.0 ≡ 1) e (free.all d.0 d.3 z))

  -- i, the lowest of them, is left out
  module _ (i : ℕ) (low : Lowest x i) where
    set : bit m i ≡ 1
    set = free.first i low.set

    -- the jobs of m below i must run
    under_must : (j : ℕ) → j < i → bit m j ≡ 1 → bit must j ≡ 1
    under_must j l o =
        ⊎_elim (λ (z : bit must j ≡ 0). never (low.below j l) (free.all j o z)) (λ (p : bit must j ≡ 1). p) (either must j)

    out : (j : ℕ) → bit (m - 2 ^ i) j ≡ 1 → (j ≢ i) × (bit m j ≡ 1)
    out j o = one_clear m i j set o

    must_left : (j : ℕ) → bit must j ≡ 1 → bit (m - 2 ^ i) j ≡ 1
    must_left j o =
        clear_bit_other m i j set (λ e. never (free.second i low.set) (subst (λ (u : ℕ). bit must u ≡ 1) e o)) ∙ a.musts j o

    one_less : ones (m - 2 ^ i) + 1 ≡ ones m
    one_less =
        let e : (m - 2 ^ i) + 2 ^ i ≡ m = omega (arith, set_below m i set) in
        sym (ones_set (m - 2 ^ i) i (clear_bit_same m i set)) ∙ ap ones e

    pub keeps_less : Keeps must may clash engines (m - 2 ^ i)
    keeps_less =
        record {
          small = omega (arith, a.small);
          musts = must_left;
          mays = λ j o. a.mays j (out j o).1;
          apart = λ j k o p. a.apart j k (out j o).1 (out k p).1;
          few = omega (arith, one_less, a.few);
        }

    module _ (c : ℕ) (s : Candidates may clash (m - 2 ^ i) i c) where
      -- what can be reached has not i, and above i what m has
      below : (k : ℕ) → Between (m - 2 ^ i) c k → k < m
      below k b = lt_at k m i (zero_of k i not_i) set (λ j l. same_bit k m j (up j l) (down j l))
        where
          not_i : bit k i ≡ 1 → ⊥
          not_i o = let l = s.addable.low i (b.more i o (clear_bit_same m i set)) in omega arith

          up : (j : ℕ) → i < j → bit k j ≡ 1 → bit m j ≡ 1
          up j l o =
              ⊎_elim
              (λ (z : bit (m - 2 ^ i) j ≡ 0). let g = s.addable.low j (b.more j o z) in absurd (omega arith))
              (λ (p : bit (m - 2 ^ i) j ≡ 1). (out j p).1)
              (either (m - 2 ^ i) j)

          down : (j : ℕ) → i < j → bit m j ≡ 1 → bit k j ≡ 1
          down j l o = b.has j (clear_bit_other m i j set (λ (e : j ≡ i). omega arith) ∙ o)

      -- a mask that keeps the law and first differs from m at i can be reached
      at_i : (k : ℕ) → Keeps must may clash engines k → bit k i ≡ 0 → ((j : ℕ) → i < j → bit k j ≡ bit m j) → Between (m - 2 ^ i) c k
      at_i k b z e = record { has = has; more = more }
        where
          has : (j : ℕ) → bit (m - 2 ^ i) j ≡ 1 → bit k j ≡ 1
          has j o =
              ⊎_elim
              (λ (l : j < i). b.musts j (under_must j l (out j o).1))
              (λ (g : i ≤ j). let d = (out j o).0 in e j (lt_of_le-ne g (λ q. d (sym q))) ∙ (out j o).1)
              (lt_or_le j i)

          more : (j : ℕ) → bit k j ≡ 1 → bit (m - 2 ^ i) j ≡ 0 → bit c j ≡ 1
          more j o y =
              ⊎_elim
              (λ (l : j < i). s.all j l (b.mays j o) y (λ n p. b.apart n j (has n p) o))
              (λ (g : i ≤ j).
              let d : j ≢ i = λ q. never z (subst (λ (u : ℕ). bit k u ≡ 1) q o) in
              never y (clear_bit_other m i j set d ∙ sym (e j (lt_of_le-ne g (λ q. d (sym q)))) ∙ o))
              (lt_or_le j i)

      -- one that first differs from m above i is less
      above_i : (k d : ℕ) → i < d → bit k d ≡ 0 → bit m d ≡ 1 → ((j : ℕ) → d < j → bit k j ≡ bit m j) → k ≤ m - 2 ^ i
      above_i k d l z o e =
          le_of_lt
          (lt_at k (m - 2 ^ i) d z
          (clear_bit_other m i d set (λ (q : d ≡ i). omega arith) ∙ o)
          (λ j g. e j g ∙ sym (clear_bit_other m i j set (λ (q : j ≡ i). omega arith))))

      -- and none that keeps the law first differs from m below i
      differs : (k : ℕ) → Keeps must may clash engines k → (d : ℕ) → bit k d ≡ 0 → bit m d ≡ 1 → ((j : ℕ) → d < j → bit k j ≡ bit m j)
          → (k ≤ m - 2 ^ i) ⊎ Between (m - 2 ^ i) c k
      differs k b d z o e = elim (ℕ_discrete d i) [
        | yes q ↦ inr (at_i k b (subst (λ (u : ℕ). bit k u ≡ 0) q z) (subst (λ (u : ℕ). (j : ℕ) → u < j → bit k j ≡ bit m j) q e))
        | no n ↦
            ⊎_elim
            (λ (l : d < i). never z (b.musts d (under_must d l o)))
            (λ (g : i ≤ d). inl (above_i k d (lt_of_le-ne g (λ q. n (sym q))) z o e))
            (lt_or_le d i)
      ]

      pub filling_next : Filling must may clash engines m (m - 2 ^ i) c (engines - ones (m - 2 ^ i))
      filling_next =
          record {
            keeps = keeps_less;
            addable =
                record {
                  low = λ j o. let l = s.addable.low j o in let g = bit_place m 16 i a.small set in omega arith;
                  mays = s.addable.mays;
                  fresh = s.addable.fresh;
                  apart = s.addable.apart;
                };
            left = omega (arith, keeps_less.few);
            below = below;
            rest = λ k b l. let d = lt_first k m 16 l a.small in differs k b d.0 d.2 d.3 d.4;
          }

    -- f is the candidates for must; z, of the jobs kept that need not run, holds at least those that clash with a job of may
    pub candidates_next : (f z b c : ℕ) → Candidates may clash must 16 f → Blocked clash z b → Without (bit_and f (2 ^ i - 1)) b c
        → ((k : ℕ) → bit z k ≡ 1 → bit (m - 2 ^ i) k ≡ 1)
        → ((k j : ℕ) → bit (m - 2 ^ i) k ≡ 1 → bit must k ≡ 0 → bit may j ≡ 1 → bit (clash k) j ≡ 1 → bit z k ≡ 1)
        → Candidates may clash (m - 2 ^ i) i c
    candidates_next f z b c s t w within hot =
        record {
          addable = record { low = λ j o. (lower j o).0; mays = λ j o. s.addable.mays j (lower j o).1; fresh = fresh; apart = apart };
          all = all;
        }
      where
        lower : (j : ℕ) → bit c j ≡ 1 → (j < i) × (bit f j ≡ 1)
        lower j o = one_low f i j (w.first j o)

        fresh : (j : ℕ) → bit c j ≡ 1 → bit (m - 2 ^ i) j ≡ 0
        fresh j o =
            zero_of (m - 2 ^ i) j (λ p. never (s.addable.fresh j (lower j o).1) (under_must j (lower j o).0 (out j p).1))

        apart : (k j : ℕ) → bit (m - 2 ^ i) k ≡ 1 → bit c j ≡ 1 → bit (clash k) j ≡ 0
        apart k j p o =
            zero_of (clash k) j (λ q. ⊎_elim
            (λ (y : bit must k ≡ 0). never (w.second j o) (t.all k j (hot k j p y (s.addable.mays j (lower j o).1) q) q))
            (λ (y : bit must k ≡ 1). never (s.addable.apart k j y (lower j o).1) q)
            (either must k))

        all : (j : ℕ) → j < i → bit may j ≡ 1 → bit (m - 2 ^ i) j ≡ 0 → ((k : ℕ) → bit (m - 2 ^ i) k ≡ 1 → bit (clash k) j ≡ 0) → bit c j ≡ 1
        all j l o y n =
            let g = bit_place m 16 i a.small set in
            let e = s.all j (omega arith) o (zero_of must j (λ p. never y (must_left j p))) (λ k p. n k (must_left k p)) in
            w.all j (low_one f i j l e) (zero_of b j (λ q. let r = t.by j q in never (n r.0 (within r.0 r.1)) r.2))

-- ---- The jobs that clash with a mask

module _ (clash : ℕ → ℕ) (m : ℕ) where
  pub blocking_first : Blocking clash m m 0
  blocking_first = record { all = λ i j o p. inl o; by = λ j o. never (zero_bit j) o; within = λ i o. o }

  pub blocking_more : (x b i : ℕ) → Blocking clash m x b → Lowest x i → Blocking clash m (bit_and x (x - 1)) (bit_or b (clash i))
  blocking_more x b i h low =
      record {
        all = all;
        by = λ j o. ⊎_elim (λ (p : bit b j ≡ 1). h.by j p) (λ (p : bit (clash i) j ≡ 1). (i, h.within i low.set, p)) (one_or b (clash i) j o);
        within = λ k o. h.within k (one_and x (x - 1) k o).0;
      }
    where
      all : (k j : ℕ) → bit m k ≡ 1 → bit (clash k) j ≡ 1 → (bit (bit_and x (x - 1)) k ≡ 1) ⊎ (bit (bit_or b (clash i)) j ≡ 1)
      all k j o p = elim (ℕ_discrete k i) [
        | yes e ↦ inr (or_right b (clash i) j (subst (λ (u : ℕ). bit (clash u) j ≡ 1) e p))
        | no d ↦
            ⊎_elim
            (λ (q : bit x k ≡ 1). inl (ap (λ (u : ℕ). bit u k) (and_pred x i low) ∙ clear_bit_other x i k low.set d ∙ q))
            (λ (q : bit b j ≡ 1). inr (or_left b (clash i) j q))
            (h.all k j o p)
      ]

  pub blocking_all : (x b : ℕ) → Blocking clash m x b → x ≡ 0 → Blocked clash m b
  blocking_all x b h e =
      record {
        all = λ i j o p. ⊎_elim (λ (q : bit x i ≡ 1). never (zero_bit i) (subst (λ (u : ℕ). bit u i ≡ 1) e q)) (λ (q : bit b j ≡ 1). q) (h.all i j o p);
        by = h.by;
      }

-- ---- Going on from one mask to the next

module _ (must may : ℕ) (clash : ℕ → ℕ) (engines : ℕ) where
  met : {top m : ℕ} {l : List ℕ} → GoingOn must may clash engines top l → m ∈ l → Keeps must may clash engines m × (m < top)
  met (end n) p = absurd (Memᴰ.not-nil p)
  met {m = k} (on {top} {m} h g) p =
      ⊎_elim
      (λ (e : k ≡ m). subst (λ (u : ℕ). Keeps must may clash engines u × (u < top)) (sym e) (h.keeps, h.below))
      (λ q. let r = met g q in (r.0, lt_trans r.1 h.below))
      (Memᴰ.cases_cons p)

  meets : {top : ℕ} {l : List ℕ} → GoingOn must may clash engines top l → (k : ℕ) → Keeps must may clash engines k → k < top → k ∈ l
  meets (end n) k a l = absurd (n k a l)
  meets (on {m = m} h g) k a l = elim (ℕ_discrete k m) [
    | yes e ↦ Memᴰ.head e
    | no d ↦ Memᴰ.tail (meets g k a (lt_of_le-ne (h.greatest k a l) d))
  ]

  pub going_on_all : {l : List ℕ} → GoingOn must may clash engines (2 ^ 16) l → (m : ℕ) → m ∈ l ↔ Keeps must may clash engines m
  going_on_all g m = (λ p. (met g p).0, λ a. meets g m a a.small)

  pub going_on_falls : {top : ℕ} {l : List ℕ} → GoingOn must may clash engines top l
      → (i j : ℕ) → i < j → j < length l → get_or l j 0 < get_or l i 0
  going_on_falls (end n) i j a b = absurd (omega arith)
  going_on_falls (on h g) i zero a b = absurd (omega arith)
  going_on_falls (on {l = l} h g) zero (suc j) a b = (met g (at_in l 0 j (omega arith))).1
  going_on_falls (on h g) (suc i) (suc j) a b = going_on_falls g i j (omega arith) (omega arith)

  pub going_on_once : {top : ℕ} {l : List ℕ} → GoingOn must may clash engines top l → Distinct l
  going_on_once {l = l} g = at_distinct l 0 (λ i j a b e. let f = going_on_falls g i j a b in omega arith)
