-- A beginning of an admissible past is admissible, in any room. One slot less takes at most one unit from an instance and leaves it one more
-- slot before its deadline; from its deadline on it runs no more.
--   Slots                                    each slot of a past keeps the rules
--   slots_before, slots_last, slots_more     the slots of a past with one more mask are those of the past, and one
--   end_before                               the rule at the end, one mask earlier
--   admissible_before                        an admissible past without its last mask is admissible
--   beginning_admissible, take_admissible    and so is every beginning
use Prim.Native.Nat.{ℕ, ◌+◌, ◌-◌, ◌≤◌, ◌<◌}
use native.Mathlib.Omega.{arith}
use mathlib.Core.Path.{◌≡◌, subst}
use mathlib.Core.Logic.{◌⊎◌, inl, inr, ◌≢◌}
use mathlib.Core.List.{List, [], ◌∷◌, ◌++◌, append-nil, append_assoc}
use lib.ListN.{length, take, drop, get_or, take-append-drop, get_or-append}
use lib.Seq.{take-append-le, take-append_seam, get_or-append_seam}
use Rattle.paper.specs.declared.Room.{Room}
use Rattle.paper.specs.Room.{load}
use Rattle.paper.specs.Past.{bit, due, Current, units, Slot, EndRule, Admissible}
use Rattle.laws.proofs.Tests.{lt_or_le}
use Rattle.laws.proofs.Lists.{from_back, length_more}
use Rattle.laws.proofs.Bits.{bit_lt}
use Rattle.paper.proofs.Units.{current_one, Under, inside, outside, under}

abbrev pub Slots : Room → List ℕ → Type 0
Slots room l = (t : ℕ) → t < length l → Slot room (take t l) (get_or l t 0)

module _ (room : Room) (l : List ℕ) (m : ℕ) where
  pub slots_before : Slots room (l ++ (m ∷ [])) → Slots room l
  slots_before s t h = rw (take-append-le t l (m ∷ []) (omega arith), get_or-append l (m ∷ []) 0 t h) at (s t (rw length_more (omega arith)))

  pub slots_last : Slots room (l ++ (m ∷ [])) → Slot room l m
  slots_last s = rw (take-append_seam l (m ∷ []), get_or-append_seam l m [] 0) at (s (length l) (rw length_more (omega arith)))

  pub slots_more : Slots room l → Slot room l m → Slots room (l ++ (m ∷ []))
  slots_more s x t h = go (lt_or_le t (length l))
    where
      go : (t < length l) ⊎ (length l ≤ t) → Slot room (take t (l ++ (m ∷ []))) (get_or (l ++ (m ∷ [])) t 0)
      go (inl g) = rw (take-append-le t l (m ∷ []) (omega arith), get_or-append l (m ∷ []) 0 t g) (s t g)
      go (inr g) =
          let e : t ≡ length l = omega (arith, rw length_more at h) in
          rw (e, take-append_seam l (m ∷ []), get_or-append_seam l m [] 0) x

  -- from its deadline on an instance does not run
  idle : Slot room l m → (i k : ℕ) → Current room i (length l) k → due room i k ≤ length l → bit m i ≢ 1
  idle x i k c d b =
      let r = x.job i b in
      let e = subst (λ (j : ℕ). length l < due room i j) (current_one room i (length l) r.k k r.current c) r.early in
      omega arith

  pub end_before : Slot room l m → EndRule room (l ++ (m ∷ [])) → EndRule room l
  end_before x end i k h g = go (under room l m i k) (lt_or_le (length l) (due room i k))
    where
      after : load room i - (due room i k - (length l + 1)) ≤ units room (l ++ (m ∷ [])) i k
      after = rw length_more at (end i k h (rw length_more (omega arith)))

      go : Under room l m i k → (length l < due room i k) ⊎ (due room i k ≤ length l)
          → load room i - (due room i k - length l) ≤ units room l i k
      go (inside c e) (inl d) = omega (arith, after, bit_lt m i)
      go (inside c e) (inr d) = let n = idle x i k c d in omega (arith, after, bit_lt m i)
      go (outside n e) d = omega (arith, after)

  pub admissible_before : Admissible room (l ++ (m ∷ [])) → Admissible room l
  admissible_before a = record { slots = slots_before a.slots; end = end_before (slots_last a.slots) a.end }

pub beginning_admissible : (room : Room) (l r : List ℕ) → Admissible room (l ++ r) → Admissible room l
beginning_admissible room l =
    from_back (λ (r : List ℕ). Admissible room (l ++ r) → Admissible room l) (λ a. rw append-nil at a)
    (λ r m back a. back (admissible_before room (l ++ r) m (rw append_assoc a)))

pub take_admissible : (room : Room) (l : List ℕ) (t : ℕ) → Admissible room l → Admissible room (take t l)
take_admissible room l t a = beginning_admissible room (take t l) (drop t l) (rw take-append-drop a)
