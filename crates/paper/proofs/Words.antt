-- One job's rules in a past, one letter further. The job's word is the row of its letters in the masks: a where it runs, • where it
-- does not. A slot more asks of the job that it may run, where it does, and that it runs, where its deadline is near.
--   letter, word       job i's letter in a mask, and its word in a past
--   letter_value       the letter by the bit
--   Keeps              the past l keeps the rules of job i
--   Fits               the mask m after l keeps them
--   keeps_empty        the empty past keeps them
--   keeps_more         so does a past that keeps them, with one more mask that does
--   admissible_fits    the last mask of an admissible past keeps the rules of each job
use Prim.Native.Nat.{ℕ, zero, suc, ◌+◌, ◌-◌, ◌≤◌, ◌<◌}
use native.Mathlib.Omega.{arith}
use mathlib.Core.Path.{◌≡◌, refl}
use mathlib.Core.Logic.{◌⊎◌, inl, inr}
use mathlib.Core.Bool.{Bool}
use mathlib.Core.List.{List, [], ◌∷◌, ◌++◌, map}
use lib.Dec.{eqb}
use lib.ListN.{length, take, get_or, get_or-append}
use lib.Seq.{take-append-le, take-append_seam, get_or-append_seam}
use Rattle.laws.proofs.Tests.{lt_or_le}
use Rattle.laws.proofs.Lists.{length_more}
use Rattle.laws.proofs.Bits.{bit_lt}
use Rattle.paper.specs.declared.Room.{Room}
use Rattle.paper.specs.Room.{job, load, GoodJob}
use Rattle.paper.specs.Past.{bit, start, due, units, Current, JobRule, Admissible}
use Rattle.paper.specs.Languages.{value}
use Rattle.paper.proofs.Units.{start_more, due_is, units_in, units_grow}
use Rattle.paper.proofs.Beginnings.{slots_last}

-- ---- A job's word

abbrev pub letter : ℕ → ℕ → Bool
letter i m = eqb (bit m i) 1

unfoldable pub word : ℕ → List ℕ → List Bool
word i l = map (letter i) l

told : (b : ℕ) → b < 2 → value (eqb b 1) ≡ b
unfolding value
told zero h = refl
told (suc zero) h = refl
told (suc (suc b)) h = absurd (omega arith)

pub letter_value : (i m : ℕ) → value (letter i m) ≡ bit m i
letter_value i m = told (bit m i) (bit_lt m i)

-- ---- The rules of one job

pub record Keeps (room : Room) (l : List ℕ) (i : ℕ) : Type 0 where
  pub slots : (t : ℕ) → t < length l → bit (get_or l t 0) i ≡ 1 → JobRule room (take t l) i
  pub end : (k : ℕ) → start room i k ≤ length l → load room i - (due room i k - length l) ≤ units room l i k

pub record Fits (room : Room) (l : List ℕ) (m i : ℕ) : Type 0 where
  pub may : bit m i ≡ 1 → JobRule room l i
  pub must : (k : ℕ) → Current room i (length l) k → load room i - (due room i k - (length l + 1)) ≤ units room l i k + bit m i

-- a rule of each mask after those before it, with one mask more
each_more : (P : List ℕ → ℕ → Type 0) (l : List ℕ) (m : ℕ) → ((t : ℕ) → t < length l → P (take t l) (get_or l t 0)) → P l m
    → (t : ℕ) → t < length (l ++ (m ∷ [])) → P (take t (l ++ (m ∷ []))) (get_or (l ++ (m ∷ [])) t 0)
each_more P l m s x t h = go (lt_or_le t (length l))
  where
    go : (t < length l) ⊎ (length l ≤ t) → P (take t (l ++ (m ∷ []))) (get_or (l ++ (m ∷ [])) t 0)
    go (inl g) = rw (take-append-le t l (m ∷ []) (omega arith), get_or-append l (m ∷ []) 0 t g) (s t g)
    go (inr g) =
        let e : t ≡ length l = omega (arith, rw length_more at h) in
        rw (e, take-append_seam l (m ∷ []), get_or-append_seam l m [] 0) x

module _ (room : Room) (i : ℕ) (good : GoodJob (job room i)) where
  pub keeps_empty : Keeps room [] i
  keeps_empty = record { slots = λ t h. absurd (omega arith); end = λ k h. omega (arith, due_is room i k, good.fits) }

  pub keeps_more : (l : List ℕ) (m : ℕ) → Keeps room l i → Fits room l m i → Keeps room (l ++ (m ∷ [])) i
  keeps_more l m x f = record {
    slots = each_more (λ l m. bit m i ≡ 1 → JobRule room l i) l m x.slots f.may;
    end = λ k h. rw length_more (end k (rw length_more at h) (lt_or_le (length l) (start room i k)) (lt_or_le (length l) (start room i (k + 1))));
  }
    where
      -- an instance that starts only then, the current one, one that is over
      end : (k : ℕ) → start room i k ≤ length l + 1 → (length l < start room i k) ⊎ (start room i k ≤ length l)
          → (length l < start room i (k + 1)) ⊎ (start room i (k + 1) ≤ length l)
          → load room i - (due room i k - (length l + 1)) ≤ units room (l ++ (m ∷ [])) i k
      end k h (inl a) b = omega (arith, due_is room i k, good.fits)
      end k h (inr a) (inl b) =
          omega (arith, f.must k (record { begun = a; before_next = b }), units_in room l i k m a (omega (arith, start_more room i k)))
      end k h (inr a) (inr b) =
          omega (arith, x.end k a, due_is room i k, start_more room i k, good.ends, units_grow room l i k (m ∷ []))

pub admissible_fits : (room : Room) (i : ℕ) → i < room.jobs → (l : List ℕ) (m : ℕ) → Admissible room (l ++ (m ∷ [])) → Fits room l m i
admissible_fits room i h l m a = record {
  may = (slots_last room l m a.slots).job i;
  must = λ k c.
      let e = rw length_more at (a.end i k h (rw length_more (omega arith))) in
      omega (arith, e, units_in room l i k m c.begun (omega (arith, start_more room i k)));
}
