-- Laws of common multiples.
--   common_fewer       a common multiple of more numbers is one of fewer
--   multiple_common    every multiple of a common multiple is common
--   least_one          there is one least common multiple
--   least_divides      it divides every common one
--   least_none         of no numbers it is 1
--   least_more         with one more number it is the least positive multiple of the old one that this number divides
--   least_more_times   least_more with the multiples of the old one counted
--   least_same         it is the same for sequences that agree
use mathlib.Core.Path.{◌≡◌, sym, ◌∙◌, ap, subst}
use mathlib.Core.Logic.{◌≢◌, ⊎_elim}
use Prim.Native.Nat.{ℕ, zero, suc, ◌+◌, ◌*◌, ◌/◌, ◌%◌, ◌≤◌, ◌<◌}
use native.Mathlib.Omega.{arith}
use native.Mathlib.Nat.{zero-mul, mul-pos, mul-le-mul_right, mod-lt, mul-mod_left, div-add-mod'}
use native.Mathlib.Nat.{dvd_trans, dvd_of_mod-eq-zero, mod-eq-zero_of_dvd, mod-mod_of_dvd}
use borrow.Author.Count.{below_more}
use Rattle.laws.specs.Multiples.{Common, LeastCommon}
use Rattle.laws.proofs.Tests.{lt_or_le}

-- ---- Common multiples

pub common_fewer : (f : ℕ → ℕ) (n m h : ℕ) → n ≤ m → Common f m h → Common f n h
common_fewer f n m h l c i k = c i (omega arith)

multiple_common : (f : ℕ → ℕ) (n h g : ℕ) → Common f n h → g % h ≡ 0 → Common f n g
multiple_common f n h g c z i l =
    mod-eq-zero_of_dvd (f i) (dvd_trans (f i) (dvd_of_mod-eq-zero (f i) (c i l)) (dvd_of_mod-eq-zero h z))

-- ---- The least one

module _ {f : ℕ → ℕ} where
  pub least_one : {n h k : ℕ} → LeastCommon f n h → LeastCommon f n k → h ≡ k
  least_one {h = h} {k = k} a b = omega (arith, a.least k b.positive b.common, b.least h a.positive a.common)

  -- the remainder of a common multiple by the least one is common too, and less
  pub least_divides : {n h : ℕ} → LeastCommon f n h → (g : ℕ) → Common f n g → g % h ≡ 0
  least_divides {n} {h} a g c =
      ⊎_elim
      (λ (p : 0 < g % h). absurd (omega (arith, a.least (g % h) p rest, mod-lt g a.positive)))
      (λ (z : g % h ≤ 0). omega arith)
      (lt_or_le 0 (g % h))
    where
      rest : Common f n (g % h)
      rest i l = mod-mod_of_dvd (f i) g (dvd_of_mod-eq-zero (f i) (a.common i l)) ∙ c i l

  pub least_none : LeastCommon f 0 1
  least_none = record { positive = omega arith; common = λ i l. absurd (omega arith); least = λ g p c. p }

  least_more : {n h k : ℕ} → LeastCommon f n h → 0 < k → k % h ≡ 0 → k % f n ≡ 0
      → ((g : ℕ) → 0 < g → g % h ≡ 0 → g % f n ≡ 0 → k ≤ g) → LeastCommon f (n + 1) k
  least_more {n} {h} {k} a p z e l = record {
    positive = p;
    common = below_more (λ i. k % f i ≡ 0) n (multiple_common f n h k a.common z) e;
    least = λ g q c. l g q (least_divides a g (common_fewer f n (n + 1) g (omega arith) c)) (c n (omega arith));
  }

factor_positive : (s h : ℕ) → 0 < s * h → 0 < s
factor_positive zero h p = absurd (omega (arith, zero-mul h))
factor_positive (suc s) h p = omega arith

pub least_more_times : {f : ℕ → ℕ} {n h : ℕ} → LeastCommon f n h → (t : ℕ) → 0 < t → t * h % f n ≡ 0
    → ((s : ℕ) → 0 < s → s < t → s * h % f n ≢ 0) → LeastCommon f (n + 1) (t * h)
least_more_times {f} {n} {h} a t p e l = least_more a (mul-pos p a.positive) (mul-mod_left t h) e least
  where
    least : (g : ℕ) → 0 < g → g % h ≡ 0 → g % f n ≡ 0 → t * h ≤ g
    least g q z d =
        let s = g / h in
        let w : s * h ≡ g = omega (arith, div-add-mod' g h) in
        ⊎_elim
        (λ (y : s < t). absurd (l s (factor_positive s h (omega arith)) y (ap (λ (v : ℕ). v % f n) w ∙ d)))
        (λ (y : t ≤ s). omega (arith, mul-le-mul_right h y))
        (lt_or_le s t)

-- the first place of a property; a decided one that holds somewhere has it
abbrev First : (ℕ → Type 0) → Type 0
First P = (i : ℕ) × P i × ((j : ℕ) → j < i → ¬ P j)

pub least_same : (f g : ℕ → ℕ) {n h : ℕ} → ((i : ℕ) → i < n → f i ≡ g i) → LeastCommon f n h → LeastCommon g n h
least_same f g {n} {h} e a = record {
  positive = a.positive;
  common = λ i l. subst (λ (x : ℕ). h % x ≡ 0) (e i l) (a.common i l);
  least = λ k p c. a.least k p (λ i l. subst (λ (x : ℕ). k % x ≡ 0) (sym (e i l)) (c i l));
}
