-- The machine's operations on masks, bit by bit. A mask's bits are known by where they are 1: laws named `thing-one` set a bit,
-- laws named `one-thing` say where a bit that is set comes from.
--   never                       a bit is not both 0 and 1
--   zero_of, one_of, either     but one of them
--   same_bit                    two masks have the same at i
--   bit_place                   a mask below 2 ^ n has its bits below n
--   zero_bit, no_bits           0 is the mask with no bit
--   set_one, one_set            where bit i is set, a bit is set exactly if it was or is bit i
--   one_clear                   where bit i is cleared, a bit that is left is another one
--   ones_mono                   a mask with all bits of another has at least as many
--   and_one, one_and            a bit of `a & b` is set exactly where it is in both
--   or_left, or_right, one_or   a bit of `a | b` is set exactly where it is in one of them
--   without_bits                `a ^ (a & b)` has the bits of a that b has not
--   low_one, one_low            a bit of `m & (2 ^ n - 1)` is set exactly where it is in m, below n
--   xor_ones                    `a ^ (2 ^ k - 1)` is a difference
--   leading_highest             the leading zeros give the place of the highest bit
--   trailing_lowest             the trailing zeros are the place of the lowest bit
--   power_same, power_other     the bits of 2 ^ i
--   and_pred                    `m & (m - 1)` clears the lowest bit
--   lowest_one                  `m - (m & (m - 1))` is the lowest bit alone
use mathlib.Core.Path.{◌≡◌, refl, sym, ap, ap₂, subst, ◌∙◌}
use mathlib.Core.Logic.{◌⊎◌, ◌≢◌, inl, inr, ⊎_elim}
use Prim.Native.Nat.{ℕ, zero, suc, ◌+◌, ◌-◌, ◌*◌, ◌/◌, ◌%◌, ◌^◌, ◌≤◌, ◌<◌, min, max}
use native.Mathlib.Omega.{arith}
use native.Mathlib.Decide.{ℕ_discrete}
use native.Mathlib.Nat.{zero-add, pow-suc, lt_of_le_of_lt, mod-lt, mod_self, mod-eq_of_lt, div-one}
use native.Mathlib.Nat.{min-le_left, min-le_right, max-le, zero-max, le-max_left, le-max_right}
use native.Mathlib.Numerals.{one-add}
use lib.Dec.{lit<}
use lib.Arith.{digits_mod}
use lib.Pow.{pow_pos, pow-lt, high, split}
use lib.Bits.{bit_and, bit_or, bit_xor, differ, and_step, or_step, xor_step, and_shr, or_shr, xor_shr, xor_add_and, and_block, and_mask, and_self}
use lib.Count.{ones, count_leading_zeros, count_trailing_zeros, leading_top, under}
use Rattle.laws.specs.Bits.{bit}
use Rattle.laws.specs.Words.{Highest, Lowest, Without}
use Rattle.laws.proofs.Tests.{lt_or_le}
use Rattle.laws.proofs.Bits.{bit_lt, bit_low, bit_high, bit_beyond, bits_equal, bits_same, count_mono, ones_count}
use Rattle.laws.proofs.Bits.{set_bit_same, set_bit_other, set_below, clear_bit_same, clear_bit_other}

-- ---- Single bits

pub never : {b : ℕ} {A : Type 0} → b ≡ 0 → b ≡ 1 → A
never z o = absurd (omega arith)

pub zero_of : (m i : ℕ) → (bit m i ≡ 1 → ⊥) → bit m i ≡ 0
zero_of m i n = omega (arith, bit_lt m i)

pub one_of : (m i : ℕ) → (bit m i ≡ 0 → ⊥) → bit m i ≡ 1
one_of m i n = omega (arith, bit_lt m i)

pub either : (m i : ℕ) → (bit m i ≡ 0) ⊎ (bit m i ≡ 1)
either m i = ⊎_elim (λ (l : bit m i < 1). inl (omega arith)) (λ (g : 1 ≤ bit m i). inr (omega (arith, bit_lt m i))) (lt_or_le (bit m i) 1)

pub same_bit : (m k i : ℕ) → (bit m i ≡ 1 → bit k i ≡ 1) → (bit k i ≡ 1 → bit m i ≡ 1) → bit m i ≡ bit k i
same_bit m k i f g =
    ⊎_elim (λ (z : bit m i ≡ 0). z ∙ sym (zero_of k i (λ o. never z (g o)))) (λ (o : bit m i ≡ 1). o ∙ sym (f o)) (either m i)

pub bit_place : (m n i : ℕ) → m < 2 ^ n → bit m i ≡ 1 → i < n
bit_place m n i h o = ⊎_elim (λ (l : i < n). l) (λ (g : n ≤ i). absurd (omega (arith, bit_beyond m n i h g))) (lt_or_le i n)

pub zero_bit : (i : ℕ) → bit 0 i ≡ 0
zero_bit i = bit_beyond 0 0 i (lit< tt) (omega arith)

pub no_bits : (m : ℕ) → ((i : ℕ) → ¬ (bit m i ≡ 1)) → m ≡ 0
no_bits m h = bits_equal m 0 (λ i. zero_of m i (h i) ∙ sym (zero_bit i))

pub set_one : (m i j : ℕ) → bit m i ≡ 0 → bit m j ≡ 1 → bit (m + 2 ^ i) j ≡ 1
set_one m i j z o = set_bit_other m i j z (λ e. never z (subst (λ (u : ℕ). bit m u ≡ 1) e o)) ∙ o

pub one_set : (m i j : ℕ) → bit m i ≡ 0 → bit (m + 2 ^ i) j ≡ 1 → (j ≡ i) ⊎ (bit m j ≡ 1)
one_set m i j z o = elim (ℕ_discrete j i) [ yes e ↦ inl e | no d ↦ inr (sym (set_bit_other m i j z d) ∙ o) ]

pub one_clear : (m i j : ℕ) → bit m i ≡ 1 → bit (m - 2 ^ i) j ≡ 1 → (j ≢ i) × (bit m j ≡ 1)
one_clear m i j s o =
    let d : j ≢ i = λ e. never (clear_bit_same m i s) (subst (λ (u : ℕ). bit (m - 2 ^ i) u ≡ 1) e o) in
    (d, sym (clear_bit_other m i j s d) ∙ o)

pub ones_mono : (m k n : ℕ) → m < 2 ^ n → k < 2 ^ n → ((i : ℕ) → bit m i ≡ 1 → bit k i ≡ 1) → ones m ≤ ones k
ones_mono m k n hm hk f =
    let a = ones_count m n hm in
    let b = ones_count k n hk in
    let c = count_mono m k n (λ i l. ⊎_elim (λ (z : bit m i ≡ 0). omega arith) (λ (o : bit m i ≡ 1). omega (arith, f i o)) (either m i)) in
    omega arith

-- ---- Operations that go digit by digit

module _ (op f : ℕ → ℕ → ℕ)
    (shr : (a b k : ℕ) → op a b / 2 ^ k ≡ op (a / 2 ^ k) (b / 2 ^ k))
    (step : (a b : ℕ) → op a b ≡ op (a / 2) (b / 2) * 2 + f (a % 2) (b % 2))
    (small : (x y : ℕ) → x < 2 → y < 2 → f x y < 2) where
  bit_op : (a b i : ℕ) → bit (op a b) i ≡ f (bit a i) (bit b i)
  unfolding bit
  bit_op a b i =
      ap (λ (x : ℕ). x % 2) (shr a b i ∙ step (a / 2 ^ i) (b / 2 ^ i))
      ∙ digits_mod (op (a / 2 ^ i / 2) (b / 2 ^ i / 2)) (small (a / 2 ^ i % 2) (b / 2 ^ i % 2) (bit_lt a i) (bit_lt b i))

bit_and_lem : (a b i : ℕ) → bit (bit_and a b) i ≡ min (bit a i) (bit b i)
bit_and_lem = bit_op bit_and min and_shr and_step (λ x y h k. lt_of_le_of_lt (min-le_left x y) h)

bit_or_lem : (a b i : ℕ) → bit (bit_or a b) i ≡ max (bit a i) (bit b i)
bit_or_lem = bit_op bit_or max or_shr or_step (λ x y h k. let m : max x y ≤ 1 = max-le (omega arith) (omega arith) in omega arith)

differ_lt : (x y : ℕ) → x < 2 → y < 2 → differ x y < 2
differ_lt zero y h k = k
differ_lt (suc x) zero h k = h
differ_lt (suc zero) (suc y) h k = omega arith
differ_lt (suc (suc x)) (suc y) h k = absurd (omega arith)

bit_xor_lem : (a b i : ℕ) → bit (bit_xor a b) i ≡ differ (bit a i) (bit b i)
bit_xor_lem = bit_op bit_xor differ xor_shr xor_step differ_lt

pub and_one : (a b i : ℕ) → bit a i ≡ 1 → bit b i ≡ 1 → bit (bit_and a b) i ≡ 1
and_one a b i x y = bit_and_lem a b i ∙ ap₂ min x y

pub one_and : (a b i : ℕ) → bit (bit_and a b) i ≡ 1 → (bit a i ≡ 1) × (bit b i ≡ 1)
one_and a b i h =
    let e = bit_and_lem a b i in
    let l = min-le_left (bit a i) (bit b i) in
    let r = min-le_right (bit a i) (bit b i) in
    (omega (arith, bit_lt a i), omega (arith, bit_lt b i))

pub or_left : (a b i : ℕ) → bit a i ≡ 1 → bit (bit_or a b) i ≡ 1
or_left a b i h = omega (arith, bit_or_lem a b i, le-max_left (bit a i) (bit b i), bit_lt (bit_or a b) i)

pub or_right : (a b i : ℕ) → bit b i ≡ 1 → bit (bit_or a b) i ≡ 1
or_right a b i h = omega (arith, bit_or_lem a b i, le-max_right (bit a i) (bit b i), bit_lt (bit_or a b) i)

pub one_or : (a b i : ℕ) → bit (bit_or a b) i ≡ 1 → (bit a i ≡ 1) ⊎ (bit b i ≡ 1)
one_or a b i h = go (bit a i) (bit b i) (bit_lt a i) (bit_lt b i) (sym (bit_or_lem a b i) ∙ h)
  where
    go : (x y : ℕ) → x < 2 → y < 2 → max x y ≡ 1 → (x ≡ 1) ⊎ (y ≡ 1)
    go zero y h k e = inr (sym (zero-max y) ∙ e)
    go (suc x) y h k e = inl (omega arith)

pub without_bits : (a b : ℕ) → Without a b (bit_xor a (bit_and a b))
without_bits a b =
    record {
      first = λ i h. (digits (bit a i) (bit b i) (bit_lt a i) (bit_lt b i) (sym (is i) ∙ h)).0;
      second = λ i h. (digits (bit a i) (bit b i) (bit_lt a i) (bit_lt b i) (sym (is i) ∙ h)).1;
      all = λ i x y. is i ∙ ap₂ (λ (u v : ℕ). differ u (min u v)) x y;
    }
  where
    is : (i : ℕ) → bit (bit_xor a (bit_and a b)) i ≡ differ (bit a i) (min (bit a i) (bit b i))
    is i = bit_xor_lem a (bit_and a b) i ∙ ap (differ (bit a i)) (bit_and_lem a b i)

    digits : (x y : ℕ) → x < 2 → y < 2 → differ x (min x y) ≡ 1 → (x ≡ 1) × (y ≡ 0)
    digits zero zero h k e = (e, refl)
    digits zero (suc y) h k e = absurd (omega arith)
    digits (suc zero) zero h k e = (refl, refl)
    digits (suc zero) (suc zero) h k e = absurd (omega arith)
    digits (suc zero) (suc (suc y)) h k e = absurd (omega arith)
    digits (suc (suc x)) y h k e = absurd (omega arith)

pub low_one : (m n i : ℕ) → i < n → bit m i ≡ 1 → bit (bit_and m (2 ^ n - 1)) i ≡ 1
low_one m n i h o = ap (λ (x : ℕ). bit x i) (and_mask m n) ∙ bit_low m n i h ∙ o

pub one_low : (m n i : ℕ) → bit (bit_and m (2 ^ n - 1)) i ≡ 1 → (i < n) × (bit m i ≡ 1)
one_low m n i o =
    let e : bit (m % 2 ^ n) i ≡ 1 = ap (λ (x : ℕ). bit x i) (sym (and_mask m n)) ∙ o in
    let l = bit_place (m % 2 ^ n) n i (mod-lt m (pow_pos n)) e in
    (l, sym (bit_low m n i l) ∙ e)

pub xor_ones : (a k : ℕ) → a < 2 ^ k → bit_xor a (2 ^ k - 1) ≡ 2 ^ k - 1 - a
xor_ones a k h = omega (arith, xor_add_and a (2 ^ k - 1), and_mask a k, mod-eq_of_lt h)

-- ---- Zeros at either end

-- a mask from 2 ^ i to below its double
top_set : (m i : ℕ) → 2 ^ i ≤ m → m < 2 ^ suc i → bit m i ≡ 1
unfolding bit
top_set m i l u =
    let e : m ≡ 1 * 2 ^ i + (m - 2 ^ i) = omega arith in
    ap (λ (x : ℕ). x / 2 ^ i % 2) e ∙ ap (λ (x : ℕ). x % 2) (high 1 i (omega (arith, pow-suc 2 i)))

pub leading_highest : (k m : ℕ) → 0 < m → m < 2 ^ k → Highest m (k - 1 - count_leading_zeros k m)
leading_highest k m p h =
    let t = leading_top k m p h in
    let e : t.0 ≡ k - 1 - count_leading_zeros k m = omega arith in
    subst (λ (i : ℕ). Highest m i) e (record { set = top_set m t.0 t.2 t.3; above = λ j l. bit_beyond m (suc t.0) j t.3 l })

bit_zero : (m : ℕ) → bit m 0 ≡ m % 2
unfolding bit
bit_zero m = ap (λ (x : ℕ). x % 2) (div-one m)

bit_half : (m i : ℕ) → bit (m / 2) i ≡ bit m (suc i)
bit_half m i = bit_high m 1 i ∙ ap (bit m) (one-add i)

-- an even mask's lowest bit is one above its half's
half_lowest : (m i : ℕ) → m % 2 ≡ 0 → Lowest (m / 2) i → Lowest m (suc i)
half_lowest m i e h = record { set = sym (bit_half m i) ∙ h.set; below = below }
  where
    below : (j : ℕ) → j < suc i → bit m j ≡ 0
    below zero l = bit_zero m ∙ e
    below (suc j) l = sym (bit_half m j) ∙ h.below j (omega arith)

pub trailing_lowest : (k m : ℕ) → 0 < m → m < 2 ^ k → Lowest m (count_trailing_zeros k m)
unfolding count_trailing_zeros
trailing_lowest zero m p h = absurd (omega arith)
trailing_lowest (suc k) m p h = go (m % 2) refl (λ q. trailing_lowest k (m / 2) q (omega (arith, pow-suc 2 k)))
  where
    go : (d : ℕ) → m % 2 ≡ d → (0 < m / 2 → Lowest (m / 2) (count_trailing_zeros k (m / 2))) → Lowest m (under d (count_trailing_zeros k (m / 2)))
    go zero e rest = half_lowest m (count_trailing_zeros k (m / 2)) e (rest (omega arith))
    go (suc d) e rest = record { set = bit_zero m ∙ omega arith; below = λ j l. absurd (omega arith) }

pub power_same : (i : ℕ) → bit (2 ^ i) i ≡ 1
power_same i = subst (λ (x : ℕ). bit x i ≡ 1) (zero-add (2 ^ i)) (set_bit_same 0 i (zero_bit i))

pub power_other : (i j : ℕ) → j ≢ i → bit (2 ^ i) j ≡ 0
power_other i j d = subst (λ (x : ℕ). bit x j ≡ 0) (zero-add (2 ^ i)) (set_bit_other 0 i j (zero_bit i) d ∙ zero_bit j)

-- the lowest bit and nothing below it
lowest_rest : (m i : ℕ) → Lowest m i → m % 2 ^ suc i ≡ 2 ^ i
lowest_rest m i h =
    bits_same (m % 2 ^ suc i) (2 ^ i) (suc i) (mod-lt m (pow_pos (suc i))) (pow-lt (omega arith))
    (λ j l. bit_low m (suc i) j l ∙ elim (ℕ_discrete j i) [
      | yes e ↦ ap (bit m) e ∙ h.set ∙ sym (ap (bit (2 ^ i)) e ∙ power_same i)
      | no d ↦ h.below j (omega arith) ∙ sym (power_other i j d)
    ])

pub and_pred : (m i : ℕ) → Lowest m i → bit_and m (m - 1) ≡ m - 2 ^ i
and_pred m i h =
    let q = m / 2 ^ suc i in
    let s : q * 2 ^ suc i + 2 ^ i ≡ m = ap (λ (x : ℕ). q * 2 ^ suc i + x) (sym (lowest_rest m i h)) ∙ split m (suc i) in
    let p : q * 2 ^ suc i + (2 ^ i - 1) ≡ m - 1 = omega (arith, pow_pos i) in
    let l : 2 ^ i < 2 ^ suc i = pow-lt (omega arith) in
    ap₂ bit_and (sym s) (sym p) ∙ and_block (suc i) q q (2 ^ i) (2 ^ i - 1) l (omega arith)
    ∙ ap₂ (λ (x y : ℕ). x * 2 ^ suc i + y) (and_self q) (and_mask (2 ^ i) i ∙ mod_self (2 ^ i))
    ∙ omega arith

pub lowest_one : (k m : ℕ) → 0 < m → m < 2 ^ k → (i : ℕ) × Lowest m i × (m - bit_and m (m - 1) ≡ 2 ^ i)
lowest_one k m p h =
    let i = count_trailing_zeros k m in
    let l = trailing_lowest k m p h in
    (i, l, omega (arith, and_pred m i l, set_below m i l.set))
