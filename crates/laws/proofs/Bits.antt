-- Laws of masks.
--   bit_lt                            a bit is 0 or 1
--   bit_low                           the bits below n are those of the remainder by 2 ^ n
--   bit_high                          the bits from n on are those of the quotient by 2 ^ n
--   bit_beyond, below_of_bits         m is below 2 ^ n exactly where its bits from n on are 0
--   bits_same                         masks below 2 ^ n with the same bits below n are equal
--   bits_equal                        masks with the same bits are equal
--   set_bit_same, set_bit_other       the bits after bit i, which was 0, is set
--   set_room                          a mask below 2 ^ n stays there when a bit below n is set
--   set_below                         a mask is at least the power of each bit that is set
--   clear_bit_same, clear_bit_other   the bits after bit i, which was 1, is cleared
--   count_mono, count_same            counts go by the bits
--   count_set                         a bit that is set makes one more
--   ones_count                        the machine's count of ones is ours
--   ones_set                          the same as count_set, of the machine's count
--   mask_of_lt                         mask_of f n is below 2 ^ n
--   mask_of_none                       mask_of f 0 is 0
--   mask_of_same                       tests that agree make the same mask
--   mask_of_bit                        the bits of mask_of f n below n
--   mask_of_bits                       a mask is the one made from its bits
--   shifted_one, and_pow, or_pow      the machine's words for bit i
--   lt_at                             the highest bit in which masks differ decides which is less
--   lt_first                          of two masks the less has a 0 at that bit
use mathlib.Core.Path.{◌≡◌, refl, sym, ap, subst, ◌∙◌}
use mathlib.Core.Bool.{Bool, true, false, cond}
use mathlib.Core.Logic.{◌≢◌, ⊎_elim}
use Prim.Native.Nat.{ℕ, zero, suc, ◌+◌, ◌-◌, ◌*◌, ◌/◌, ◌%◌, ◌^◌, ◌≤◌, ◌<◌}
use native.Mathlib.Omega.{arith}
use native.Mathlib.Decide.{ℕ_discrete}
use native.Mathlib.Nat.{add-zero, zero-mul, one-mul, pow-suc, le_refl, le_of_lt, lt_trans, lt_of_lt_of_le}
use native.Mathlib.Nat.{mod-lt, mod-eq_of_lt, add-mod_right, div-eq_of_lt, add-div_right}
use native.Mathlib.Numerals.{add-one, one-add}
use lib.Dec.{eqb, lit<}
use lib.Pow.{pow_pos, pow_mono, shl_exact, shr-shr, shr_mono, mod-pow-add, field, mod-mod-pow}
use lib.Bits.{bit_and, bit_or, and_high, or_disjoint}
use lib.Count.{ones, ones_cat}
use Rattle.laws.specs.Bits.{bit, count, mask_of}
use Rattle.laws.proofs.Tests.{lt_or_le}

-- ---- Single bits

pub bit_lt : (m i : ℕ) → bit m i < 2
unfolding bit
bit_lt m i = mod-lt (m / 2 ^ i) (lit< tt)

pub bit_low : (m n i : ℕ) → i < n → bit (m % 2 ^ n) i ≡ bit m i
unfolding bit
bit_low m n i h =
    let j = n - suc i in
    let e : j + (1 + i) ≡ n = omega arith in
    let r : m % 2 ^ n % 2 ^ (1 + i) ≡ m % 2 ^ (1 + i) = subst (λ (x : ℕ). m % 2 ^ x % 2 ^ (1 + i) ≡ m % 2 ^ (1 + i)) e (mod-mod-pow m j (1 + i)) in
    sym (field (m % 2 ^ n) 1 i) ∙ ap (λ (x : ℕ). x / 2 ^ i) r ∙ field m 1 i

pub bit_high : (m n i : ℕ) → bit (m / 2 ^ n) i ≡ bit m (n + i)
unfolding bit
bit_high m n i = ap (λ (x : ℕ). x % 2) (shr-shr m n i)

-- the bits above i are those of the quotient by 2 ^ (i + 1)
above_same : (m k i : ℕ) → m / 2 ^ suc i ≡ k / 2 ^ suc i → (j : ℕ) → i < j → bit m j ≡ bit k j
above_same m k i e j h =
    let s : suc i + (j - suc i) ≡ j = omega arith in
    subst (λ (x : ℕ). bit m x ≡ bit k x) s
    (sym (bit_high m (suc i) (j - suc i)) ∙ ap (λ (x : ℕ). bit x (j - suc i)) e ∙ bit_high k (suc i) (j - suc i))

pub bit_beyond : (m n i : ℕ) → m < 2 ^ n → n ≤ i → bit m i ≡ 0
unfolding bit
bit_beyond m n i l h = ap (λ (x : ℕ). x % 2) (div-eq_of_lt (lt_of_lt_of_le l (pow_mono h)))

-- the quotient and the remainder by the next power
half : (m n : ℕ) → m / 2 ^ suc n ≡ m / 2 ^ n / 2
half m n = ap (λ (x : ℕ). m / 2 ^ x) (sym (add-one n)) ∙ sym (shr-shr m n 1)

digit : (m n : ℕ) → m % 2 ^ suc n ≡ bit m n * 2 ^ n + m % 2 ^ n
unfolding bit
digit m n = ap (λ (x : ℕ). m % 2 ^ x) (sym (one-add n)) ∙ mod-pow-add m 1 n

same_low : (m k n : ℕ) → ((i : ℕ) → i < n → bit m i ≡ bit k i) → m % 2 ^ n ≡ k % 2 ^ n
same_low m k zero e = omega arith
same_low m k (suc n) e = rw (digit m n, digit k n, e n (omega arith), same_low m k n (λ i h. e i (omega arith)))

pub bits_same : (m k n : ℕ) → m < 2 ^ n → k < 2 ^ n → ((i : ℕ) → i < n → bit m i ≡ bit k i) → m ≡ k
bits_same m k n a b e = sym (mod-eq_of_lt a) ∙ same_low m k n e ∙ mod-eq_of_lt b

-- every number is below some power
below_pow : (m : ℕ) → m < 2 ^ m
below_pow zero = lit< tt
below_pow (suc m) = omega (arith, below_pow m, pow-suc 2 m)

below_pow_more : (m n : ℕ) → m ≤ n → m < 2 ^ n
below_pow_more m n h = lt_of_lt_of_le (below_pow m) (pow_mono h)

pub below_of_bits : (m n : ℕ) → ((i : ℕ) → n ≤ i → bit m i ≡ 0) → m < 2 ^ n
below_of_bits m n e = subst (λ (x : ℕ). x < 2 ^ n) (sym same) small
  where
    small : m % 2 ^ n < 2 ^ n
    small = mod-lt m (pow_pos n)

    agree : (i : ℕ) → i < m + n → bit m i ≡ bit (m % 2 ^ n) i
    agree i h =
        ⊎_elim
        (λ (l : i < n). sym (bit_low m n i l))
        (λ (g : n ≤ i). e i g ∙ sym (bit_beyond (m % 2 ^ n) n i small g))
        (lt_or_le i n)

    same : m ≡ m % 2 ^ n
    same = bits_same m (m % 2 ^ n) (m + n) (below_pow_more m (m + n) (omega arith)) (lt_of_lt_of_le small (pow_mono (omega arith))) agree

pub bits_equal : (m k : ℕ) → ((i : ℕ) → bit m i ≡ bit k i) → m ≡ k
bits_equal m k e =
    bits_same m k (m + k) (below_pow_more m (m + k) (omega arith)) (below_pow_more k (m + k) (omega arith)) (λ i h. e i)

-- ---- Setting and clearing a bit

-- adding 2 ^ i adds one to the quotient by it
one_more : (m i : ℕ) → (m + 2 ^ i) / 2 ^ i ≡ m / 2 ^ i + 1
one_more m i = add-div_right m (pow_pos i)

-- where bit i is 0, nothing is carried
no_carry : (m i : ℕ) → bit m i ≡ 0 → (m + 2 ^ i) / 2 ^ suc i ≡ m / 2 ^ suc i
unfolding bit
no_carry m i z = let a = half m i in let b = half (m + 2 ^ i) i in let e = one_more m i in omega arith

pub set_bit_same : (m i : ℕ) → bit m i ≡ 0 → bit (m + 2 ^ i) i ≡ 1
unfolding bit
set_bit_same m i z = let e = one_more m i in omega arith

pub set_bit_other : (m i j : ℕ) → bit m i ≡ 0 → j ≢ i → bit (m + 2 ^ i) j ≡ bit m j
set_bit_other m i j z d = ⊎_elim below above (lt_or_le j i)
  where
    below : j < i → bit (m + 2 ^ i) j ≡ bit m j
    below l = sym (bit_low (m + 2 ^ i) i j l) ∙ ap (λ (x : ℕ). bit x j) (add-mod_right m (2 ^ i)) ∙ bit_low m i j l

    above : i ≤ j → bit (m + 2 ^ i) j ≡ bit m j
    above g = above_same (m + 2 ^ i) m i (no_carry m i z) j (omega arith)

pub set_room : (m i n : ℕ) → i < n → m < 2 ^ n → bit m i ≡ 0 → m + 2 ^ i < 2 ^ n
set_room m i n h l z =
    below_of_bits (m + 2 ^ i) n (λ j g. set_bit_other m i j z (λ (e : j ≡ i). omega arith) ∙ bit_beyond m n j l g)

pub set_below : (m i : ℕ) → bit m i ≡ 1 → 2 ^ i ≤ m
set_below m i o =
    ⊎_elim
    (λ (l : m < 2 ^ i). let z = bit_beyond m i i l (le_refl i) in absurd (omega arith))
    (λ (g : 2 ^ i ≤ m). g)
    (lt_or_le m (2 ^ i))

pub clear_bit_same : (m i : ℕ) → bit m i ≡ 1 → bit (m - 2 ^ i) i ≡ 0
unfolding bit
clear_bit_same m i o =
    let e : (m - 2 ^ i) + 2 ^ i ≡ m = omega (arith, set_below m i o) in
    let q = rw e at (one_more (m - 2 ^ i) i) in
    omega arith

pub clear_bit_other : (m i j : ℕ) → bit m i ≡ 1 → j ≢ i → bit (m - 2 ^ i) j ≡ bit m j
clear_bit_other m i j o d =
    let e : (m - 2 ^ i) + 2 ^ i ≡ m = omega (arith, set_below m i o) in
    rw e at (sym (set_bit_other (m - 2 ^ i) i j (clear_bit_same m i o) d))

-- ---- Counts

pub count_mono : (m k n : ℕ) → ((i : ℕ) → i < n → bit m i ≤ bit k i) → count m n ≤ count k n
unfolding count
count_mono m k zero h = omega arith
count_mono m k (suc n) h = let a = count_mono m k n (λ i l. h i (omega arith)) in let b = h n (omega arith) in omega arith

count_same : (m k n : ℕ) → ((i : ℕ) → i < n → bit m i ≡ bit k i) → count m n ≡ count k n
unfolding count
count_same m k zero e = refl
count_same m k (suc n) e = rw (e n (omega arith), count_same m k n (λ i h. e i (omega arith)))

count_set : (m i n : ℕ) → i < n → bit m i ≡ 0 → count (m + 2 ^ i) n ≡ count m n + 1
unfolding count
count_set m i zero h z = absurd (omega arith)
count_set m i (suc n) h z = elim (ℕ_discrete i n) [
  | yes e ↦
      let a = count_same (m + 2 ^ i) m n (λ j l. set_bit_other m i j z (λ (d : j ≡ i). omega arith)) in
      let b = subst (λ (x : ℕ). bit (m + 2 ^ i) x ≡ 1) e (set_bit_same m i z) in
      let c = subst (λ (x : ℕ). bit m x ≡ 0) e z in
      omega arith
  | no d ↦
      let a = count_set m i n (omega arith) z in
      let b = set_bit_other m i n z (λ (e : n ≡ i). d (sym e)) in
      omega arith
]

ones_bit : (b : ℕ) → b < 2 → ones b ≡ b
unfolding ones lib.Count.ones_in
ones_bit zero h = refl
ones_bit (suc zero) h = refl
ones_bit (suc (suc n)) h = absurd (omega arith)

ones_low : (m n : ℕ) → ones (m % 2 ^ n) ≡ count m n
unfolding count
ones_low m zero = ap ones (omega arith) ∙ ones_bit 0 (lit< tt)
ones_low m (suc n) =
    ap ones (digit m n) ∙ ones_cat n (bit m n) (m % 2 ^ n) (mod-lt m (pow_pos n)) ∙ omega (arith, ones_bit (bit m n) (bit_lt m n), ones_low m n)

pub ones_count : (m n : ℕ) → m < 2 ^ n → ones m ≡ count m n
ones_count m n h = ap ones (sym (mod-eq_of_lt h)) ∙ ones_low m n

pub ones_set : (m i : ℕ) → bit m i ≡ 0 → ones (m + 2 ^ i) ≡ ones m + 1
ones_set m i z =
    let n = suc (m + i) in
    let l = below_pow_more m n (omega arith) in
    let h : i < n = omega arith in
    ones_count (m + 2 ^ i) n (set_room m i n h l z) ∙ count_set m i n h z ∙ ap (λ (x : ℕ). x + 1) (sym (ones_count m n l))

-- ---- Masks made from a test

grows : (x n : ℕ) (b : Bool) → x < 2 ^ n → x + cond b (2 ^ n) 0 < 2 ^ suc n
grows x n true h = omega (arith, pow-suc 2 n)
grows x n false h = omega (arith, pow-suc 2 n)

pub mask_of_lt : (f : ℕ → Bool) (n : ℕ) → mask_of f n < 2 ^ n
unfolding mask_of
mask_of_lt f zero = lit< tt
mask_of_lt f (suc n) = grows (mask_of f n) n (f n) (mask_of_lt f n)

pub mask_of_none : (f : ℕ → Bool) → mask_of f 0 ≡ 0
unfolding mask_of
mask_of_none f = refl

pub mask_of_same : (f g : ℕ → Bool) (n : ℕ) → ((i : ℕ) → i < n → f i ≡ g i) → mask_of f n ≡ mask_of g n
unfolding mask_of
mask_of_same f g zero e = refl
mask_of_same f g (suc n) e = rw (e n (omega arith), mask_of_same f g n (λ i h. e i (omega arith)))

-- the digit n on top of what lies below it
top : (x n : ℕ) (b : Bool) → x < 2 ^ n → bit (x + cond b (2 ^ n) 0) n ≡ cond b 1 0
top x n true h = set_bit_same x n (bit_beyond x n n h (le_refl n))
top x n false h = rw add-zero (bit_beyond x n n h (le_refl n))

under : (x n i : ℕ) (b : Bool) → x < 2 ^ n → i < n → bit (x + cond b (2 ^ n) 0) i ≡ bit x i
under x n i true h l = set_bit_other x n i (bit_beyond x n n h (le_refl n)) (λ (e : i ≡ n). omega arith)
under x n i false h l = rw add-zero

pub mask_of_bit : (f : ℕ → Bool) (n i : ℕ) → i < n → bit (mask_of f n) i ≡ cond (f i) 1 0
unfolding mask_of
mask_of_bit f zero i h = absurd (omega arith)
mask_of_bit f (suc n) i h = elim (ℕ_discrete i n) [
  | yes e ↦ subst (λ (x : ℕ). bit (mask_of f (suc n)) x ≡ cond (f x) 1 0) (sym e) (top (mask_of f n) n (f n) (mask_of_lt f n))
  | no d ↦ under (mask_of f n) n i (f n) (mask_of_lt f n) (omega arith) ∙ mask_of_bit f n i (omega arith)
]

-- a bit of 0 or 1, told by the test whether it is 1
told : (b : ℕ) → b < 2 → b ≡ cond (eqb b 1) 1 0
told zero h = refl
told (suc zero) h = refl
told (suc (suc n)) h = absurd (omega arith)

pub mask_of_bits : (m n : ℕ) → m < 2 ^ n → m ≡ mask_of (λ i. eqb (bit m i) 1) n
mask_of_bits m n h =
    bits_same m (mask_of (λ i. eqb (bit m i) 1) n) n h (mask_of_lt (λ i. eqb (bit m i) 1) n)
    (λ i l. told (bit m i) (bit_lt m i) ∙ sym (mask_of_bit (λ i. eqb (bit m i) 1) n i l))

-- ---- The machine's words

-- `1 << i` at a u16
pub shifted_one : (i : ℕ) → i < 16 → (1 * 2 ^ i) % 65536 ≡ 2 ^ i
shifted_one i h = shl_exact {a = 1} 1 i 16 (lit< tt) (omega arith) ∙ one-mul (2 ^ i)

-- `m & (1 << i)`
and_pow : (m i : ℕ) → bit_and m (2 ^ i) ≡ bit m i * 2 ^ i
unfolding bit
and_pow m i =
    let e : 2 ^ (1 + i) - 2 ^ i ≡ 2 ^ i = rw (one-add, pow-suc) (omega arith) in
    ap (λ (x : ℕ). bit_and m x) (sym e) ∙ and_high m 1 i

-- `m | (1 << i)` where bit i is 0
pub or_pow : (m i : ℕ) → bit m i ≡ 0 → bit_or m (2 ^ i) ≡ m + 2 ^ i
or_pow m i z = or_disjoint m (2 ^ i) (and_pow m i ∙ ap (λ (b : ℕ). b * 2 ^ i) z ∙ zero-mul (2 ^ i))

-- ---- Order

same_above : (m k i : ℕ) → ((j : ℕ) → i < j → bit m j ≡ bit k j) → m / 2 ^ suc i ≡ k / 2 ^ suc i
same_above m k i e =
    bits_equal (m / 2 ^ suc i) (k / 2 ^ suc i) (λ j. bit_high m (suc i) j ∙ e (suc i + j) (omega arith) ∙ sym (bit_high k (suc i) j))

pub lt_at : (m k i : ℕ) → bit m i ≡ 0 → bit k i ≡ 1 → ((j : ℕ) → i < j → bit m j ≡ bit k j) → m < k
unfolding bit
lt_at m k i z o e =
    ⊎_elim
    (λ (l : m < k). l)
    (λ (g : k ≤ m).
    let a = half m i in
    let b = half k i in
    let c = same_above m k i e in
    let d = shr_mono i g in
    absurd (omega arith))
    (lt_or_le m k)

-- from n downward to the first bit that differs
descend : (m k : ℕ) → m < k → (n : ℕ) → m / 2 ^ n ≡ k / 2 ^ n
    → (i : ℕ) × (i < n) × (bit m i ≡ 0) × (bit k i ≡ 1) × ((j : ℕ) → i < j → bit m j ≡ bit k j)
unfolding bit
descend m k l zero e = absurd (omega arith)
descend m k l (suc n) e = elim (ℕ_discrete (m / 2 ^ n) (k / 2 ^ n)) [
  | yes s ↦ let r = descend m k l n s in (r.0, omega arith, r.2, r.3, r.4)
  | no d ↦
      let a = half m n in
      let b = half k n in
      let c = shr_mono n (le_of_lt l) in
      (n, omega arith, omega arith, omega arith, above_same m k n e)
]

pub lt_first : (m k n : ℕ) → m < k → k < 2 ^ n
    → (i : ℕ) × (i < n) × (bit m i ≡ 0) × (bit k i ≡ 1) × ((j : ℕ) → i < j → bit m j ≡ bit k j)
lt_first m k n l h = descend m k l n (div-eq_of_lt (lt_trans l h) ∙ sym (div-eq_of_lt h))
