-- The homogeneous product (004, Definition 5) taken apart: a row of masks is a word of it exactly if no mask has a bit beyond the n jobs
-- and each job's word is in the job's language. And S_p by the ones of a mask.
--   star_letters     the words of S* have all their letters in S
--   value_lt         a letter's value is 0 or 1
--   Known            all masks of a row are below 2 ^ n
--   Apart            known masks, and each job's word in its language
--   product_apart    the words of the product are these
--   idles_count      of n jobs those that run and those that do not are n
--   shared_few       at least n - p idle is at most p running
use Prim.Native.Nat.{ℕ, zero, suc, ◌+◌, ◌*◌, ◌≤◌, ◌<◌, ◌^◌, ◌%◌}
use native.Mathlib.Omega.{arith}
use native.Mathlib.Nat.{mod-lt, mod-eq_of_lt, pow-suc}
use native.Mathlib.Numerals.{one-add}
use native.Mathlib.Decide.{ℕ_discrete}
use mathlib.Core.Path.{◌≡◌, refl, sym, ap, ap₂, ◌∙◌, subst}
use mathlib.Core.Logic.{◌↔◌}
use mathlib.Core.Bool.{Bool, true, false}
use mathlib.Core.List.{List, [], ◌∷◌, ◌++◌, map}
use lib.Dec.{eqb}
use lib.ListN.{length, get_or, length-map, replicate, length-replicate, get_or-replicate}
use lib.Pow.{pow_pos, high, low, recompose}
use Rattle.laws.specs.Bits.{count}
use Rattle.laws.proofs.Bits.{bit_lt, bit_low, ones_count}
use Rattle.paper.specs.Past.{bit, ones}
use Rattle.paper.specs.Languages.{Language, Star, none, more, Letter, value, vector, together, Product, no_jobs, beside, idles, Shared}
use Rattle.paper.proofs.Words.{letter, letter_value, word}

-- ---- Words of S*

module _ (S : ℕ → Type 0) where
  star_each : {l : List ℕ} → Star (Letter S) l → (t : ℕ) → t < length l → S (get_or l t 0)
  star_each none t h = absurd (omega arith)
  star_each (more u v {w} p x y) t h =
      subst (λ (r : List ℕ). (t : ℕ) → t < length r → S (get_or r t 0)) (sym (p ∙ ap (λ (r : List ℕ). r ++ v) x.single)) (go (star_each y)) t h
    where
      go : ((t : ℕ) → t < length v → S (get_or v t 0)) → (t : ℕ) → t < length (x.letter ∷ v) → S (get_or (x.letter ∷ v) t 0)
      go f zero h = x.allowed
      go f (suc t) h = f t (omega arith)

  each_star : (l : List ℕ) → ((t : ℕ) → t < length l → S (get_or l t 0)) → Star (Letter S) l
  each_star [] f = none
  each_star (m ∷ l) f =
      more (m ∷ []) l refl (record { letter = m; allowed = f 0 (omega arith); single = refl }) (each_star l (λ t h. f (suc t) (omega arith)))

  pub star_letters : (l : List ℕ) → Star (Letter S) l ↔ ((t : ℕ) → t < length l → S (get_or l t 0))
  star_letters l = (star_each, each_star l)

-- ---- One more job

pub value_lt : (b : Bool) → value b < 2
unfolding value
value_lt true = omega arith
value_lt false = omega arith

value_letter : (b : Bool) → eqb (value b) 1 ≡ b
unfolding value
value_letter true = refl
value_letter false = refl

module _ (n m : ℕ) (b : Bool) (h : m < 2 ^ n) where
  vector_lt : vector n m b < 2 ^ suc n
  unfolding value
  vector_lt = elim b as (λ k. vector n m k < 2 ^ suc n) [ true ↦ omega (arith, pow-suc 2 n) | false ↦ omega (arith, pow-suc 2 n) ]

  vector_last : letter n (vector n m b) ≡ b
  unfolding bit
  vector_last = ap (λ (x : ℕ). eqb x 1) (ap (λ (x : ℕ). x % 2) (high (value b) n h) ∙ mod-eq_of_lt (value_lt b)) ∙ value_letter b

  vector_other : (i : ℕ) → i < n → letter i (vector n m b) ≡ letter i m
  vector_other i g = ap (λ (x : ℕ). eqb x 1) (sym (bit_low (vector n m b) n i g) ∙ ap (λ (x : ℕ). bit x i) (low (value b) n h))

-- a mask of n + 1 jobs is a vector
vector_of : (n m : ℕ) → m < 2 ^ suc n → vector n (m % 2 ^ n) (letter n m) ≡ m
unfolding bit
vector_of n m h = ap (λ (x : ℕ). x * 2 ^ n + m % 2 ^ n) (letter_value n m) ∙ recompose 1 n (rw one-add h)

-- ---- Words of the product

abbrev pub Known : ℕ → List ℕ → Type 0
Known n l = (t : ℕ) → t < length l → get_or l t 0 < 2 ^ n

module _ (n m : ℕ) (l : List ℕ) where
  known_cons : m < 2 ^ n → Known n l → Known n (m ∷ l)
  known_cons h f zero g = h
  known_cons h f (suc t) g = f t (omega arith)

  known_head : Known n (m ∷ l) → m < 2 ^ n
  known_head f = f 0 (omega arith)

  known_tail : Known n (m ∷ l) → Known n l
  known_tail f t h = f (suc t) (omega arith)

together_known : (n : ℕ) (α : List ℕ) (β : List Bool) → Known n α → Known (suc n) (together n α β)
unfolding together
together_known n [] β f = λ t h. absurd (omega arith)
together_known n (m ∷ α) [] f = λ t h. absurd (omega arith)
together_known n (m ∷ α) (b ∷ β) f =
    known_cons (suc n) (vector n m b) (together n α β) (vector_lt n m b (known_head n m α f)) (together_known n α β (known_tail n m α f))

together_last : (n : ℕ) (α : List ℕ) (β : List Bool) → length α ≡ length β → Known n α → word n (together n α β) ≡ β
unfolding together word
together_last n [] [] e f = refl
together_last n [] (b ∷ β) e f = absurd (omega arith)
together_last n (m ∷ α) [] e f = absurd (omega arith)
together_last n (m ∷ α) (b ∷ β) e f =
    ap₂ (λ (x : Bool) (r : List Bool). x ∷ r) (vector_last n m b (known_head n m α f)) (together_last n α β (omega arith) (known_tail n m α f))

together_other : (n i : ℕ) (α : List ℕ) (β : List Bool) → i < n → length α ≡ length β → Known n α → word i (together n α β) ≡ word i α
unfolding together word
together_other n i [] β h e f = refl
together_other n i (m ∷ α) [] h e f = absurd (omega arith)
together_other n i (m ∷ α) (b ∷ β) h e f =
    ap₂ (λ (x : Bool) (r : List Bool). x ∷ r)
    (vector_other n m b (known_head n m α f) i h)
    (together_other n i α β h (omega arith) (known_tail n m α f))

-- the masks of all jobs but the last
lower : ℕ → List ℕ → List ℕ
lower n l = map (λ m. m % 2 ^ n) l

lower_length : (n : ℕ) (l : List ℕ) → length (lower n l) ≡ length (word n l)
unfolding lower word
lower_length n l = length-map l (λ m. m % 2 ^ n) ∙ sym (length-map l (letter n))

lower_known : (n : ℕ) (l : List ℕ) → Known n (lower n l)
unfolding lower
lower_known n [] = λ t h. absurd (omega arith)
lower_known n (m ∷ l) = known_cons n (m % 2 ^ n) (lower n l) (mod-lt m (pow_pos n)) (lower_known n l)

lower_together : (n : ℕ) (l : List ℕ) → Known (suc n) l → together n (lower n l) (word n l) ≡ l
unfolding together lower word
lower_together n [] f = refl
lower_together n (m ∷ l) f =
    ap₂ (λ (x : ℕ) (r : List ℕ). x ∷ r) (vector_of n m (known_head (suc n) m l f)) (lower_together n l (known_tail (suc n) m l f))

zeros : (l : List ℕ) → Known 0 l → l ≡ replicate (length l) 0
zeros [] f = refl
zeros (m ∷ l) f = ap₂ (λ (x : ℕ) (r : List ℕ). x ∷ r) (let h : m < 1 = known_head 0 m l f in omega arith) (zeros l (known_tail 0 m l f))

pub record Apart (L : ℕ → Language Bool) (n : ℕ) (l : List ℕ) : Type 0 where
  pub known : Known n l
  pub each : (i : ℕ) → i < n → L i (word i l)

module _ (L : ℕ → Language Bool) where
  apart_beside : (n : ℕ) (α : List ℕ) (β : List Bool) → length α ≡ length β → Apart L n α → L n β → Apart L (suc n) (together n α β)
  apart_beside n α β e x b = record {
    known = together_known n α β x.known;
    each = λ i h. elim (ℕ_discrete i n) [
      | yes q ↦ rw (q, together_last n α β e x.known) b
      | no q ↦ let g : i < n = omega arith in rw (together_other n i α β g e x.known) (x.each i g)
    ];
  }

  of_product : {n : ℕ} {l : List ℕ} → Product L n l → Apart L n l
  of_product (no_jobs k {l} e) = record {
    known = rw e (λ t h. rw (get_or-replicate {A = ℕ} k t 0 0 (rw length-replicate at h)) (omega arith));
    each = λ i h. absurd (omega arith);
  }
  of_product (beside {n} α β e x b q) = subst (Apart L (suc n)) (sym q) (apart_beside n α β e (of_product x) b)

  to_product : (n : ℕ) (l : List ℕ) → Apart L n l → Product L n l
  to_product zero l x = no_jobs (length l) (zeros l x.known)
  to_product (suc n) l x =
      beside (lower n l) (word n l) (lower_length n l)
      (to_product n (lower n l) (record { known = lower_known n l; each = each }))
      (x.each n (omega arith)) (sym (lower_together n l x.known))
    where
      same : (i : ℕ) → i < n → word i (lower n l) ≡ word i l
      same i h =
          sym (together_other n i (lower n l) (word n l) h (lower_length n l) (lower_known n l))
          ∙ ap (word i) (lower_together n l x.known)

      each : (i : ℕ) → i < n → L i (word i (lower n l))
      each i h = rw (same i h) (x.each i (omega arith))

  pub product_apart : (n : ℕ) (l : List ℕ) → Product L n l ↔ Apart L n l
  product_apart n l = (of_product, to_product n l)

-- ---- S_p

idles_count : (n m : ℕ) → count m n + idles n m ≡ n
unfolding count idles
idles_count zero m = refl
idles_count (suc n) m = omega (arith, idles_count n m, bit_lt m n)

pub shared_few : (n p m : ℕ) → m < 2 ^ n → Shared n p m ↔ (ones m ≤ p)
shared_few n p m h =
    let a = idles_count n m in
    let b = ones_count m n h in
    (λ (x : Shared n p m). omega arith, λ (x : ones m ≤ p). omega arith)
