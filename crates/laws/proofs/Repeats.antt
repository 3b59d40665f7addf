-- Laws of the first value that a sequence has twice.
--   first_unique         there is only one
--   distinct_bound       distinct values that lie in a list are no more than it has places
--   first_twice_exists   a sequence whose values all lie in a list has a value twice, within as many places as the list has and one more
--   first_along          only the places up to the second one count
use mathlib.Core.Path.{◌≡◌, sym, ◌∙◌, ap}
use mathlib.Core.Logic.{◌⊎◌, inl, inr}
use mathlib.Core.HLevel.{Discrete}
use mathlib.Core.List.Memᴰ
use mathlib.Core.List.{List}
use Prim.Native.Nat.{ℕ, zero, suc, ◌≤◌, ◌<◌}
use native.Mathlib.Decide.{ℕ_discrete, dec_lt}
use native.Mathlib.Omega.{arith}
use lib.ListN.{length}
use Rattle.laws.specs.Lists.{◌∈◌, Distinct, beginning}
use Rattle.laws.specs.Repeats.{DistinctBelow, FirstTwice}
use Rattle.laws.proofs.Lists.{pigeonhole, beginning_length, beginning_at, at_in_beginning, in_beginning_at, at_distinct, in?}

module _ {A : Type 0} (f : ℕ → A) where
  pub first_unique : {a b c d : ℕ} → FirstTwice f a b → FirstTwice f c d → (a ≡ c) × (b ≡ d)
  first_unique {a} {b} {c} {d} r s = go (dec_lt b d) (dec_lt d b) (dec_lt a c) (dec_lt c a)
    where
      go : Dec (b < d) → Dec (d < b) → Dec (a < c) → Dec (c < a) → (a ≡ c) × (b ≡ d)
      go (yes h) k l m = absurd (s.before a b r.earlier h r.same)
      go (no h) (yes k) l m = absurd (r.before c d s.earlier k s.same)
      go (no h) (no k) (yes l) m = absurd (r.before a c l (omega arith) (r.same ∙ (let q : b ≡ d = omega arith in ap f q) ∙ sym s.same))
      go (no h) (no k) (no l) (yes m) = absurd (s.before c a m (omega arith) (s.same ∙ (let q : d ≡ b = omega arith in ap f q) ∙ sym r.same))
      go (no h) (no k) (no l) (no m) = (omega arith, omega arith)

  beginning_distinct : (n : ℕ) → DistinctBelow f n → Distinct (beginning f n)
  beginning_distinct n d =
      at_distinct (beginning f n) (f 0)
      (λ x y l k e.
      let h : y < n = omega (arith, beginning_length f n) in
      d x y l h (sym (beginning_at f n (f 0) x (omega arith)) ∙ e ∙ beginning_at f n (f 0) y h))

  pub distinct_bound : (cs : List A) (n : ℕ) → ((k : ℕ) → k < n → f k ∈ cs) → DistinctBelow f n → n ≤ length cs
  distinct_bound cs n h d =
      let k = pigeonhole cs (beginning_distinct n d) (λ x p. let r = in_beginning_at f n p in Memᴰ.cast (sym r.2) (h r.0 r.1)) in
      omega (arith, beginning_length f n)

  module _ (eq? : Discrete A) where
    -- below n no value stands twice, or the first that does is found
    abbrev Searched : ℕ → Type 0
    Searched n = DistinctBelow f n ⊎ ((a : ℕ) × (b : ℕ) × (b < n) × FirstTwice f a b)

    one_more : (n : ℕ) → DistinctBelow f n → Dec (f n ∈ beginning f n) → Searched (suc n)
    one_more n d (yes p) =
        let r = in_beginning_at f n p in
        inr (r.0, n, omega arith, record { earlier = r.1; same = r.2; before = d })
    one_more n d (no h) = inl (λ x y l k e. ends x y l k e (ℕ_discrete y n))
      where
        ends : (x y : ℕ) → x < y → y < suc n → f x ≡ f y → Dec (y ≡ n) → ⊥
        ends x y l k e (yes z) = h (Memᴰ.cast (sym (e ∙ ap f z)) (at_in_beginning f n x (omega arith)))
        ends x y l k e (no z) = d x y l (omega arith) e

    searched : (n : ℕ) → Searched n
    searched zero = inl (λ x y l k. omega arith)
    searched (suc n) = elim (searched n) [
      | inl d ↦ one_more n d (in? eq? (f n) (beginning f n))
      | inr r ↦ inr (r.0, r.1, omega arith, r.3)
    ]

    pub first_twice_exists : (cs : List A) → ((n : ℕ) → f n ∈ cs) → (a : ℕ) × (b : ℕ) × (b ≤ length cs) × FirstTwice f a b
    first_twice_exists cs h = elim (searched (suc (length cs))) [
      | inl d ↦ absurd (omega (arith, distinct_bound cs (suc (length cs)) (λ k l. h k) d))
      | inr r ↦ (r.0, r.1, omega arith, r.3)
    ]

pub first_along : {A : Type 0} (f g : ℕ → A) {a b : ℕ} → ((i : ℕ) → i ≤ b → f i ≡ g i) → FirstTwice f a b → FirstTwice g a b
first_along f g {a} {b} e r = record {
  earlier = r.earlier;
  same = sym (e a (omega arith)) ∙ r.same ∙ e b (omega arith);
  before = λ x y l k s. r.before x y l k (e x (omega arith) ∙ s ∙ sym (e y (omega arith)));
}
