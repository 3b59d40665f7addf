-- Laws of Boolean tests.
--   lt_or_le             of two numbers, the first is less or the second is at most the first
--   T?                   a test is decided
--   true_of, T_of        a test that holds is true, and a true one holds
--   false_of             a test whose negation holds is false
--   false_of_not         a test that does not hold is false
--   pick_lt, pick_ge     a choice by `ltb a b`
--   pick_eq, pick_ne     a choice by `eqb a b`
--   and_T, T_and         both tests
--   asks_T, T_asks       one test where another holds
--   all_T, T_all         a test of every number below n
--   eqb_T                equal numbers pass the test of equality
use Prim.Native.Nat.{ℕ, zero, suc, ◌≤◌, ◌<◌}
use native.Mathlib.Omega.{arith}
use native.Mathlib.Decide.{dec_lt, ℕ_discrete}
use mathlib.Core.Path.{◌≡◌, refl, sym, subst}
use mathlib.Core.Logic.{◌⊎◌, inl, inr, ◌≢◌}
use mathlib.Core.Bool.{Bool, true, false, not, cond}
use lib.Dec.{T, ltb, eqb, lt→ltb, not_T, eqb→eq, eqb_refl}
use lib.Arith.{le→nltb}
use Rattle.laws.specs.Tests.{both, asks, all}

pub lt_or_le : (a b : ℕ) → (a < b) ⊎ (b ≤ a)
lt_or_le a b = elim (dec_lt a b) [ yes h ↦ inl h | no n ↦ inr (omega arith) ]

pub T? : (b : Bool) → Dec (T b)
T? true = yes tt
T? false = no (λ t. t)

pub true_of : (b : Bool) → T b → b ≡ true
true_of true t = refl
true_of false t = absurd t

pub T_of : (b : Bool) → b ≡ true → T b
T_of b e = subst T (sym e) tt

false_of : (b : Bool) → T (not b) → b ≡ false
false_of true t = absurd t
false_of false t = refl

pub false_of_not : (b : Bool) → ¬ T b → b ≡ false
false_of_not b n = false_of b (not_T b n)

module _ {A : Type 0} (a b : ℕ) (x y : A) where
  pub pick_lt : a < b → cond (ltb a b) x y ≡ x
  pick_lt h = rw (true_of (ltb a b) (lt→ltb a b h))

  pub pick_ge : b ≤ a → cond (ltb a b) x y ≡ y
  pick_ge h = rw (false_of (ltb a b) (le→nltb a b h))

  pub pick_eq : a ≡ b → cond (eqb a b) x y ≡ x
  pick_eq h = rw (true_of (eqb a b) (subst (λ (c : ℕ). T (eqb a c)) h (eqb_refl a)))

  pub pick_ne : a ≢ b → cond (eqb a b) x y ≡ y
  pick_ne h = rw (false_of_not (eqb a b) (λ t. h (eqb→eq a b t)))

pub and_T : (a b : Bool) → T a → T b → T (both a b)
unfolding both
and_T true b x y = y
and_T false b x y = absurd x

pub T_and : (a b : Bool) → T (both a b) → T a × T b
unfolding both
T_and true b x = (tt, x)
T_and false b x = absurd x

pub asks_T : (a b : Bool) → (T a → T b) → T (asks a b)
unfolding asks
asks_T true b h = h tt
asks_T false b h = tt

pub T_asks : (a b : Bool) → T (asks a b) → T a → T b
unfolding asks
T_asks true b h x = h
T_asks false b h x = absurd x

pub all_T : (n : ℕ) (f : ℕ → Bool) → ((i : ℕ) → i < n → T (f i)) → T (all n f)
unfolding all
all_T zero f h = tt
all_T (suc n) f h = and_T (f n) (all n f) (h n (omega arith)) (all_T n f (λ i l. h i (omega arith)))

pub T_all : (n : ℕ) (f : ℕ → Bool) → T (all n f) → (i : ℕ) → i < n → T (f i)
unfolding all
T_all zero f t i l = absurd (omega arith)
T_all (suc n) f t i l = elim (ℕ_discrete i n) [
  | yes e ↦ subst (λ (j : ℕ). T (f j)) (sym e) (T_and (f n) (all n f) t).0
  | no d ↦ T_all n f (T_and (f n) (all n f) t).1 i (omega arith)
]

pub eqb_T : (a b : ℕ) → a ≡ b → T (eqb a b)
eqb_T a b e = subst (λ (c : ℕ). T (eqb a c)) e (eqb_refl a)
