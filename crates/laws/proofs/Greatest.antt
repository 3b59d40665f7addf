-- The greatest of n numbers.
--   Greatest                        r is the greatest of f 0 to f (n - 1), and where it stands
--   greatest_one                    of one number
--   greatest_more, greatest_kept    with one more, which is greater or not
--   greatest_exists                 some numbers have a greatest
use Prim.Native.Nat.{ℕ, zero, suc, ◌+◌, ◌≤◌, ◌<◌}
use native.Mathlib.Omega.{arith}
use native.Mathlib.Numerals.{add-one}
use mathlib.Core.Path.{◌≡◌, refl, sym, ◌∙◌}
use mathlib.Core.Logic.{⊎_elim}
use borrow.Author.Count.{below_none, below_more}
use Rattle.laws.proofs.Tests.{lt_or_le}

pub record Greatest (f : ℕ → ℕ) (n r : ℕ) : Type 0 where
  pub bound : (i : ℕ) → i < n → f i ≤ r
  pub which : ℕ
  pub known : which < n
  pub same : f which ≡ r

module _ (f : ℕ → ℕ) where
  pub greatest_one : Greatest f 1 (f 0)
  greatest_one = record { bound = below_more _ 0 (below_none _) (omega arith); which = 0; known = omega arith; same = refl }

  module _ {n r v : ℕ} (g : Greatest f n r) where
    greatest_at : (j : ℕ) → j < n + 1 → f j ≡ v → r ≤ v → f n ≤ v → Greatest f (n + 1) v
    greatest_at j k e a b = record { bound = below_more (λ i. f i ≤ v) n (λ i l. omega (arith, g.bound i l)) b; which = j; known = k; same = e }

    pub greatest_more : r < f n → v ≡ f n → Greatest f (n + 1) v
    greatest_more l e = greatest_at n (omega arith) (sym e) (omega arith) (omega arith)

    pub greatest_kept : f n ≤ r → v ≡ r → Greatest f (n + 1) v
    greatest_kept l e = greatest_at g.which (omega (arith, g.known)) (g.same ∙ sym e) (omega arith) (omega arith)

  greatest_next : (n : ℕ) → (r : ℕ) × Greatest f n r → (r : ℕ) × Greatest f (n + 1) r
  greatest_next n g =
      ⊎_elim
      (λ (h : g.0 < f n). (f n, greatest_more g.1 h refl))
      (λ (h : f n ≤ g.0). (g.0, greatest_kept g.1 h refl))
      (lt_or_le g.0 (f n))

  pub greatest_exists : (n : ℕ) → (r : ℕ) × Greatest f (suc n) r
  greatest_exists zero = (f 0, greatest_one)
  greatest_exists (suc n) = rw add-one at (greatest_next (suc n) (greatest_exists n))
