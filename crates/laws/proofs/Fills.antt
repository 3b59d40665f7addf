-- An array that is filled from the front, one store a turn.
--   filled_by   P holds of each place below i and what stands there; a store at i of what P asks there makes it so below i + 1
--   filled      the same where P says what stands there
--   rest        what stands from i on is d; a store at i leaves it so from i + 1 on
--   Uniform     the first i places hold v, and what stands from i on is as found
--   uniform_start, uniform_more, uniform_whole   where nothing is stored yet, one store more, and at the end
use Prim.Native.Nat.{ℕ, ◌+◌, ◌≤◌, ◌<◌}
use native.Mathlib.Omega.{arith}
use mathlib.Core.Path.{◌≡◌, refl, sym, ap, subst, ◌∙◌}
use mathlib.Core.List.{List, ◌++◌, append-nil}
use borrow.Author.Count.{below_more}
use borrow.Author.Fill.{fill_none, fill_more}
use lib.ListN.{length, get_or, set, drop, replicate, length-set}
use lib.Seq.{get_or-set_same, get_or-set_other, drop-length}

module _ {A : Type 0} (P : ℕ → A → Type 0) (l : List A) (i : ℕ) (v d : A) where
  pub filled_by : i < length l → ((k : ℕ) → k < i → P k (get_or l k d)) → P i v → (k : ℕ) → k < i + 1 → P k (get_or (set l i v) k d)
  filled_by h p e =
      below_more _ _
      (λ k q. subst (P k) (sym (get_or-set_other l i k v d (λ (z : k ≡ i). absurd (omega arith)))) (p k q))
      (subst (P i) (sym (get_or-set_same l i v d h)) e)

module _ {A : Type 0} (l : List A) (i : ℕ) (v d : A) where
  pub filled : (f : ℕ → A) → i < length l → ((k : ℕ) → k < i → get_or l k d ≡ f k) → v ≡ f i → (k : ℕ) → k < i + 1 → get_or (set l i v) k d ≡ f k
  filled f = filled_by (λ k x. x ≡ f k) l i v d

  pub rest : ((k : ℕ) → i ≤ k → get_or l k d ≡ d) → (k : ℕ) → i + 1 ≤ k → get_or (set l i v) k d ≡ d
  rest p k q = get_or-set_other l i k v d (λ (z : k ≡ i). absurd (omega arith)) ∙ p k (omega arith)

pub record Uniform (found : List ℕ) (v i : ℕ) (l : List ℕ) : Type 0 where
  pub within : i ≤ length found
  pub long : length l ≡ length found
  pub same : l ≡ replicate i v ++ drop i found

pub uniform_start : (found : List ℕ) (v : ℕ) → Uniform found v 0 found
uniform_start found v = record { within = omega arith; long = refl; same = fill_none found v }

module _ {found : List ℕ} {v i : ℕ} {l : List ℕ} (u : Uniform found v i l) where
  pub uniform_more : i < length l → Uniform found v (i + 1) (set l i v)
  uniform_more h = record {
    within = omega (arith, u.long);
    long = length-set l i v ∙ u.long;
    same = ap (λ (t : List ℕ). set t i v) u.same ∙ fill_more i v found (omega (arith, u.long));
  }

  pub uniform_whole : length l ≤ i → l ≡ replicate (length found) v
  uniform_whole g =
      let e : i ≡ length found = omega (arith, u.within, u.long) in
      rw (e, drop-length, append-nil) at u.same
