-- Lists.
--   x ∈ l           x is a member of l
--   Distinct l      no two places of l hold the same
--   row f i n       f i, f (i + 1), .., n numbers
--   repeated n l    l, n times
--   beginning s n   the first n of the endless sequence s
use mathlib.Core.List.{List, [], ◌∷◌, ◌++◌, Memᴰ}
use Rattle.std.specs.Prelude.{ℕ, zero, suc}

module _ {A : Type 0} where
  infix 40 ◌∈◌
  abbrev pub ◌∈◌ : A → List A → Type 0
  x ∈ l = Memᴰ x l

  pub data Distinct : List A → Type 0 where
    none : Distinct []
    more : {x : A} {l : List A} → ¬ (x ∈ l) → Distinct l → Distinct (x ∷ l)

  unfoldable pub row : (ℕ → A) → ℕ → ℕ → List A
  row f i zero = []
  row f i (suc n) = f i ∷ row f (suc i) n

  unfoldable pub repeated : ℕ → List A → List A
  repeated zero l = []
  repeated (suc n) l = l ++ repeated n l

  unfoldable pub beginning : (ℕ → A) → ℕ → List A
  beginning s n = row s 0 n
