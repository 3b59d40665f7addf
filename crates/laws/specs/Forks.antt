-- Tests made one after another, as a tree of forks: what fails a test has its outcome there, what passes goes on to the next.
--   One X          at most one outcome has X
--   Fork A X Y     where A fails an outcome with X, where it holds one with Y
--   Settled u      the outcome u
--   Leaf P u       the outcome u i, for some i with P i
use Rattle.std.specs.Prelude.{◌≡◌}

module _ {Z : Type 0} where
  abbrev pub One : (Z → Type 0) → Type 0
  One X = (z z' : Z) → X z → X z' → z ≡ z'

  pub data Fork (A : Type 0) (X Y : Z → Type 0) : Z → Type 0 where
    fails : {z : Z} → ¬ A → X z → Fork A X Y z
    passes : {z : Z} → A → Y z → Fork A X Y z

  abbrev pub Settled : Z → Z → Type 0
  Settled u z = z ≡ u

  pub record Leaf {I : Type 0} (P : I → Type 0) (u : I → Z) (z : Z) : Type 0 where
    pub value : I
    pub holds : P value
    pub same : z ≡ u value
