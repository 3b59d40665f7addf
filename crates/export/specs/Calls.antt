-- What the exported calls promise. A call answers as the one of crate `answer`; it tells the reply by its code and its five numbers.
--   five          the numbers of a reply, in their order
--   Tells         a reply told: its code, and its numbers
--   Told          a call that tells a reply of which something is promised
use Rattle.std.specs.Prelude.{ℕ, ◌≡◌, List, [], ◌∷◌}
use Rattle.paper.specs.declared.Numbers.{Numbers}

abbrev pub five : Numbers → List ℕ
five N = N.code ∷ N.count ∷ N.place ∷ N.prefix ∷ N.cycle ∷ []

pub record Tells (N : Numbers) (code : ℕ) (numbers : List ℕ) : Type 0 where
  pub code_is : code ≡ N.code
  pub numbers_are : numbers ≡ five N

pub record Told (Promised : Numbers → Type 0) (code : ℕ) (numbers : List ℕ) : Type 0 where
  pub reply : Numbers
  pub promised : Promised reply
  pub tells : Tells reply code numbers
