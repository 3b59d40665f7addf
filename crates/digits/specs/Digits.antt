-- What the functions on digits promise. A text and a buffer are lists of bytes, and a place in them is a number.
--   DigitValue   the value of a digit
--   Stands       a part stands at a place of a text
--   ByteAt       the byte whose two digits stand at a place
--   put          a buffer with a part put at a place, the rest as found
--   Puts         a part is put at a place: the place after it, and the buffer afterwards
use Rattle.std.specs.Prelude.{ℕ, ◌+◌, ◌≤◌, ◌<◌, ◌≡◌, ◌≢◌, Option, Some, None, List, ◌++◌, length, take, drop, get_or}
use Rattle.paper.specs.Text.{digit, two_digits}

-- the value of byte b as a digit, if it is one
abbrev pub DigitValue : ℕ → Option ℕ → Type 0
DigitValue b (Some v) = (v < 16) × (digit v ≡ b)
DigitValue b None = (d : ℕ) → d < 16 → digit d ≢ b

pub record Stands (text : List ℕ) (at : ℕ) (part : List ℕ) : Type 0 where
  pub within : at + length part ≤ length text
  pub same : (i : ℕ) → i < length part → get_or text (at + i) 0 ≡ get_or part i 0

-- the byte whose digits stand at the place, if two digits stand there
abbrev pub ByteAt : List ℕ → ℕ → Option ℕ → Type 0
ByteAt text at (Some x) = (x < 256) × Stands text at (two_digits x)
ByteAt text at None = (x : ℕ) → x < 256 → ¬ Stands text at (two_digits x)

abbrev pub put : List ℕ → ℕ → List ℕ → List ℕ
put buffer at part = take at buffer ++ part ++ drop (at + length part) buffer

pub record Puts (buffer₀ : List ℕ) (at : ℕ) (part : List ℕ) (next : ℕ) (buffer : List ℕ) : Type 0 where
  pub place : next ≡ at + length part
  pub same : buffer ≡ put buffer₀ at part
