-- Digits (01, "Room text"). A digit is read back by its value, and a byte from its two digits. A byte of the text that is no digit has the
-- value 16, and two that are not both digits are read as 256.
--   digit_low, digit_high             the digits 0 to 9, and a to f
--   digit_least                       no digit is below 30, so none is 0a
--   value_under, value_low, value_between, value_high, value_over
--                                     it by ranges: below 0, 0 to 9, between 9 and a, a to f, above f
--   value_digit, digit_value          the digits are exactly what has a value below 16
--   byte_first_bad, byte_second_bad, byte_yes
--                                     it by the values
--   byte_digits, digits_byte          what is read as a byte is its two digits, and they are read as it
--   two_digits_length, two_digits_one   the digits of a byte are two, and those of one byte
--   two_digits_open                    none of them is 0a
use mathlib.Core.Path.{◌≡◌, refl, sym, ap, ◌∙◌}
use mathlib.Core.Logic.{⊎_elim}
use mathlib.Core.List.Memᴰ
use Prim.Native.Nat.{ℕ, ◌+◌, ◌*◌, ◌-◌, ◌/◌, ◌%◌, ◌≤◌, ◌<◌}
use native.Mathlib.Omega.{arith}
use lib.ListN.{length}
use Rattle.laws.specs.Lists.{◌∈◌}
use Rattle.laws.proofs.Tests.{lt_or_le, pick_lt, pick_ge}
use Rattle.paper.specs.Text.{digit, two_digits}
use Rattle.paper.specs.Reading.{value, byte}

-- ---- One digit

pub digit_low : (d : ℕ) → d < 10 → digit d ≡ 0x30 + d
unfolding digit
digit_low d h = pick_lt d 10 (0x30 + d) _ h

pub digit_high : (d : ℕ) → 10 ≤ d → digit d ≡ 0x61 + (d - 10)
unfolding digit
digit_high d h = pick_ge d 10 _ (0x61 + (d - 10)) h

pub digit_least : (d : ℕ) → 0x30 ≤ digit d
digit_least d = ⊎_elim
    (λ (h : d < 10). omega (arith, digit_low d h))
    (λ (h : 10 ≤ d). omega (arith, digit_high d h))
    (lt_or_le d 10)

-- ---- Its value

module _ (b : ℕ) where
  pub value_under : b < 0x30 → value b ≡ 16
  unfolding value
  value_under h = pick_lt b 0x30 16 _ h

  pub value_low : 0x30 ≤ b → b < 0x3a → value b ≡ b - 0x30
  unfolding value
  value_low g h = pick_ge b 0x30 16 _ g ∙ pick_lt b 0x3a (b - 0x30) _ h

  pub value_between : 0x3a ≤ b → b < 0x61 → value b ≡ 16
  unfolding value
  value_between g h = pick_ge b 0x30 16 _ (omega arith) ∙ pick_ge b 0x3a (b - 0x30) _ g ∙ pick_lt b 0x61 16 _ h

  pub value_high : 0x61 ≤ b → b < 0x67 → value b ≡ b - 0x57
  unfolding value
  value_high g h =
      pick_ge b 0x30 16 _ (omega arith) ∙ pick_ge b 0x3a (b - 0x30) _ (omega arith) ∙ pick_ge b 0x61 16 _ g ∙ pick_lt b 0x67 (b - 0x57) 16 h

  pub value_over : 0x67 ≤ b → value b ≡ 16
  unfolding value
  value_over g =
      pick_ge b 0x30 16 _ (omega arith)
      ∙ pick_ge b 0x3a (b - 0x30) _ (omega arith)
      ∙ pick_ge b 0x61 16 _ (omega arith)
      ∙ pick_ge b 0x67 (b - 0x57) 16 g

pub value_digit : (d : ℕ) → d < 16 → value (digit d) ≡ d
value_digit d h = ⊎_elim
    (λ (l : d < 10). let e = digit_low d l in value_low (digit d) (omega arith) (omega arith) ∙ omega arith)
    (λ (l : 10 ≤ d). let e = digit_high d l in value_high (digit d) (omega arith) (omega arith) ∙ omega arith)
    (lt_or_le d 10)

pub digit_value : (b : ℕ) → value b < 16 → digit (value b) ≡ b
digit_value b h = ⊎_elim under (λ (g : 0x30 ≤ b). ⊎_elim (low g) over (lt_or_le b 0x3a)) (lt_or_le b 0x30)
  where
    under : b < 0x30 → digit (value b) ≡ b
    under l = absurd (omega (arith, value_under b l))

    low : 0x30 ≤ b → b < 0x3a → digit (value b) ≡ b
    low g l = let e = value_low b g l in digit_low (value b) (omega arith) ∙ omega arith

    high : 0x61 ≤ b → digit (value b) ≡ b
    high g = ⊎_elim
        (λ (l : b < 0x67). let e = value_high b g l in digit_high (value b) (omega arith) ∙ omega arith)
        (λ (l : 0x67 ≤ b). absurd (omega (arith, value_over b l)))
        (lt_or_le b 0x67)

    over : 0x3a ≤ b → digit (value b) ≡ b
    over g = ⊎_elim (λ (l : b < 0x61). absurd (omega (arith, value_between b g l))) high (lt_or_le b 0x61)

-- ---- Two digits

module _ (a b : ℕ) where
  pub byte_first_bad : 16 ≤ value a → byte a b ≡ 256
  unfolding byte
  byte_first_bad g = pick_ge (value a) 16 _ 256 g

  pub byte_second_bad : 16 ≤ value b → byte a b ≡ 256
  unfolding byte
  byte_second_bad g = ⊎_elim
      (λ (h : value a < 16). pick_lt (value a) 16 _ 256 h ∙ pick_ge (value b) 16 (value a * 16 + value b) 256 g)
      byte_first_bad
      (lt_or_le (value a) 16)

  pub byte_yes : value a < 16 → value b < 16 → byte a b ≡ value a * 16 + value b
  unfolding byte
  byte_yes g h = pick_lt (value a) 16 _ 256 g ∙ pick_lt (value b) 16 (value a * 16 + value b) 256 h

  pub byte_digits : byte a b < 256 → (a ≡ digit (byte a b / 16)) × (b ≡ digit (byte a b % 16))
  byte_digits l = ⊎_elim
      (λ (g : value a < 16). ⊎_elim (two g) (λ (h : 16 ≤ value b). absurd (omega (arith, byte_second_bad h))) (lt_or_le (value b) 16))
      (λ (g : 16 ≤ value a). absurd (omega (arith, byte_first_bad g)))
      (lt_or_le (value a) 16)
    where
      two : value a < 16 → value b < 16 → (a ≡ digit (byte a b / 16)) × (b ≡ digit (byte a b % 16))
      two g h =
          let e = byte_yes g h in
          (sym (digit_value a g) ∙ ap digit (omega arith), sym (digit_value b h) ∙ ap digit (omega arith))

pub digits_byte : (x : ℕ) → x < 256 → byte (digit (x / 16)) (digit (x % 16)) ≡ x
digits_byte x h =
    let p = value_digit (x / 16) (omega arith) in
    let q = value_digit (x % 16) (omega arith) in
    byte_yes (digit (x / 16)) (digit (x % 16)) (omega arith) (omega arith) ∙ omega arith

pub two_digits_length : (x : ℕ) → length (two_digits x) ≡ 2
unfolding two_digits
two_digits_length x = refl

pub two_digits_one : (x y : ℕ) → x < 256 → y < 256 → two_digits x ≡ two_digits y → x ≡ y
unfolding two_digits
two_digits_one x y g h e =
    let p : digit (x / 16) ≡ digit (y / 16) = cc in
    let q : digit (x % 16) ≡ digit (y % 16) = cc in
    sym (digits_byte x g) ∙ (cc) ∙ digits_byte y h

pub two_digits_open : (x : ℕ) → ¬ (0x0a ∈ two_digits x)
unfolding two_digits
two_digits_open x p =
    ⊎_elim
    (λ (e : 0x0a ≡ digit (x / 16)). omega (arith, digit_least (x / 16)))
    (λ q. let e : 0x0a ≡ digit (x % 16) = Memᴰ.eq_of_singleton q in omega (arith, digit_least (x % 16)))
    (Memᴰ.cases_cons p)
