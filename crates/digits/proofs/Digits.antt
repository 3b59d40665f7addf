-- Laws of digits at a place of a text: what the tests of the functions say of it. A function looks at the rest of the text from the place on.
--   digit_between                   no digit stands between 9 and a
--   byte_beyond, byte_short, byte_first_none, byte_second_none, byte_found
--                                   the byte at a place: the text ends before it, the rest is too short, one of its first two bytes is no digit, both are
--   stands_by_rest                  a part stands at the place where the rest starts with it
--   byte_at_some, byte_at_none      the byte at a place is that of the paper's laws of lines
--   stands_close, close_stands      byte 0a at a place
--   stands_ending, ending_stands    the line `ff` at a place
use Prim.Native.Nat.{ℕ, zero, suc, ◌+◌, ◌*◌, ◌-◌, ◌/◌, ◌%◌, ◌≤◌, ◌<◌}
use native.Mathlib.Omega.{arith}
use native.Mathlib.Nat.{add-zero}
use mathlib.Core.Path.{◌≡◌, sym, ap, ◌∙◌}
use mathlib.Core.Logic.{◌↔◌, ⊎_elim}
use mathlib.Core.Bool.{Bool, true, false}
use mathlib.Core.List.{List, [], ◌∷◌}
use lib.ListN.{length, take, drop, get_or, length-drop, length-take}
use lib.Seq.{take_all, get_or-take, get_or-drop}
use lib.Dec.{eqb}
use Rattle.std.specs.List.{slice_range, starts_with}
use Rattle.std.proofs.lemmas.Bool.Decides.{Decides-eqb}
use Rattle.std.specs.Bool.{Decides}
use Rattle.std.specs.Prelude.{Option, Some, None, MatchOption}
use Rattle.std.specs.Slice.{IsGetRangeResult}
use Rattle.std.proofs.Common.{Bor}
use Rattle.std.proofs.lemmas.Slice.Eq.{slice_eq-Decides}
use Rattle.std.proofs.lemmas.List.{ext_get_or}
use Rattle.laws.proofs.Tests.{lt_or_le}
use Rattle.paper.specs.Text.{digit, two_digits, ending}
use Rattle.paper.specs.Reading.{byte, byte_at, Ending}
use Rattle.paper.proofs.Digits.{value_between, value_digit, byte_digits, digits_byte, two_digits_length}
use Rattle.paper.proofs.Lines.{byte_at_beyond, line_at_none, line_within, ending_within}
use Rattle.digits.specs.Digits.{DigitValue, Stands, ByteAt}

-- ---- One digit

pub digit_between : (d : ℕ) → d < 16 → 0x3a ≤ digit d → 0x61 ≤ digit d
digit_between d l g = ⊎_elim
    (λ (h : digit d < 0x61). absurd (omega (arith, value_digit d l, value_between (digit d) g h)))
    (λ (h : 0x61 ≤ digit d). h)
    (lt_or_le (digit d) 0x61)

-- ---- Two digits at a place

pub byte_beyond : {text : List ℕ} {at : ℕ} → length text < at + 2 → ByteAt text at None
byte_beyond h x l s = omega (arith, s.within, two_digits_length x)

two_stand : {text : List ℕ} {at : ℕ} (x : ℕ)
    → at + 2 ≤ length text → get_or text at 0 ≡ digit (x / 16) → get_or text (at + 1) 0 ≡ digit (x % 16) → Stands text at (two_digits x)
unfolding two_digits
two_stand {text} {at} x h p q = record { within = h; same = same }
  where
    same : (i : ℕ) → i < 2 → get_or text (at + i) 0 ≡ get_or (two_digits x) i 0
    same zero l = rw add-zero p
    same (suc zero) l = q
    same (suc (suc i)) l = absurd (omega arith)

-- ---- The rest of a text

module _ (text rest : List ℕ) (at : ℕ) (known : at ≤ length text) (is : rest ≡ slice_range text at (length text)) where
  rest_is : rest ≡ drop at text
  rest_is = is ∙ take_all (length text - at) (drop at text) (omega (arith, length-drop at text))

  rest_at : (i : ℕ) → get_or rest i 0 ≡ get_or text (at + i) 0
  rest_at i = ap (λ (l : List ℕ). get_or l i 0) rest_is ∙ get_or-drop at text i 0

  rest_long : length rest + at ≡ length text
  rest_long = omega (arith, ap length rest_is, length-drop at text)

  rest_stands : {part : List ℕ} {r : Bool} → r ≡ starts_with eqb rest part → (r ≡ true) ↔ Stands text at part
  rest_stands {part} {r} e = (λ t. record { within = within (d.0 t); same = same (d.0 t) }, λ s. d.1 (back s))
    where
      d : Decides r (part ≡ take (length part) rest)
      d = slice_eq-Decides Decides-eqb part (take (length part) rest) r e

      within : part ≡ take (length part) rest → at + length part ≤ length text
      within p = omega (arith, ap length p, length-take (length part) rest, rest_long)

      same : part ≡ take (length part) rest → (i : ℕ) → i < length part → get_or text (at + i) 0 ≡ get_or part i 0
      same p i h = sym (rest_at i) ∙ sym (get_or-take (length part) rest i 0 h) ∙ ap (λ (l : List ℕ). get_or l i 0) (sym p)

      back : Stands text at part → part ≡ take (length part) rest
      back s =
          ext_get_or 0 part (take (length part) rest)
          (omega (arith, length-take (length part) rest, rest_long, s.within))
          (λ i h. sym (s.same i h) ∙ sym (rest_at i) ∙ sym (get_or-take (length part) rest i 0 h))

  two_rest : (x : ℕ) → Stands text at (two_digits x) → (2 ≤ length rest) × (digit (x / 16) ≡ get_or rest 0 0) × (digit (x % 16) ≡ get_or rest 1 0)
  unfolding two_digits
  two_rest x s =
      (omega (arith, rest_long, s.within), sym (rest_at 0 ∙ s.same 0 (omega arith)), sym (rest_at 1 ∙ s.same 1 (omega arith)))

  pub byte_short : length rest < 2 → ByteAt text at None
  byte_short h x l s = omega (arith, (two_rest x s).0)

  pub byte_first_none : DigitValue (get_or rest 0 0) None → ByteAt text at None
  byte_first_none n x l s = n (x / 16) (omega arith) (two_rest x s).1

  pub byte_second_none : DigitValue (get_or rest 1 0) None → ByteAt text at None
  byte_second_none n x l s = n (x % 16) (omega arith) (two_rest x s).2

  pub byte_found : (v w : ℕ) → 2 ≤ length rest → DigitValue (get_or rest 0 0) (Some v) → DigitValue (get_or rest 1 0) (Some w)
      → ByteAt text at (Some (v * 16 + w))
  byte_found v w l d e =
      let p : get_or text at 0 ≡ digit v = rw add-zero at (sym (rest_at 0)) ∙ sym d.1 in
      let q : get_or text (at + 1) 0 ≡ digit w = sym (rest_at 1) ∙ sym e.1 in (
        omega (arith, d.0, e.0),
        two_stand (v * 16 + w) (omega (arith, rest_long)) (p ∙ ap digit (omega (arith, d.0, e.0))) (q ∙ ap digit (omega (arith, d.0, e.0))),
      )

pub stands_by_rest : (text part : List ℕ) (at : ℕ) (o : Option (Bor (List ℕ))) (r : Bool) → IsGetRangeResult text at (length text) o
    → MatchOption o (r ≡ false) (λ x. r ≡ starts_with eqb x.now part) → (r ≡ true) ↔ Stands text at part
stands_by_rest text part at None r g e = (λ t. absurd (cc), λ s. absurd (⊎_elim (λ h. omega (arith, s.within)) (λ h. omega arith) g.0))
stands_by_rest text part at (Some x) r g e = rest_stands text x.now at g.0.0 g.0.2 e

-- ---- The byte of the paper's laws

pub byte_at_some : {text : List ℕ} {at x : ℕ} → (x < 256) × Stands text at (two_digits x) → byte_at text at ≡ x
unfolding two_digits
byte_at_some {x = x} b = (λ i. byte ((rw add-zero at (b.1.same 0 (omega arith))) i) (b.1.same 1 (omega arith) i)) ∙ digits_byte x b.0

pub byte_at_none : (text : List ℕ) (at : ℕ) → ByteAt text at None → 256 ≤ byte_at text at
byte_at_none text at n = ⊎_elim
    (λ (h : byte_at text at < 256).
    let d = byte_digits (get_or text at 0) (get_or text (at + 1) 0) h in
    ⊎_elim
    (λ (l : at + 1 < length text). absurd (n (byte_at text at) h (two_stand (byte_at text at) (omega arith) d.0 d.1)))
    (λ (l : length text ≤ at + 1). omega (arith, byte_at_beyond text at l))
    (lt_or_le (at + 1) (length text)))
    (λ (h : 256 ≤ byte_at text at). h)
    (lt_or_le (byte_at text at) 256)

-- ---- The ends of lines

module _ {text : List ℕ} {at : ℕ} where
  pub stands_close : Stands text at (0x0a ∷ []) → get_or text at 0 ≡ 0x0a
  stands_close s = rw add-zero at (s.same 0 (omega arith))

  pub close_stands : get_or text at 0 ≡ 0x0a → Stands text at (0x0a ∷ [])
  close_stands e = record { within = omega (arith, line_within text at 0 (line_at_none text at e)); same = same }
    where
      same : (i : ℕ) → i < 1 → get_or text (at + i) 0 ≡ get_or (0x0a ∷ []) i 0
      same zero l = rw add-zero e
      same (suc i) l = absurd (omega arith)

  pub stands_ending : Stands text at ending → Ending text at
  stands_ending s = record { first = rw add-zero at (s.same 0 (omega arith)); second = s.same 1 (omega arith); close = s.same 2 (omega arith) }

  pub ending_stands : Ending text at → Stands text at ending
  ending_stands e = record { within = ending_within text at e; same = same }
    where
      same : (i : ℕ) → i < 3 → get_or text (at + i) 0 ≡ get_or ending i 0
      same zero l = rw add-zero e.first
      same (suc zero) l = e.second
      same (suc (suc zero)) l = e.close
      same (suc (suc (suc i))) l = absurd (omega arith)
