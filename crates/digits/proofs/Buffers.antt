-- Laws of buffers: parts put one after another are one part, so the line of a frame is the digits of its bytes and then its end.
--   puts_none, puts_more           nothing put, and one part after another
--   puts_written                   a part put at the start
--   digits_to                      the digits of the first bytes of a frame: what the loop of `put_line` has put
--   digits_length, digits_none, digits_more, digits_line
--                                  their number; of no byte, of one more, and of all with the end of the line
use Prim.Native.Nat.{ℕ, ◌+◌, ◌*◌, ◌≤◌, ◌<◌}
use native.Mathlib.Omega.{arith}
use native.Mathlib.Nat.{zero-add}
use native.Mathlib.Numerals.{add-one}
use mathlib.Core.Path.{◌≡◌, refl, sym, ap, ◌∙◌}
use mathlib.Core.List.{List, [], ◌∷◌, ◌++◌, flat_map, append-nil}
use lib.ListN.{length, take, drop, get_or, length-append}
use lib.Seq.{take-suc, take_all, take-length, length-take-le, paste, paste-zero}
use Rattle.std.proofs.lemmas.List.Edits.{paste-paste}
use Rattle.paper.specs.Text.{two_digits, line}
use Rattle.paper.specs.Reply.{written}
use Rattle.paper.proofs.Lines.{line_length}
use Rattle.paper.proofs.Texts.{flat_map_append}
use Rattle.digits.specs.Digits.{put, Puts}

-- ---- One part after another

put_paste : (buffer : List ℕ) (at : ℕ) (part : List ℕ) → put buffer at part ≡ paste buffer at part (length part)
put_paste buffer at part = ap (λ (p : List ℕ). take at buffer ++ p ++ drop (at + length part) buffer) (sym (take-length part))

pub puts_none : (buffer : List ℕ) (at : ℕ) → Puts buffer at [] at buffer
puts_none buffer at = record { place = omega arith; same = paste-zero buffer at [] }

pub puts_more : {buffer₀ p buffer q buffer' : List ℕ} {at next next' : ℕ}
    → at ≤ length buffer₀ → Puts buffer₀ at p next buffer → Puts buffer next q next' buffer' → Puts buffer₀ at (p ++ q) next' buffer'
puts_more {buffer₀} {p} {buffer} {q} {at = at} h a b = record {
  place = omega (arith, a.place, b.place, length-append p q);
  same =
      b.same
      ∙ put_paste _ _ q
      ∙ (λ i. paste ((a.same ∙ put_paste buffer₀ at p) i) (a.place i) q (length q))
      ∙ paste-paste buffer₀ at p q (length p) (length q) refl refl h
      ∙ ap (paste buffer₀ at (p ++ q)) (sym (length-append p q))
      ∙ sym (put_paste buffer₀ at (p ++ q));
}

pub puts_written : {buffer₀ part buffer : List ℕ} {next : ℕ} → Puts buffer₀ 0 part next buffer → buffer ≡ written part buffer₀
puts_written {buffer₀} {part} p = p.same ∙ ap (λ (n : ℕ). part ++ drop n buffer₀) (zero-add (length part))

-- ---- The line of a frame

unfoldable pub digits_to : List ℕ → ℕ → List ℕ
digits_to frame i = flat_map two_digits (take i frame)

module _ (frame : List ℕ) where
  pub digits_length : (i : ℕ) → i ≤ length frame → length (digits_to frame i) ≡ 2 * i
  unfolding digits_to line
  digits_length i h =
      omega (arith, line_length (take i frame), length-append (flat_map two_digits (take i frame)) (0x0a ∷ []), length-take-le i frame h)

  pub digits_none : digits_to frame 0 ≡ []
  unfolding digits_to flat_map
  digits_none = refl

  pub digits_more : (i : ℕ) → i < length frame → digits_to frame (i + 1) ≡ digits_to frame i ++ two_digits (get_or frame i 0)
  unfolding digits_to flat_map
  digits_more i h =
      ap (flat_map two_digits) (ap (λ (k : ℕ). take k frame) (add-one i) ∙ take-suc frame i 0 h)
      ∙ flat_map_append two_digits (take i frame) (get_or frame i 0 ∷ [])
      ∙ ap (λ (l : List ℕ). digits_to frame i ++ l) (append-nil (two_digits (get_or frame i 0)))

  pub digits_line : (i : ℕ) → length frame ≤ i → digits_to frame i ++ (0x0a ∷ []) ≡ line frame
  unfolding digits_to line
  digits_line i h = ap (λ (l : List ℕ). flat_map two_digits l ++ (0x0a ∷ [])) (take_all i frame h)
