-- Lines (01, "Room text"). A line is the digits of its frame, none of them 0a, and then 0a; so equal texts that begin with lines begin with
-- the line of one frame. By places, a line of n bytes stands where n times two digits and then 0a stand.
--   Bytes                             a frame of bytes
--   bytes_none, bytes_more, bytes_first, bytes_rest
--                                     frames of bytes from the front, and back
--   line_none, line_more              lines from the front
--   line_length                       two digits a byte, and 0a
--   line_open                         no 0a before the last byte of a line
--   line_code                         equal texts that begin with lines have one frame there, and the same after it
--   ending_line                       `ff` is the line of the frame ff
--   byte_at_beyond                     beyond the end no two digits stand
--   line_at_none, line_at_more        lines at a place, from the front
--   line_within                       a line stands within the text
--   frame_at, frame_at_length           the frame of n bytes at a place
--   frame_at_kind                      its first byte, and the others
--   frame_at_bytes, line_there         where a line stands, that frame is one of bytes, and the text goes on with its line
--   there_line, there_kind            a line that the text goes on with stands there, and the first byte of its frame
--   ending_there, there_ending        the text goes on with `ff` exactly where it stands
--   ending_within                     which is within the text
use mathlib.Core.Path.{◌≡◌, refl, sym, ap, ◌∙◌, subst}
use mathlib.Core.Logic.{⊎_elim}
use mathlib.Core.List.{List, [], ◌∷◌, ◌++◌, flat_map, append_assoc}
use mathlib.Core.List.Memᴰ
use Prim.Native.Nat.{ℕ, zero, suc, ◌+◌, ◌*◌, ◌/◌, ◌%◌, ◌≤◌, ◌<◌}
use native.Mathlib.Omega.{arith}
use native.Mathlib.Nat.{add-zero, zero-add, add_assoc}
use native.Mathlib.Numerals.{add-one}
use lib.ListN.{length, drop, get_or, length-append, get_or-eq_default}
use lib.Seq.{drop-cons, get_or-drop, get_or_at}
use Rattle.laws.specs.Lists.{◌∈◌, row, beginning}
use Rattle.laws.proofs.Tests.{lt_or_le}
use Rattle.laws.proofs.Lists.{at_in, beginning_length, in_beginning_at}
use Rattle.paper.specs.Text.{digit, two_digits, line, ending}
use Rattle.paper.specs.Reading.{byte_at, Line, Ending}
use Rattle.paper.proofs.Digits.{digit_least, value_under, byte_second_bad, byte_digits, digits_byte}
use Rattle.paper.proofs.Digits.{two_digits_length, two_digits_one, two_digits_open}

-- ---- Frames of bytes

abbrev pub Bytes : List ℕ → Type 0
Bytes frame = (x : ℕ) → x ∈ frame → x < 256

pub bytes_none : Bytes []
bytes_none x p = absurd (Memᴰ.not-nil p)

pub bytes_more : {y : ℕ} {frame : List ℕ} → y < 256 → Bytes frame → Bytes (y ∷ frame)
bytes_more h b x p = ⊎_elim (λ e. subst (λ (z : ℕ). z < 256) (sym e) h) (b x) (Memᴰ.cases_cons p)

pub bytes_first : (y : ℕ) (frame : List ℕ) → Bytes (y ∷ frame) → y < 256
bytes_first y frame b = b y (Memᴰ.head refl)

pub bytes_rest : (y : ℕ) (frame : List ℕ) → Bytes (y ∷ frame) → Bytes frame
bytes_rest y frame b x p = b x (Memᴰ.tail p)

-- ---- The line of a frame

pub line_none : line [] ≡ 0x0a ∷ []
unfolding line flat_map
line_none = refl

pub line_more : (x : ℕ) (frame : List ℕ) → line (x ∷ frame) ≡ two_digits x ++ line frame
unfolding line flat_map
line_more x frame = append_assoc (two_digits x) (flat_map two_digits frame) (0x0a ∷ [])

pub line_length : (frame : List ℕ) → length (line frame) ≡ 2 * length frame + 1
line_length [] = ap length line_none
line_length (x ∷ frame) = ap length (line_more x frame) ∙ length-append (two_digits x) (line frame) ∙ omega (arith, two_digits_length x, line_length frame)

pub line_open : (frame : List ℕ) → ¬ (0x0a ∈ flat_map two_digits frame)
unfolding flat_map
line_open [] p = Memᴰ.not-nil p
line_open (x ∷ frame) p = ⊎_elim (two_digits_open x) (line_open frame) (Memᴰ.append_cases (two_digits x) p)

pub line_code : (f g a b : List ℕ) → Bytes f → Bytes g → line f ++ a ≡ line g ++ b → (f ≡ g) × (a ≡ b)
unfolding line flat_map two_digits
line_code [] [] a b p q e = (refl, cc)
line_code [] (y ∷ g) a b p q e = let h : 0x0a ≡ digit (y / 16) = cc in absurd (omega (arith, digit_least (y / 16)))
line_code (x ∷ f) [] a b p q e = let h : digit (x / 16) ≡ 0x0a = cc in absurd (omega (arith, digit_least (x / 16)))
line_code (x ∷ f) (y ∷ g) a b p q e =
    let s : two_digits x ≡ two_digits y = cc in
    let t : line f ++ a ≡ line g ++ b = cc in
    let r = line_code f g a b (bytes_rest x f p) (bytes_rest y g q) t in
    let h = two_digits_one x y (bytes_first x f p) (bytes_first y g q) s in
    (λ i. h i ∷ r.0 i, r.1)

pub ending_line : ending ≡ line (0xff ∷ [])
unfolding line flat_map two_digits digit
ending_line = refl

-- ---- A line by its place

pub byte_at_beyond : (text : List ℕ) (at : ℕ) → length text ≤ at + 1 → byte_at text at ≡ 256
byte_at_beyond text at h =
    let e = get_or-eq_default text 0 h in
    byte_second_bad (get_or text at 0) (get_or text (at + 1) 0) (omega (arith, value_under (get_or text (at + 1) 0) (omega arith)))

pub line_at_none : (text : List ℕ) (at : ℕ) → get_or text at 0 ≡ 0x0a → Line text at 0
line_at_none text at e = record { bytes = λ i h. absurd (omega arith); close = rw add-zero e }

pub line_at_more : (text : List ℕ) (at n : ℕ) → byte_at text at < 256 → Line text (at + 2) n → Line text at (n + 1)
line_at_more text at n h l = record { bytes = bytes; close = let e : at + 2 * (n + 1) ≡ at + 2 + 2 * n = omega arith in rw e l.close }
  where
    bytes : (i : ℕ) → i < n + 1 → byte_at text (at + 2 * i) < 256
    bytes zero g = rw add-zero h
    bytes (suc i) g = let e : at + 2 * suc i ≡ at + 2 + 2 * i = omega arith in rw e (l.bytes i (omega arith))

unfoldable pub frame_at : List ℕ → ℕ → ℕ → List ℕ
frame_at text at n = beginning (λ i. byte_at text (at + 2 * i)) n

-- what is not 0 stands within the text
present : (text : List ℕ) (at : ℕ) → 0 < get_or text at 0 → at < length text
present text at h = ⊎_elim
    (λ (l : at < length text). l)
    (λ (l : length text ≤ at). let e = get_or-eq_default text 0 l in absurd (omega arith))
    (lt_or_le at (length text))

pub line_within : (text : List ℕ) (at n : ℕ) → Line text at n → at + (2 * n + 1) ≤ length text
line_within text at n l = omega (arith, present text (at + 2 * n) (omega (arith, l.close)))

drop_there : (text : List ℕ) (at : ℕ) → 0 < get_or text at 0 → drop at text ≡ get_or text at 0 ∷ drop (at + 1) text
drop_there text at h = rw add-one (drop-cons text at 0 (present text at h))

two_there : (text : List ℕ) (at : ℕ) → byte_at text at < 256 → drop at text ≡ two_digits (byte_at text at) ++ drop (at + 2) text
unfolding two_digits
two_there text at h =
    let d = byte_digits (get_or text at 0) (get_or text (at + 1) 0) h in
    let p = drop_there text at (omega (arith, digit_least (byte_at text at / 16), d.0)) in
    let q = rw add_assoc at (drop_there text (at + 1) (omega (arith, digit_least (byte_at text at % 16), d.1))) in
    p ∙ (λ i. d.0 i ∷ q i) ∙ (λ i. digit (byte_at text at / 16) ∷ d.1 i ∷ drop (at + 2) text)

digits_there : (text : List ℕ) (at i n : ℕ) → ((j : ℕ) → j < i + n → byte_at text (at + 2 * j) < 256)
    → drop (at + 2 * i) text ≡ flat_map two_digits (row (λ j. byte_at text (at + 2 * j)) i n) ++ drop (at + 2 * (i + n)) text
unfolding flat_map row
digits_there text at i zero h = rw add-zero
digits_there text at i (suc n) h =
    let e : at + 2 * i + 2 ≡ at + 2 * suc i = omega arith in
    let f : suc i + n ≡ i + suc n = omega arith in
    let d = rw f at (digits_there text at (suc i) n (λ j l. h j (omega arith))) in
    two_there text (at + 2 * i) (h i (omega arith)) ∙ rw (e, d) (sym (append_assoc (two_digits (byte_at text (at + 2 * i))) _ _))

pub frame_at_length : (text : List ℕ) (at n : ℕ) → length (frame_at text at n) ≡ n
unfolding frame_at
frame_at_length text at n = beginning_length (λ i. byte_at text (at + 2 * i)) n

pub frame_at_kind : (text : List ℕ) (at n : ℕ) {x : ℕ} → byte_at text at ≡ x
    → frame_at text at (suc n) ≡ x ∷ row (λ i. byte_at text (at + 2 * i)) 1 n
unfolding frame_at beginning row
frame_at_kind text at n e = ap (λ (y : ℕ). y ∷ row (λ i. byte_at text (at + 2 * i)) 1 n) (ap (byte_at text) (add-zero at) ∙ e)

pub frame_at_bytes : (text : List ℕ) (at n : ℕ) → Line text at n → Bytes (frame_at text at n)
unfolding frame_at
frame_at_bytes text at n l x p = let r = in_beginning_at (λ i. byte_at text (at + 2 * i)) n p in omega (arith, l.bytes r.0 r.1, r.2)

pub line_there : (text : List ℕ) (at n : ℕ) → Line text at n → drop at text ≡ line (frame_at text at n) ++ drop (at + (2 * n + 1)) text
unfolding line frame_at beginning
line_there text at n l =
    let e : at + 2 * 0 ≡ at = omega arith in
    let d = rw (e, zero-add) at (digits_there text at 0 n (λ j h. l.bytes j (omega arith))) in
    let c = rw add_assoc at (drop_there text (at + 2 * n) (omega (arith, l.close))) in
    d ∙ rw (c, l.close) (sym (append_assoc (flat_map two_digits (row (λ i. byte_at text (at + 2 * i)) 0 n)) (0x0a ∷ []) _))

-- the bytes of a line, and its 0a, by their places in it
line_byte : (frame rest : List ℕ) → Bytes frame → (i : ℕ) → i < length frame → byte_at (line frame ++ rest) (2 * i) ≡ get_or frame i 0
unfolding line flat_map two_digits
line_byte [] rest b i h = absurd (omega arith)
line_byte (x ∷ frame) rest b zero h = digits_byte x (bytes_first x frame b)
line_byte (x ∷ frame) rest b (suc i) h =
    let e : 2 * suc i ≡ suc (suc (2 * i)) = omega arith in
    let f : suc (suc (2 * i)) + 1 ≡ suc (suc (2 * i + 1)) = omega arith in
    rw (e, f) (line_byte frame rest (bytes_rest x frame b) i (omega arith))

line_close : (frame rest : List ℕ) → get_or (line frame ++ rest) (2 * length frame) 0 ≡ 0x0a
unfolding line
line_close frame rest =
    let a = flat_map two_digits frame in
    rw append_assoc (get_or_at a 0x0a rest 0 (2 * length frame) (omega (arith, line_length frame, length-append a (0x0a ∷ []))))

module _ (text frame rest : List ℕ) (at : ℕ) (bytes : Bytes frame) (goes : drop at text ≡ line frame ++ rest) where
  there_at : (i : ℕ) → get_or text (at + i) 0 ≡ get_or (line frame ++ rest) i 0
  there_at i = sym (get_or-drop at text i 0) ∙ ap (λ (l : List ℕ). get_or l i 0) goes

  there_byte : (i : ℕ) → i < length frame → byte_at text (at + 2 * i) ≡ get_or frame i 0
  there_byte i h = rw (add_assoc, there_at (2 * i), there_at (2 * i + 1)) (line_byte frame rest bytes i h)

  pub there_line : Line text at (length frame)
  there_line = record {
    bytes = λ i h. rw (there_byte i h) (bytes (get_or frame i 0) (at_in frame 0 i h));
    close = there_at (2 * length frame) ∙ line_close frame rest;
  }

  pub there_kind : 0 < length frame → byte_at text at ≡ get_or frame 0 0
  there_kind h = rw add-zero at (there_byte 0 h)

-- ---- The line `ff` by its place

module _ (text : List ℕ) (at : ℕ) where
  pub ending_there : Ending text at → drop at text ≡ ending ++ drop (at + 3) text
  ending_there e =
      let p = drop_there text at (omega (arith, e.first)) in
      let q = rw add_assoc at (drop_there text (at + 1) (omega (arith, e.second))) in
      let r = rw add_assoc at (drop_there text (at + 2) (omega (arith, e.close))) in
      p ∙ (λ i. e.first i ∷ q i) ∙ (λ i. 0x66 ∷ e.second i ∷ r i) ∙ (λ i. 0x66 ∷ 0x66 ∷ e.close i ∷ drop (at + 3) text)

  pub there_ending : (rest : List ℕ) → drop at text ≡ ending ++ rest → Ending text at
  there_ending rest e = record { first = rw add-zero at (place 0); second = place 1; close = place 2 }
    where
      place : (i : ℕ) → get_or text (at + i) 0 ≡ get_or (ending ++ rest) i 0
      place i = sym (get_or-drop at text i 0) ∙ ap (λ (l : List ℕ). get_or l i 0) e

  pub ending_within : Ending text at → at + 3 ≤ length text
  ending_within e = omega (arith, present text (at + 2) (omega (arith, e.close)))
