-- The lines of an answer: their lengths, the plan's slots put one after another, and the three parts put together.
--   head_is                        the frame of the first line, by whether the code is 0
--   slots_none, slots_more, slots_length
--                                  the lines of no slot, and of one more, and their length
--   head_length, answer_length     the first line has 29 bytes, each slot 7, and `ff` 3
--   printed_length, printed_put    the lines of a reply and of the plan in its buffer
--   slots_within                   the plan of a reply fits into the buffer lent
use Prim.Native.Nat.{ℕ, ◌+◌, ◌*◌, ◌≤◌, ◌<◌}
use native.Mathlib.Omega.{arith}
use native.Mathlib.Nat.{zero-add}
use native.Mathlib.Numerals.{add-one}
use mathlib.Core.Path.{◌≡◌, refl, sym, ap, ◌∙◌}
use mathlib.Core.Bool.{Bool, true, false, cond}
use mathlib.Core.List.{List, [], ◌∷◌, ◌++◌, flatten, append_assoc, append-nil}
use lib.ListN.{length, take, get_or, length-append}
use lib.Dec.{eqb}
use lib.Seq.{take-suc}
use Rattle.std.specs.Prelude.{Ok, Err}
use Rattle.paper.specs.declared.Room.{Room}
use Rattle.paper.specs.declared.Numbers.{Numbers}
use Rattle.paper.specs.declared.Undecided.{Undecided}
use Rattle.paper.specs.declared.Undecided.TheVariants as undecided
use Rattle.paper.specs.declared.Planned.TheVariants as planned
use Rattle.paper.specs.Text.{line, ending}
use Rattle.paper.specs.Answer.{two_bytes, four_bytes, answer_frame, slot_frame, answer}
use Rattle.paper.proofs.Refusals.{refused_slots}
use Rattle.paper.proofs.Lines.{line_length}
use Rattle.paper.specs.Reply.{undecided_numbers, planned_numbers, PlanAnswer, PlanReply, written}
use Rattle.digits.specs.Digits.{Puts}
use Rattle.digits.proofs.Buffers.{puts_written}
use Rattle.answer.specs.Calls.{PlanOfText, broken, good}
use Rattle.answer.specs.Lines.{plan_slots, two, slot_lines, printed}

-- ---- The first line

module _ (N : Numbers) where
  pub head_is : (t : List ℕ) → t ≡ two N
      → 0xf0 ∷ N.code ∷ four_bytes N.count ++ (four_bytes (get_or t 0 0) ++ four_bytes (get_or t 1 0)) ≡ answer_frame N
  unfolding answer_frame
  head_is t e = rw e (go (eqb N.code 0))
    where
      after : Bool → List ℕ
      after b = cond b (N.prefix ∷ N.cycle ∷ []) (N.place ∷ 0 ∷ [])

      go : (b : Bool) → 0xf0 ∷ N.code ∷ four_bytes N.count ++ (four_bytes (get_or (after b) 0 0) ++ four_bytes (get_or (after b) 1 0))
          ≡ 0xf0 ∷ N.code ∷ four_bytes N.count ++ cond b (four_bytes N.prefix ++ four_bytes N.cycle) (four_bytes N.place ++ four_bytes 0)
      go true = refl
      go false = refl

  pub head_length : length (line (answer_frame N)) ≡ 29
  unfolding four_bytes two_bytes
  head_length = omega (arith, line_length (answer_frame N), ap length (head_is (two N) refl))

-- ---- The slots of a plan

pub slots_none : slot_lines [] ≡ []
unfolding flatten
slots_none = refl

slots_append : (a b : List ℕ) → slot_lines (a ++ b) ≡ slot_lines a ++ slot_lines b
unfolding flatten
slots_append [] b = refl
slots_append (m ∷ a) b = ap (λ (l : List ℕ). line (slot_frame m) ++ l) (slots_append a b) ∙ sym (append_assoc (line (slot_frame m)) (slot_lines a) (slot_lines b))

pub slots_more : (plan : List ℕ) (i : ℕ) → i < length plan → slot_lines (take (i + 1) plan) ≡ slot_lines (take i plan) ++ line (slot_frame (get_or plan i 0))
unfolding flatten
slots_more plan i h =
    ap (λ (k : ℕ). slot_lines (take k plan)) (add-one i)
    ∙ ap slot_lines (take-suc plan i 0 h)
    ∙ slots_append (take i plan) (get_or plan i 0 ∷ [])
    ∙ ap (λ (l : List ℕ). slot_lines (take i plan) ++ l) (append-nil (line (slot_frame (get_or plan i 0))))

pub slots_length : (masks : List ℕ) → length (slot_lines masks) ≡ 7 * length masks
unfolding flatten slot_frame two_bytes
slots_length [] = refl
slots_length (m ∷ masks) =
    omega (arith, length-append (line (slot_frame m)) (slot_lines masks), line_length (slot_frame m), slots_length masks)

pub answer_length : (N : Numbers) (masks : List ℕ) → length (answer N masks) ≡ 32 + 7 * length masks
unfolding answer
answer_length N masks =
    let a = line (answer_frame N) in
    let s = slot_lines masks in
    omega (arith, length-append (a ++ s) ending, length-append a s, head_length N, slots_length masks)

-- ---- The lines of a reply and of the plan in its buffer

module _ (N : Numbers) (plan : List ℕ) {slots : List ℕ} (e : slots ≡ take (plan_slots N) plan) where
  printed_is : answer N slots ≡ printed N plan
  unfolding printed
  printed_is = ap (answer N) e

  pub printed_length : length (printed N plan) ≡ 32 + 7 * length slots
  printed_length = ap length (sym printed_is) ∙ answer_length N slots

  pub printed_put : {lines₀ lines : List ℕ} {n : ℕ} → Puts lines₀ 0 (answer N slots) n lines
      → (n ≡ length (printed N plan)) × (lines ≡ written (printed N plan) lines₀)
  printed_put {lines₀} p =
      (p.place ∙ zero-add _ ∙ ap length printed_is, puts_written p ∙ ap (λ (l : List ℕ). written l lines₀) printed_is)

-- ---- The plan fits into its buffer

undecided_slots : (d : Undecided) → plan_slots (undecided_numbers d) ≡ 0
undecided_slots (undecided.Refused r) = refused_slots r
undecided_slots undecided.Table = refl
undecided_slots undecided.Room = refl

planned_within : {room : Room} {table₀ plan₀ table plan : List ℕ} (r : PlanAnswer) → PlanReply room table₀ plan₀ r table plan
    → plan_slots (planned_numbers r) ≤ length plan₀
planned_within (Ok (planned.Good n a c)) x = let g = x.says in omega (arith, g.cycle, g.fits)
planned_within (Ok (planned.None n)) x = omega arith
planned_within (Ok (planned.Short i)) x = omega arith
planned_within (Err d) x = omega (arith, undecided_slots d)

pub slots_within : {text table₀ plan₀ table plan : List ℕ} {N : Numbers} → PlanOfText text table₀ plan₀ table plan N → plan_slots N ≤ length plan₀
slots_within (broken b x e f) = omega (arith, ap plan_slots e)
slots_within (good room x y) = omega (arith, ap plan_slots y.told, planned_within y.answer y.promised)
