-- What is promised of the lines that the program prints.
--   plan_slots   how many slots the plan of a reply has: prefix and cycle on GOOD, none on any other code
--   two         the two numbers after the count
--   slot_lines   the lines of a plan's slots
--   printed     the lines for a reply and the plan buffer that it leaves
--   Prints      lines put at the start of a buffer, and their length; or the buffer as found, where they do not fit
--   Answered    a room text answered: planned, and the lines of the reply put into a buffer
--   program_table, program_plan   the table and the plan buffer that the program uses
--   TextAnswered                a room text answered with them
--   program_input               the bytes of an input that count
--   InputAnswered               an input answered, by these
use Rattle.std.specs.Prelude.{ℕ, ◌+◌, ◌*◌, ◌≤◌, ◌<◌, ◌≡◌, cond, Option, Some, None, List, [], ◌∷◌, length, take, replicate, eqb}
use mathlib.Core.List.{map, flatten}
use Rattle.paper.specs.declared.Numbers.{Numbers}
use Rattle.paper.specs.Text.{line}
use Rattle.paper.specs.Reply.{written}
use Rattle.paper.specs.Answer.{answer, slot_frame, program_configurations, program_slots}
use Rattle.answer.specs.Calls.{PlanOfText}

abbrev pub plan_slots : Numbers → ℕ
plan_slots N = N.prefix + N.cycle

-- prefix and cycle on code 0, else place and 0
abbrev pub two : Numbers → List ℕ
two N = cond (eqb N.code 0) (N.prefix ∷ N.cycle ∷ []) (N.place ∷ 0 ∷ [])

abbrev pub slot_lines : List ℕ → List ℕ
slot_lines masks = flatten (map (λ m. line (slot_frame m)) masks)

unfoldable pub printed : Numbers → List ℕ → List ℕ
printed N plan = answer N (take (plan_slots N) plan)

abbrev pub Prints : List ℕ → List ℕ → Option ℕ → List ℕ → Type 0
Prints lines buffer₀ (Some n) buffer = (length lines ≤ length buffer₀) × (n ≡ length lines) × (buffer ≡ written lines buffer₀)
Prints lines buffer₀ None buffer = (length buffer₀ < length lines) × (buffer ≡ buffer₀)

pub record Answered (text table₀ plan₀ lines₀ : List ℕ) (n : Option ℕ) (table plan lines : List ℕ) : Type 0 where
  pub numbers : Numbers
  pub says : PlanOfText text table₀ plan₀ table plan numbers
  pub prints : Prints (printed numbers plan) lines₀ n lines

-- a table of 1,536 configurations and a plan buffer of 1,536 slots, all zeros
abbrev pub program_table : List ℕ
program_table = replicate (4 * program_configurations) 0

abbrev pub program_plan : List ℕ
program_plan = replicate program_slots 0

-- the lines of the reply stand at the start of a buffer, and n is their length, for every text
pub record TextAnswered (text lines₀ : List ℕ) (n : ℕ) (lines : List ℕ) : Type 0 where
  pub numbers : Numbers
  pub table : List ℕ
  pub plan : List ℕ
  pub says : PlanOfText text program_table program_plan table plan numbers
  pub place : n ≡ length (printed numbers plan)
  pub same : lines ≡ written (printed numbers plan) lines₀

-- the bytes of an input that count: one more than the longest room text has
abbrev pub program_input : ℕ
program_input = 649

-- the answer to every text that begins as the input does
abbrev pub InputAnswered : List ℕ → List ℕ → ℕ → List ℕ → Type 0
InputAnswered input lines₀ n lines = (text : List ℕ) → take program_input text ≡ take program_input input → TextAnswered text lines₀ n lines
