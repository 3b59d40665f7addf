-- Numbers of the paper at samples, so that a definition with another number is refused in its own crate.
--   table_holds                    a table of 15 numbers holds 3 configurations, one of 16 holds 4
--   longest_table, longer_table    a table of 4,194,304 numbers is not too long, one of 4,194,305 is
--   table_kept, table_cleared      the table is as found after TABLE, and all zeros after ROOM
--   refusal_numbers_lem, planned_numbers_lem, judged_numbers_lem, text_numbers
--                                  the five numbers of every answer
--   answer_sample                  the answer to the first room worked by hand, byte for byte
use Prim.Native.Nat.{ℕ}
use native.Mathlib.Omega.{arith}
use mathlib.Core.Path.{◌≡◌, refl}
use mathlib.Core.List.{List, [], ◌∷◌, map, flat_map, flatten}
use lib.ListN.{length, replicate}
use Rattle.std.specs.Prelude.{Ok, Err}
use Rattle.paper.specs.declared.Room.{Room}
use Rattle.paper.specs.declared.Numbers.{Numbers}
use Rattle.paper.specs.declared.Refusal.TheVariants as refusal
use Rattle.paper.specs.declared.Undecided.TheVariants as undecided
use Rattle.paper.specs.declared.Planned.TheVariants as planned
use Rattle.paper.specs.declared.Judged.TheVariants as judged
use Rattle.paper.specs.declared.Unwritten.TheVariants as unwritten
use Rattle.paper.specs.Room.{Limits}
use Rattle.paper.specs.Reply.{refusal_numbers, planned_numbers, judged_numbers, reading_numbers, writing_numbers, W, zeros, TooLong, PlanReply}
use Rattle.paper.specs.Text.{digit, two_digits, line}
use Rattle.paper.specs.Answer.{two_bytes, four_bytes, answer_frame, slot_frame, answer}

-- ---- The table

table_holds : (W (replicate 15 0) ≡ 3) × (W (replicate 16 0) ≡ 4)
table_holds = (refl, refl)

module _ (room : Room) (table₀ : List ℕ) where
  longest_table : length table₀ ≡ 4194304 → ¬ TooLong room table₀
  longest_table e x = omega (arith, x.long)

  longer_table : Limits room → length table₀ ≡ 4194305 → TooLong room table₀
  longer_table limits e = record { limits = limits; long = omega arith }

  module _ (plan₀ : List ℕ) {table plan : List ℕ} where
    table_kept : PlanReply room table₀ plan₀ (Err undecided.Table) table plan → table ≡ table₀
    table_kept x = x.table_is

    table_cleared : PlanReply room table₀ plan₀ (Err undecided.Room) table plan → table ≡ zeros table₀
    table_cleared x = x.table_is

-- ---- The numbers of an answer

-- code, count, place, prefix length and cycle length
abbrev five : Numbers → List ℕ
five N = N.code ∷ N.count ∷ N.place ∷ N.prefix ∷ N.cycle ∷ []

refusal_numbers_lem : (i : ℕ) → map (λ r. five (refusal_numbers r)) (refusal.Engines ∷ refusal.Jobs ∷ refusal.Job i ∷ refusal.Section i ∷ refusal.Link i ∷ refusal.Long i ∷ [])
    ≡ (3 ∷ 0 ∷ 0 ∷ 0 ∷ 0 ∷ [])
    ∷ (4 ∷ 0 ∷ 0 ∷ 0 ∷ 0 ∷ [])
    ∷ (5 ∷ 0 ∷ i ∷ 0 ∷ 0 ∷ [])
    ∷ (6 ∷ 0 ∷ i ∷ 0 ∷ 0 ∷ [])
    ∷ (7 ∷ 0 ∷ i ∷ 0 ∷ 0 ∷ [])
    ∷ (8 ∷ 0 ∷ i ∷ 0 ∷ 0 ∷ [])
    ∷ []
refusal_numbers_lem i = refl

planned_numbers_lem : (n i a c : ℕ) → map (λ r. five (planned_numbers r))
    (Ok (planned.Good n a c) ∷ Ok (planned.None n) ∷ Err undecided.Table ∷ Err undecided.Room ∷ Ok (planned.Short i) ∷ [])
    ≡ (0 ∷ n ∷ 0 ∷ a ∷ c ∷ [])
    ∷ (1 ∷ n ∷ 0 ∷ 0 ∷ 0 ∷ [])
    ∷ (9 ∷ 0 ∷ 0 ∷ 0 ∷ 0 ∷ [])
    ∷ (10 ∷ 0 ∷ 0 ∷ 0 ∷ 0 ∷ [])
    ∷ (11 ∷ 0 ∷ i ∷ 0 ∷ 0 ∷ [])
    ∷ []
planned_numbers_lem n i a c = refl

judged_numbers_lem : (n i : ℕ) → map (λ r. five (judged_numbers r)) (Ok (judged.Good n) ∷ Ok (judged.Out n i) ∷ []) ≡ (0 ∷ n ∷ 0 ∷ 0 ∷ 0 ∷ []) ∷ (12 ∷ n ∷ i ∷ 0 ∷ 0 ∷ []) ∷ []
judged_numbers_lem n i = refl

text_numbers : (room : Room) (i : ℕ) → five (reading_numbers (Ok room)) ∷ five (reading_numbers (Err (record { place = i }))) ∷ five (writing_numbers (Ok i)) ∷ five (writing_numbers (Err (unwritten.Short i))) ∷ []
    ≡ (0 ∷ 0 ∷ 0 ∷ 0 ∷ 0 ∷ []) ∷ (2 ∷ 0 ∷ i ∷ 0 ∷ 0 ∷ []) ∷ (0 ∷ 0 ∷ i ∷ 0 ∷ 0 ∷ []) ∷ (11 ∷ 0 ∷ i ∷ 0 ∷ 0 ∷ []) ∷ []
text_numbers room i = refl

-- ---- The answer

-- `f0`, code 0, count 4, prefix 0, cycle 2; `f1` with the masks 2 and 1; `ff`
answer_sample : answer (record { code = 0; count = 4; place = 0; prefix = 0; cycle = 2 }) (2 ∷ 1 ∷ []) ≡
    102 ∷ 48 ∷ 48 ∷ 48 ∷ 48 ∷ 48 ∷ 48 ∷ 48 ∷ 48 ∷ 48 ∷ 48 ∷ 52 ∷ 48 ∷ 48 ∷ 48 ∷ 48 ∷ 48 ∷ 48 ∷ 48 ∷ 48 ∷ 48 ∷ 48 ∷ 48 ∷ 48 ∷ 48 ∷ 48 ∷ 48 ∷ 50 ∷ 10 ∷
    102 ∷ 49 ∷ 48 ∷ 48 ∷ 48 ∷ 50 ∷ 10 ∷
    102 ∷ 49 ∷ 48 ∷ 48 ∷ 48 ∷ 49 ∷ 10 ∷
    102 ∷ 102 ∷ 10 ∷ []
unfolding answer answer_frame slot_frame four_bytes two_bytes line two_digits digit flat_map flatten
answer_sample = refl
