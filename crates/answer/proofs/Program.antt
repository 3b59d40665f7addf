-- The program's answer: a plan is no longer than the count, which the table holds; so with as many slots as configurations no plan is too long.
--   program_fits          the lines of every answer fit into 10,784 bytes
--   text_answered         so a text is answered in buffers of the program's sizes
--   text_within           and the bytes of the answer lie in theirs
--   program_one           one answer
--   input_answered        an input is answered by its first 649 bytes
--   program_never_short   it is never SHORT
use Prim.Native.Nat.{ℕ, ◌≤◌, ◌<◌}
use native.Mathlib.Omega.{arith}
use mathlib.Core.Path.{◌≡◌, refl, sym, ap, ◌∙◌, subst}
use mathlib.Core.Logic.{◌≢◌}
use mathlib.Core.List.{List}
use lib.ListN.{length, take, drop, length-take, length-append, length-replicate}
use Rattle.std.specs.Prelude.{Ok, Err, Option, Some, None, IsSome}
use Rattle.paper.specs.declared.Room.{Room}
use Rattle.paper.specs.declared.Numbers.{Numbers}
use Rattle.paper.specs.declared.Refusal.{Refusal}
use Rattle.paper.specs.declared.Refusal.TheVariants as refusal
use Rattle.paper.specs.declared.Undecided.{Undecided}
use Rattle.paper.specs.declared.Undecided.TheVariants as undecided
use Rattle.paper.specs.declared.Planned.TheVariants as planned
use Rattle.paper.specs.Reply.{refusal_numbers, undecided_numbers, planned_numbers, W, written, PlanAnswer, PlanShort, PlanReply}
use Rattle.paper.specs.Answer.{program_slots}
use Rattle.paper.proofs.Uniques.{plan_feasible, plan_one as room_plan_one}
use Rattle.paper.proofs.Plans.{plan_exists}
use Rattle.answer.specs.Calls.{PlanOfText, broken, good}
use Rattle.answer.specs.Lines.{plan_slots, printed, Answered, program_table, program_plan, TextAnswered, InputAnswered}
use Rattle.answer.proofs.Lines.{answer_length, slots_within}
use Rattle.answer.proofs.Enough.{text_near}
use Rattle.answer.proofs.One.{plan_one}

-- ---- Room for every answer

module _ {text : List ℕ} where
  answer_fits : {table plan : List ℕ} {N : Numbers} → PlanOfText text program_table program_plan table plan N → length (printed N plan) ≤ 10784
  unfolding printed
  answer_fits {plan = plan} {N = N} p =
      omega (arith, slots_within p, length-replicate {A = ℕ} program_slots 0, answer_length N (take (plan_slots N) plan), length-take (plan_slots N) plan)

  pub program_fits : {lines₀ table plan lines : List ℕ} (n : Option ℕ) → 10784 ≤ length lines₀
      → Answered text program_table program_plan lines₀ n table plan lines → IsSome n
  program_fits (Some n) h a = refl
  program_fits None h a = absurd (omega (arith, answer_fits a.says, a.prints.0))

  pub text_answered : {lines₀ table plan lines : List ℕ} {n : ℕ}
      → Answered text program_table program_plan lines₀ (Some n) table plan lines → TextAnswered text lines₀ n lines
  text_answered {table = table} {plan = plan} a =
      record { numbers = a.numbers; table = table; plan = plan; says = a.says; place = a.prints.1; same = a.prints.2 }

pub text_within : {text lines₀ lines : List ℕ} {n : ℕ} → TextAnswered text lines₀ n lines → n ≤ length lines
text_within {lines₀ = lines₀} a =
    let l = printed a.numbers a.plan in
    omega (arith, a.place, ap length a.same, length-append l (drop (length l) lines₀))

-- ---- One answer

pub program_one : {text lines₀ lines lines' : List ℕ} {n n' : ℕ} → TextAnswered text lines₀ n lines → TextAnswered text lines₀ n' lines'
    → (n ≡ n') × (lines ≡ lines')
program_one {text} {lines₀} a b =
    let e = plan_one text program_table program_plan a.says b.says in
    let l : printed a.numbers a.plan ≡ printed b.numbers b.plan = λ i. printed (e.0 i) (e.2 i) in
    (a.place ∙ ap length l ∙ sym b.place, a.same ∙ ap (λ (k : List ℕ). written k lines₀) l ∙ sym b.same)

-- ---- The first 649 bytes

pub input_answered : (input : List ℕ) {lines₀ lines : List ℕ} {n : ℕ} → TextAnswered (take 649 input) lines₀ n lines → InputAnswered input lines₀ n lines
input_answered input {lines₀ = lines₀} {lines = lines} {n = n} a text h =
    text_near text (subst (λ (t : List ℕ). TextAnswered t lines₀ n lines) (sym h) a)

-- ---- Never SHORT

-- a plan that does not fit is longer than the count, which a plan never is
short_buffer : {room : Room} {table₀ plan₀ : List ℕ} {N : Numbers} → PlanShort room table₀ plan₀ N → length plan₀ < W table₀
short_buffer {room} x =
    let d = x.decided in
    let c = d.count in
    let y = plan_exists d.limits c.clock c.counted (plan_feasible x.is) in
    let e = room_plan_one x.is (record { times = c.times; clock = c.clock; plan = y.3 }) in
    omega (arith, x.short, d.fits, ap length e.0, y.2)

refusal_code : (r : Refusal) → (refusal_numbers r).code < 11
refusal_code refusal.Engines = omega arith
refusal_code refusal.Jobs = omega arith
refusal_code (refusal.Job i) = omega arith
refusal_code (refusal.Section i) = omega arith
refusal_code (refusal.Link i) = omega arith
refusal_code (refusal.Long i) = omega arith

undecided_code : (d : Undecided) → (undecided_numbers d).code < 11
undecided_code (undecided.Refused r) = refusal_code r
undecided_code undecided.Table = omega arith
undecided_code undecided.Room = omega arith

-- W configurations fit into the table, and as many slots into the plan buffer
planned_code : {room : Room} {table₀ plan₀ table plan : List ℕ} → W table₀ ≤ length plan₀ → (r : PlanAnswer) → PlanReply room table₀ plan₀ r table plan
    → (planned_numbers r).code < 11
planned_code h (Ok (planned.Good n a c)) x = omega arith
planned_code h (Ok (planned.None n)) x = omega arith
planned_code h (Ok (planned.Short i)) x = let k = short_buffer x.says.0 in absurd (omega arith)
planned_code h (Err d) x = undecided_code d

program_code : {text table plan : List ℕ} {N : Numbers} → PlanOfText text program_table program_plan table plan N → N.code < 11
program_code (broken b x e f) = omega (arith, ap (λ (N : Numbers). N.code) e)
program_code (good room x y) =
    let h : W program_table ≤ length program_plan = omega (arith, length-replicate {A = ℕ} 6144 0, length-replicate {A = ℕ} program_slots 0) in
    omega (arith, ap (λ (N : Numbers). N.code) y.told, planned_code h y.answer y.promised)

pub program_never_short : {text lines₀ lines : List ℕ} {n : ℕ} (a : TextAnswered text lines₀ n lines) → a.numbers.code ≢ 11
program_never_short a e = let h = program_code a.says in omega arith
