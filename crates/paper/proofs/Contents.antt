-- The contents of the lent table at the start don't matter: a table of the same length gets the same reply, and the same plan in the plan buffer.
-- What the relations ask of the table they ask of its length. With one reply (Replies) no other can be given.
--   too_long_same, too_many_same, decided_same, not_decided_same
--                                                TABLE, ROOM and a decided room, for a table of the same length
--   plan_contents                                the call that plans
--   judge_contents                               the call that judges
use Prim.Native.Nat.{ℕ}
use mathlib.Core.Path.{◌≡◌, refl}
use mathlib.Core.List.{List}
use lib.ListN.{length}
use Rattle.std.specs.Prelude.{Ok, Err}
use Rattle.paper.specs.declared.Room.{Room}
use Rattle.paper.specs.declared.Undecided.{Undecided}
use Rattle.paper.specs.declared.Undecided.TheVariants as undecided
use Rattle.paper.specs.declared.Planned.TheVariants as planned
use Rattle.paper.specs.declared.Judged.TheVariants as judged
use Rattle.paper.specs.Reply.{PlanAnswer, JudgeAnswer, planned_numbers, judged_numbers, table_after, Decided, TooLong, TooMany, NotDecided, PlanSays, PlanReply, JudgeSays, JudgeReply}

module _ (room : Room) (table₀ table₀' : List ℕ) (e : length table₀ ≡ length table₀') where
  too_long_same : TooLong room table₀ → TooLong room table₀'
  too_long_same x = record { limits = x.limits; long = rw e at x.long }

  too_many_same : TooMany room table₀ → TooMany room table₀'
  too_many_same x = record { limits = x.limits; lent = rw e at x.lent; more = rw e at x.more }

  decided_same : {n : ℕ} → Decided room table₀ n → Decided room table₀' n
  decided_same x = record { limits = x.limits; lent = rw e at x.lent; count = x.count; fits = rw e at x.fits }

  not_decided_same : (u : Undecided) → NotDecided room table₀ u → NotDecided room table₀' u
  not_decided_same (undecided.Refused r) x = x
  not_decided_same undecided.Table x = too_long_same x
  not_decided_same undecided.Room x = too_many_same x

module _ (room : Room) (table₀ table₀' plan₀ : List ℕ) (e : length table₀ ≡ length table₀') where
  plan_says : (r : PlanAnswer) (plan : List ℕ) → PlanSays room table₀ plan₀ (planned_numbers r) r plan → PlanSays room table₀' plan₀ (planned_numbers r) r plan
  plan_says (Ok (planned.Good n a c)) plan x = search (decided_same room table₀ table₀' e)
  plan_says (Ok (planned.None n)) plan x = (record { decided = decided_same room table₀ table₀' e x.0.decided; infeasible = x.0.infeasible }, x.1)
  plan_says (Err u) plan x = (not_decided_same room table₀ table₀' e u x.0, x.1)
  plan_says (Ok (planned.Short i)) plan x = let y = x.0 in search (decided_same room table₀ table₀' e)

  pub plan_contents : (r : PlanAnswer) (table plan : List ℕ) → PlanReply room table₀ plan₀ r table plan
      → PlanReply room table₀' plan₀ r (table_after (planned_numbers r).code table₀') plan
  plan_contents r table plan x = record { says = plan_says r plan x.says; table_is = refl }

module _ (room : Room) (past table₀ table₀' : List ℕ) (e : length table₀ ≡ length table₀') where
  judge_says : (r : JudgeAnswer) → JudgeSays room past table₀ (judged_numbers r) r → JudgeSays room past table₀' (judged_numbers r) r
  judge_says (Ok (judged.Good n)) x = record { decided = decided_same room table₀ table₀' e x.decided; centre = x.centre }
  judge_says (Err u) x = not_decided_same room table₀ table₀' e u x
  judge_says (Ok (judged.Out n i)) x = record { decided = decided_same room table₀ table₀' e x.decided; outside = x.outside }

  pub judge_contents : (r : JudgeAnswer) (table : List ℕ) → JudgeReply room past table₀ r table
      → JudgeReply room past table₀' r (table_after (judged_numbers r).code table₀')
  judge_contents r table x = record { says = judge_says r x.says; table_is = refl }
