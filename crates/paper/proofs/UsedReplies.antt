-- Entries beyond a stated number are not looked at (01, "A room"): rooms with the same used entries get the same replies, with the same lent buffers
-- at exit. The reader takes no room; in the room that it hands back the unused entries are zeros (`Read`).
--   least_bad_along, first_bad_along               the places of rows with the same good entries
--   bad_job_used, bad_section_used, bad_link_used, passes_used, refused_used
--                                                  the refusals 3 to 8
--   centre_back, reached_back                      from the second room to the first
--   outside_used                                   the shortest beginning outside the centre
--   count_is_used, exceeds_used, plan_is_used      count, size and plan
--   decided_used, too_long_used, too_many_used, not_decided_used
--                                                  what a lent table leaves to decide
--   check_reply_used                               the call that checks
--   plan_reply_used                                the call that plans
--   judge_reply_used                               the call that judges
--   write_reply_used                               the writer
use Prim.Native.Nat.{ℕ, ◌+◌, ◌<◌}
use native.Mathlib.Omega.{arith}
use mathlib.Core.Path.{◌≡◌}
use mathlib.Core.List.{List}
use lib.ListN.{take}
use Rattle.std.specs.Prelude.{Ok, Err}
use Rattle.paper.specs.declared.Room.{Room}
use Rattle.paper.specs.declared.Times.{Times}
use Rattle.paper.specs.declared.Configuration.{Configuration}
use Rattle.paper.specs.declared.Refusal.{Refusal}
use Rattle.paper.specs.declared.Refusal.TheVariants as refusal
use Rattle.paper.specs.declared.Undecided.{Undecided}
use Rattle.paper.specs.declared.Undecided.TheVariants as undecided
use Rattle.paper.specs.declared.Planned.TheVariants as planned
use Rattle.paper.specs.declared.Judged.TheVariants as judged
use Rattle.paper.specs.declared.Unwritten.TheVariants as unwritten
use Rattle.paper.specs.Room.{Limits, SameUsed}
use Rattle.paper.specs.Centre.{Centre, Outside}
use Rattle.paper.specs.Configuration.{Reached}
use Rattle.paper.specs.Plan.{Greatest}
use Rattle.paper.specs.Reply.{planned_numbers, judged_numbers, LeastBad, FirstBad, many, one, Passes, Refused, CountIs, PlanIs, Exceeds, Decided, TooLong, TooMany, NotDecided}
use Rattle.paper.specs.Reply.{CheckAnswer, PlanAnswer, JudgeAnswer, WriteAnswer, CheckReply, PlanSays, PlanReply, JudgeSays, JudgeReply, WriteReply}
use Rattle.laws.proofs.Repeats.{first_along}
use Rattle.paper.proofs.Refusals.{BadJob, BadSection, BadLink}
use Rattle.paper.proofs.Entries.{used_render}
use Rattle.paper.proofs.Used.{used_sym, good_job_used, good_section_used, good_link_used, engines_fit_used, jobs_fit_used, each_job_fits_used}
use Rattle.paper.proofs.Used.{sections_fit_used, links_fit_used, multiple_used, clock_used, limits_used, configuration_used, reached_used, centre_used}

-- ---- Places

module _ {Fine Fine' : ℕ → Type 0} {n n' : ℕ} (e : n ≡ n') (to : (k : ℕ) → k < n' → Fine k → Fine' k) (from : (k : ℕ) → k < n → Fine' k → Fine k) where
  least_bad_along : {i : ℕ} → LeastBad Fine n i → LeastBad Fine' n' i
  least_bad_along {i} x = record { below = omega arith; bad = search (x.bad, from, x.below); earlier = λ k h. to k (omega arith) (x.earlier k h) }

  first_bad_along : {most i : ℕ} → FirstBad Fine n most i → FirstBad Fine' n' most i
  first_bad_along (many h d) = many (omega arith) d
  first_bad_along (one h x) = one (omega arith) (least_bad_along x)

module _ {room room' : Room} (same : SameUsed room room') where
  abbrev back : SameUsed room' room
  back = used_sym same

  -- ---- The refusals

  bad_job_used : {i : ℕ} → BadJob room i → BadJob room' i
  bad_job_used x = least_bad_along same.jobs (good_job_used same) (good_job_used back) x

  bad_section_used : {i : ℕ} → BadSection room i → BadSection room' i
  bad_section_used x = first_bad_along same.sections (good_section_used same) (good_section_used back) x

  bad_link_used : {i : ℕ} → BadLink room i → BadLink room' i
  bad_link_used x = first_bad_along same.links (good_link_used same) (good_link_used back) x

  passes_used : {i : ℕ} → Passes room i → Passes room' i
  passes_used {i} x =
      let a = multiple_used same {n = i} (omega arith) x.until in
      let b = multiple_used same {n = i + 1} (omega arith) x.with in
      let k : i < room'.jobs = omega arith in
      search

  refused_used : (r : Refusal) → Refused room r → Refused room' r
  refused_used refusal.Engines x = search (x.fault, engines_fit_used back)
  refused_used refusal.Jobs x = search (engines_fit_used same, x.fault, jobs_fit_used back)
  refused_used (refusal.Job i) x = search (engines_fit_used same, jobs_fit_used same, bad_job_used)
  refused_used (refusal.Section i) x = search (engines_fit_used same, jobs_fit_used same, each_job_fits_used same, bad_section_used)
  refused_used (refusal.Link i) x = search (engines_fit_used same, jobs_fit_used same, each_job_fits_used same, sections_fit_used same, bad_link_used)
  refused_used (refusal.Long i) x =
      search (engines_fit_used same, jobs_fit_used same, each_job_fits_used same, sections_fit_used same, links_fit_used same, passes_used)

  -- ---- Centre, count and plan

  module _ (limits : Limits room) where
    centre_back : {l : List ℕ} → Centre room' l → Centre room l
    centre_back x = centre_used back (limits_used same limits) x

    reached_back : {times : Times} {c : Configuration} → Reached room' times c → Reached room times c
    reached_back x = reached_used back (limits_used same limits) x

    pub outside_used : {l : List ℕ} {n : ℕ} → Outside room l n → Outside room' l n
    outside_used x = search (centre_used same limits, centre_back, x.outside, x.shortest)

    pub count_is_used : {n : ℕ} → CountIs room n → CountIs room' n
    count_is_used x = search (clock_used same, reached_used same limits, reached_back, x.counted.reached, x.counted.complete)

    pub exceeds_used : {w : ℕ} → Exceeds room w → Exceeds room' w
    exceeds_used x = search (clock_used same, reached_used same limits, x.more.reached)

    greatest_used : {l : List ℕ} {m : ℕ} → Greatest room l m → Greatest room' l m
    greatest_used x = search (centre_used same limits, centre_back, x.greatest)

    pub plan_is_used : {masks : List ℕ} {a : ℕ} → PlanIs room masks a → PlanIs room' masks a
    plan_is_used {masks} x =
        let t = first_along _ _ (λ t h. configuration_used same x.times (take t masks)) x.plan.turns in
        search (clock_used same, greatest_used, x.plan.follows)

  -- ---- The lent table

  pub decided_used : {table₀ : List ℕ} {n : ℕ} → Decided room table₀ n → Decided room' table₀ n
  decided_used x = search (limits_used same, count_is_used)

  pub too_long_used : {table₀ : List ℕ} → TooLong room table₀ → TooLong room' table₀
  too_long_used x = search (limits_used same)

  pub too_many_used : {table₀ : List ℕ} → TooMany room table₀ → TooMany room' table₀
  too_many_used x = search (limits_used same, exceeds_used)

  not_decided_used : (table₀ : List ℕ) (u : Undecided) → NotDecided room table₀ u → NotDecided room' table₀ u
  not_decided_used table₀ (undecided.Refused r) x = refused_used r x
  not_decided_used table₀ undecided.Table x = too_long_used x
  not_decided_used table₀ undecided.Room x = too_many_used x

  -- ---- The calls

  pub check_reply_used : (r : CheckAnswer) → CheckReply room r → CheckReply room' r
  check_reply_used (Ok _) x = limits_used same x
  check_reply_used (Err r) x = refused_used r x

  module _ (table₀ plan₀ plan : List ℕ) where
    plan_says_used : (r : PlanAnswer) → PlanSays room table₀ plan₀ (planned_numbers r) r plan → PlanSays room' table₀ plan₀ (planned_numbers r) r plan
    plan_says_used (Ok (planned.Good n a c)) x = search (decided_used, plan_is_used)
    plan_says_used (Ok (planned.None n)) x = let y = x.0 in search (decided_used, centre_back, y.infeasible)
    plan_says_used (Err u) x = (not_decided_used table₀ u x.0, x.1)
    plan_says_used (Ok (planned.Short i)) x = let y = x.0 in let p = plan_is_used y.decided.limits y.is in search decided_used

  pub plan_reply_used : {table₀ plan₀ : List ℕ} {r : PlanAnswer} {table plan : List ℕ} → PlanReply room table₀ plan₀ r table plan
      → PlanReply room' table₀ plan₀ r table plan
  plan_reply_used {table₀} {plan₀} {r} {plan = plan} x = record { says = plan_says_used table₀ plan₀ plan r x.says; table_is = x.table_is }

  module _ (past table₀ : List ℕ) where
    judge_says_used : (r : JudgeAnswer) → JudgeSays room past table₀ (judged_numbers r) r → JudgeSays room' past table₀ (judged_numbers r) r
    judge_says_used (Ok (judged.Good n)) x = search (decided_used, centre_used same)
    judge_says_used (Err u) x = not_decided_used table₀ u x
    judge_says_used (Ok (judged.Out n i)) x = search (decided_used, outside_used)

  pub judge_reply_used : {past table₀ : List ℕ} {r : JudgeAnswer} {table : List ℕ} → JudgeReply room past table₀ r table → JudgeReply room' past table₀ r table
  judge_reply_used {past} {table₀} {r} x = record { says = judge_says_used past table₀ r x.says; table_is = x.table_is }

  module _ (text₀ text : List ℕ) where
    pub write_reply_used : (r : WriteAnswer) → WriteReply room text₀ r text → WriteReply room' text₀ r text
    write_reply_used (Ok i) x = search (limits_used same, ← used_render room room' same)
    write_reply_used (Err (unwritten.Refused r)) x = (refused_used r x.0, x.1)
    write_reply_used (Err (unwritten.Short i)) x = let y = x.0 in search (limits_used same, ← used_render room room' same)
