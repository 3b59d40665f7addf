-- Demands 2 and 3, of a reply and nothing else. A decided room has one of three replies to planning and one of two to judging, by what is true of it;
-- since two replies that meet a relation are equal, it is the one given, and each code is given exactly when.
--   Undecidable, undecidable            the codes of an undecided room
--   plan_decides, judge_decides         any other comes of a decided room
--   decided_none, decided_good, decided_short   the three replies to planning a decided room
--   PlanCase, plan_case                 which of them is given, and on GOOD what stands in the buffer
--   plan_means, plan_means_004          demand 2: by endless schedules, and by document 004's behaviours
--   decided_accepted, decided_out       the two replies to judging a past of a decided room
--   JudgeCase, judge_case               which of them is given
--   judge_means, judge_means_004        demand 3, likewise
use Prim.Native.Nat.{ℕ, ◌+◌, ◌-◌, ◌≤◌, ◌<◌}
use native.Mathlib.Omega.{arith}
use mathlib.Core.Path.{◌≡◌, refl, ap, ◌∙◌}
use mathlib.Core.Logic.{◌↔◌, ◌⊎◌, inl, inr, ⊎_elim}
use mathlib.Core.List.{List}
use lib.ListN.{length, take, drop}
use lib.Seq.{take-append_seam}
use lib.Dec.{lit≤}
use Rattle.std.specs.Prelude.{Ok, Err}
use Rattle.paper.specs.declared.Room.{Room}
use Rattle.paper.specs.declared.Numbers.{Numbers}
use Rattle.paper.specs.declared.Refusal.TheVariants as refusal
use Rattle.paper.specs.declared.Undecided.{Undecided}
use Rattle.paper.specs.declared.Undecided.TheVariants as undecided
use Rattle.paper.specs.declared.Planned.TheVariants as planned
use Rattle.paper.specs.declared.Judged.TheVariants as judged
use Rattle.paper.specs.Room.{Limits}
use Rattle.paper.specs.Centre.{Centre, Feasible, Outside}
use Rattle.paper.specs.Plan.{unrolled}
use Rattle.paper.specs.Reply.{PlanAnswer, JudgeAnswer, undecided_numbers, planned_numbers, judged_numbers, PlanIs, zeros, written, Decided, PlanReply, JudgeReply}
use Rattle.paper.specs.Languages.{DependentValid}
use Rattle.paper.specs.Means.{HasSchedule, GoesOn, Behaves, IsDecided, PlanFits, Singled, PlanMeans, JudgeMeans}
use Rattle.laws.proofs.Tests.{lt_or_le}
use Rattle.paper.proofs.Uniques.{plan_one, outside_not_centre}
use Rattle.paper.proofs.Certificates.{feasible?, past_judged}
use Rattle.paper.proofs.Plans.{plan_exists, centre_for_ever, feasible_endless}
use Rattle.paper.proofs.Unrolled.{plan_unrolled}
use Rattle.paper.proofs.Languages.{centre_dependent_valid, feasible_dependent_valid}
use Rattle.paper.proofs.Replies.{plan_reply_one, judge_reply_one}

-- ---- Undecided rooms

-- codes 3 to 10
abbrev Undecidable : Numbers → Type 0
Undecidable N = (3 ≤ N.code) × (N.code ≤ 10)

undecidable : (u : Undecided) → Undecidable (undecided_numbers u)
undecidable (undecided.Refused refusal.Engines) = (lit≤ tt, lit≤ tt)
undecidable (undecided.Refused refusal.Jobs) = (lit≤ tt, lit≤ tt)
undecidable (undecided.Refused (refusal.Job i)) = (lit≤ tt, lit≤ tt)
undecidable (undecided.Refused (refusal.Section i)) = (lit≤ tt, lit≤ tt)
undecidable (undecided.Refused (refusal.Link i)) = (lit≤ tt, lit≤ tt)
undecidable (undecided.Refused (refusal.Long i)) = (lit≤ tt, lit≤ tt)
undecidable undecided.Table = (lit≤ tt, lit≤ tt)
undecidable undecided.Room = (lit≤ tt, lit≤ tt)

-- ---- Planning

module _ (room : Room) (table₀ plan₀ : List ℕ) where
  plan_decides : (r : PlanAnswer) {table plan : List ℕ} → PlanReply room table₀ plan₀ r table plan → IsDecided room table₀ ⊎ Undecidable (planned_numbers r)
  plan_decides (Ok (planned.Good n a c)) x = inl (n, x.says.decided)
  plan_decides (Ok (planned.None n)) x = inl (n, x.says.0.decided)
  plan_decides (Err u) x = inr (undecidable u)
  plan_decides (Ok (planned.Short i)) x = inl (x.says.0.n, x.says.0.decided)

  module _ {n : ℕ} (d : Decided room table₀ n) where
    decided_none : ¬ Feasible room → PlanReply room table₀ plan₀ (Ok (planned.None n)) (zeros table₀) plan₀
    decided_none f = record { says = (record { decided = d; infeasible = f }, refl); table_is = refl }

    module _ {masks : List ℕ} {a : ℕ} (p : PlanIs room masks a) where
      decided_good : length masks ≤ length plan₀ → PlanReply room table₀ plan₀ (Ok (planned.Good n a (length masks - a))) (zeros table₀) (written masks plan₀)
      decided_good h = record {
        says = record { decided = d; masks = masks; is = p; cycle = omega (arith, p.plan.turns.earlier); fits = h; buffer = refl };
        table_is = refl;
      }

      decided_short : length plan₀ < length masks → PlanReply room table₀ plan₀ (Ok (planned.Short (length masks))) (zeros table₀) plan₀
      decided_short h = record {
        says = (record { n = n; decided = d; masks = masks; a = a; is = p; place = refl; short = h }, refl);
        table_is = refl;
      }

  -- what is true of a decided room, and the numbers and the buffer that it then has
  data PlanCase (N : Numbers) (plan : List ℕ) : Type 0 where
    none : ¬ Feasible room → N.code ≡ 1 → PlanCase N plan
    good : Feasible room → PlanFits room plan₀ → N.code ≡ 0 → Singled room (unrolled (take (N.prefix + N.cycle) plan) N.prefix) → PlanCase N plan
    short : Feasible room → ¬ PlanFits room plan₀ → N.code ≡ 11 → PlanCase N plan

  plan_case : {r : PlanAnswer} {table plan : List ℕ} → PlanReply room table₀ plan₀ r table plan → {n : ℕ} → Decided room table₀ n → PlanCase (planned_numbers r) plan
  plan_case {r} {table} {plan} x {n} d = by_feasible (feasible? d.limits d.count.clock)
    where
      given : (r' : PlanAnswer) {table' plan' : List ℕ} → PlanReply room table₀ plan₀ r' table' plan' → PlanCase (planned_numbers r') plan' → PlanCase (planned_numbers r) plan
      given r' y z = let e = plan_reply_one room table₀ plan₀ r r' table _ plan _ x y in rw (e.0, e.2) z

      laid : (masks : List ℕ) {a : ℕ} → a < length masks → take (a + (length masks - a)) (written masks plan₀) ≡ masks
      laid masks {a} h =
          let e : a + (length masks - a) ≡ length masks = omega arith in
          ap (λ (k : ℕ). take k (written masks plan₀)) e ∙ take-append_seam masks (drop (length masks) plan₀)

      by_length : Feasible room → (masks : List ℕ) {a : ℕ} → PlanIs room masks a → (length plan₀ < length masks) ⊎ (length masks ≤ length plan₀)
          → PlanCase (planned_numbers r) plan
      by_length f masks p (inl h) = given _ (decided_short d p h) (short f (λ q. omega (arith, ap length (plan_one p q.2).0, q.3)) refl)
      by_length f masks p (inr h) =
          given _ (decided_good d p h) (good f (masks, _, p, h) refl (rw (laid masks p.plan.turns.earlier) (plan_unrolled d.limits p.clock p.plan)))

      by_feasible : Dec (Feasible room) → PlanCase (planned_numbers r) plan
      by_feasible (no f) = given _ (decided_none d f) (none f refl)
      by_feasible (yes f) =
          let c = d.count in
          let p = plan_exists d.limits c.clock c.counted f in
          by_length f p.0 (record { times = c.times; clock = c.clock; plan = p.3 }) (lt_or_le (length plan₀) (length p.0))

  -- Possible is any property that the room has exactly if it is feasible
  plan_means_by : {Possible : Type 0} → (Limits room → Feasible room ↔ Possible) → (r : PlanAnswer) {table plan : List ℕ}
      → PlanReply room table₀ plan₀ r table plan → PlanMeans Possible room table₀ plan₀ (planned_numbers r) plan
  plan_means_by {Possible} same r {table} {plan} x = ⊎_elim (λ d. decides d) undecided (plan_decides r x)
    where
      decides : IsDecided room table₀ → PlanMeans Possible room table₀ plan₀ (planned_numbers r) plan
      decides d = by_case (plan_case x d.1) (same d.1.limits)
        where
          by_case : PlanCase (planned_numbers r) plan → Feasible room ↔ Possible → PlanMeans Possible room table₀ plan₀ (planned_numbers r) plan
          by_case (none f e) p = record {
            good = (λ c. absurd (omega arith), λ q. absurd (f (p.1 q.1)));
            none = (λ c. (d, λ q. f (p.1 q)), λ q. e);
            short = (λ c. absurd (omega arith), λ q. absurd (f (p.1 q.1)));
            schedule = λ c. absurd (omega arith);
          }
          by_case (good f h e s) p = record {
            good = (λ c. (d, p.0 f, h), λ q. e);
            none = (λ c. absurd (omega arith), λ q. absurd (q.1 (p.0 f)));
            short = (λ c. absurd (omega arith), λ q. absurd (q.2 h));
            schedule = λ c. s;
          }
          by_case (short f h e) p = record {
            good = (λ c. absurd (omega arith), λ q. absurd (h q.2));
            none = (λ c. absurd (omega arith), λ q. absurd (q.1 (p.0 f)));
            short = (λ c. (d, p.0 f, h), λ q. e);
            schedule = λ c. absurd (omega arith);
          }

      undecided : Undecidable (planned_numbers r) → PlanMeans Possible room table₀ plan₀ (planned_numbers r) plan
      undecided h = record {
        good = (λ c. absurd (omega arith), λ q. absurd (never q.0));
        none = (λ c. absurd (omega arith), λ q. absurd (never q.0));
        short = (λ c. absurd (omega arith), λ q. absurd (never q.0));
        schedule = λ c. absurd (omega arith);
      }
        where
          never : ¬ IsDecided room table₀
          never d = elim (plan_case x d.1) [ none f e ↦ omega arith | good f g e s ↦ omega arith | short f g e ↦ omega arith ]

  pub plan_means : (r : PlanAnswer) (table plan : List ℕ) → PlanReply room table₀ plan₀ r table plan
      → PlanMeans (HasSchedule room) room table₀ plan₀ (planned_numbers r) plan
  plan_means r table plan x = plan_means_by feasible_endless r x

  pub plan_means_004 : (r : PlanAnswer) (table plan : List ℕ) → PlanReply room table₀ plan₀ r table plan
      → PlanMeans (Behaves room) room table₀ plan₀ (planned_numbers r) plan
  plan_means_004 r table plan x = plan_means_by feasible_dependent_valid r x

-- ---- Judging

module _ (room : Room) (past table₀ : List ℕ) where
  judge_decides : (r : JudgeAnswer) {table : List ℕ} → JudgeReply room past table₀ r table → IsDecided room table₀ ⊎ Undecidable (judged_numbers r)
  judge_decides (Ok (judged.Good n)) x = inl (n, x.says.decided)
  judge_decides (Err u) x = inr (undecidable u)
  judge_decides (Ok (judged.Out n i)) x = inl (n, x.says.decided)

  module _ {n : ℕ} (d : Decided room table₀ n) where
    decided_accepted : Centre room past → JudgeReply room past table₀ (Ok (judged.Good n)) (zeros table₀)
    decided_accepted c = record { says = record { decided = d; centre = c }; table_is = refl }

    decided_out : {i : ℕ} → Outside room past i → JudgeReply room past table₀ (Ok (judged.Out n i)) (zeros table₀)
    decided_out x = record { says = record { decided = d; outside = x }; table_is = refl }

  -- what is true of a past of a decided room, and the numbers that it then has
  data JudgeCase (N : Numbers) : Type 0 where
    accepted : Centre room past → N.code ≡ 0 → JudgeCase N
    out : Outside room past N.place → N.code ≡ 12 → JudgeCase N

  judge_case : {r : JudgeAnswer} {table : List ℕ} → JudgeReply room past table₀ r table → {n : ℕ} → Decided room table₀ n → JudgeCase (judged_numbers r)
  judge_case {r} {table} x d = ⊎_elim
      (λ c. given _ (decided_accepted d c) (accepted c refl))
      (λ i. given _ (decided_out d i.1) (out i.1 refl))
      (past_judged d.limits d.count.clock past)
    where
      given : (r' : JudgeAnswer) {table' : List ℕ} → JudgeReply room past table₀ r' table' → JudgeCase (judged_numbers r') → JudgeCase (judged_numbers r)
      given r' y z = rw (judge_reply_one room past table₀ r r' table _ x y).0 z

  -- Possible is any property that a past has exactly if it is in the centre
  judge_means_by : {Possible : List ℕ → Type 0} → (Limits room → (l : List ℕ) → Centre room l ↔ Possible l) → (r : JudgeAnswer) {table : List ℕ}
      → JudgeReply room past table₀ r table → JudgeMeans Possible room past table₀ (judged_numbers r)
  judge_means_by {Possible} same r x = ⊎_elim (λ d. decides d) undecided (judge_decides r x)
    where
      decides : IsDecided room table₀ → JudgeMeans Possible room past table₀ (judged_numbers r)
      decides d = by_case (judge_case x d.1) (same d.1.limits)
        where
          by_case : JudgeCase (judged_numbers r) → ((l : List ℕ) → Centre room l ↔ Possible l) → JudgeMeans Possible room past table₀ (judged_numbers r)
          by_case (accepted c e) p = record {
            good = (λ h. (d, (p past).0 c), λ q. e);
            out = (λ h. absurd (omega arith), λ q. absurd (q.1 ((p past).0 c)));
            place = λ h. absurd (omega arith);
          }
          by_case (out o e) p =
              let lost = outside_not_centre o in
              record {
                good = (λ h. absurd (omega arith), λ q. absurd (lost ((p past).1 q.1)));
                out = (λ h. (d, λ q. lost ((p past).1 q)), λ q. e);
                place = λ h. record { within = o.within; lost = λ q. o.outside ((p _).1 q); shortest = λ t g. (p _).0 (o.shortest t g) };
              }

      undecided : Undecidable (judged_numbers r) → JudgeMeans Possible room past table₀ (judged_numbers r)
      undecided h = record {
        good = (λ c. absurd (omega arith), λ q. absurd (never q.0));
        out = (λ c. absurd (omega arith), λ q. absurd (never q.0));
        place = λ c. absurd (omega arith);
      }
        where
          never : ¬ IsDecided room table₀
          never d = elim (judge_case x d.1) [ accepted c e ↦ omega arith | out o e ↦ omega arith ]

  pub judge_means : (r : JudgeAnswer) (table : List ℕ) → JudgeReply room past table₀ r table → JudgeMeans (GoesOn room) room past table₀ (judged_numbers r)
  judge_means r table x = judge_means_by (λ limits. centre_for_ever limits) r x

  pub judge_means_004 : (r : JudgeAnswer) (table : List ℕ) → JudgeReply room past table₀ r table → JudgeMeans (DependentValid room) room past table₀ (judged_numbers r)
  judge_means_004 r table x = judge_means_by (λ limits. centre_dependent_valid limits) r x
