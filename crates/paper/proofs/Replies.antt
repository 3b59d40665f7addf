-- One reply: two answers that meet a call's relation for the same arguments are equal, and so are the lent buffers at exit. Each relation is shown
-- to be a tree of forks, in the order of its tests; an outcome is the answer with the buffer that the call writes. The table goes by the code alone.
--   check_reply_one   the call that checks
--   plan_reply_one    the call that plans
--   judge_reply_one   the call that judges
--   read_reply_one    the reader
--   write_reply_one   the writer
use Prim.Native.Nat.{ℕ, ◌-◌, ◌≤◌}
use native.Mathlib.Omega.{arith}
use mathlib.Core.Path.{◌≡◌, refl, sym, ap, ◌∙◌}
use mathlib.Core.List.{List}
use lib.ListN.{length}
use Rattle.std.specs.Prelude.{Ok, Err}
use Rattle.paper.specs.declared.Room.{Room}
use Rattle.paper.specs.declared.Numbers.{Numbers}
use Rattle.paper.specs.declared.Refusal.{Refusal}
use Rattle.paper.specs.declared.Undecided.{Undecided}
use Rattle.paper.specs.declared.Planned.TheVariants as planned
use Rattle.paper.specs.declared.Judged.TheVariants as judged
use Rattle.paper.specs.declared.Unwritten.TheVariants as unwritten
use Rattle.paper.specs.Centre.{Centre, Feasible, Outside}
use Rattle.paper.specs.Text.{render, GoodText, FirstBadLine, Read}
use Rattle.paper.specs.Reply.{planned_numbers, judged_numbers, CountIs, PlanIs, table_after, written}
use Rattle.paper.specs.Reply.{CheckAnswer, PlanAnswer, JudgeAnswer, ReadAnswer, WriteAnswer, CheckReply, PlanSays, PlanReply, JudgeSays, JudgeReply, ReadReply, WriteReply}
use Rattle.laws.specs.Forks.{One, Fork, fails, passes, Settled, Leaf}
use Rattle.laws.proofs.Forks.{fork_one, settled_one, leaf_one, leaf}
use Rattle.paper.proofs.Uniques.{counted_one, plan_one, plan_feasible, outside_one, outside_not_centre}
use Rattle.paper.proofs.Refusals.{Refusals, refusals_one, refused, limits_through, Deciding, deciding_one, not_decided, decided}
use Rattle.paper.proofs.BadLines.{bad_line_one}
use Rattle.paper.proofs.Entries.{read_one}

-- the answer and the buffer of an outcome
parts : {A B : Type 0} {z z' : A × B} → z ≡ z' → (z.0 ≡ z'.0) × (z.1 ≡ z'.1)
parts {A} {B} e = (ap (λ (z : A × B). z.0) e, ap (λ (z : A × B). z.1) e)

-- the table after a call goes by the code
table_one : {A : Type 0} (numbers : A → Numbers) (table₀ : List ℕ) {r r' : A} {table table' : List ℕ} → r ≡ r'
    → table ≡ table_after (numbers r).code table₀ → table' ≡ table_after (numbers r').code table₀ → table ≡ table'
table_one {A} numbers table₀ e t t' = t ∙ ap (λ (r : A). table_after (numbers r).code table₀) e ∙ sym t'

-- ---- Check

module _ (room : Room) where
  abbrev Checking : CheckAnswer → Type 0
  Checking = Settled (Ok tt)

  check_tree : (r : CheckAnswer) → CheckReply room r → Refusals room Err Checking r
  check_tree (Ok tt) x = limits_through room Err _ x refl
  check_tree (Err r) x = refused room Err _ r x

  pub check_reply_one : (r r' : CheckAnswer) → CheckReply room r → CheckReply room r' → r ≡ r'
  check_reply_one r r' x y = refusals_one room Err Checking (settled_one _) r r' (check_tree r x) (check_tree r' y)

-- ---- Plan

module _ (room : Room) (table₀ plan₀ : List ℕ) where
  -- an answer that leaves the buffer as found
  abbrev kept : PlanAnswer → PlanAnswer × List ℕ
  kept r = (r, plan₀)

  abbrev undecided_plan : Undecided → PlanAnswer × List ℕ
  undecided_plan d = kept (Err d)

  -- the room has a plan that fits
  record Fitting : Type 0 where
    masks : List ℕ
    a : ℕ
    is : PlanIs room masks a
    fits : length masks ≤ length plan₀

  -- a count with a plan
  record Laid : Type 0 where
    n : ℕ
    masks : List ℕ
    a : ℕ

  abbrev TruePlan : Laid → Type 0
  TruePlan z = CountIs room z.n × PlanIs room z.masks z.a

  -- NONE, SHORT and GOOD, in this order
  abbrev Planning : PlanAnswer × List ℕ → Type 0
  Planning =
      Fork (Feasible room) (Leaf (CountIs room) (λ n. kept (Ok (planned.None n))))
      (Fork Fitting (Leaf (λ masks. (a : ℕ) × PlanIs room masks a) (λ masks. kept (Ok (planned.Short (length masks)))))
      (Leaf TruePlan (λ z. (Ok (planned.Good z.n z.a (length z.masks - z.a)), written z.masks plan₀))))

  true_plan_one : One TruePlan
  true_plan_one z z' x y =
      let n = counted_one z.n z'.n x.0 y.0 in
      let p = plan_one x.1 y.1 in
      λ j. record { n = n j; masks = p.0 j; a = p.1 j }

  planning_one : One Planning
  planning_one = fork_one (leaf_one _ counted_one) (fork_one (leaf_one _ (λ p p' x y. (plan_one x.1 y.1).0)) (leaf_one _ true_plan_one))

  abbrev PlanTree : PlanAnswer × List ℕ → Type 0
  PlanTree = Deciding room table₀ undecided_plan Planning

  plan_tree : (r : PlanAnswer) (plan : List ℕ) → PlanSays room table₀ plan₀ (planned_numbers r) r plan → PlanTree (r, plan)
  plan_tree (Ok (planned.Good n a c)) plan x = decided room table₀ undecided_plan _ x.decided (passes (plan_feasible x.is)
      (passes (record { masks = x.masks; a = a; is = x.is; fits = x.fits }) (record {
        value = record { n = n; masks = x.masks; a = a };
        holds = (x.decided.count, x.is);
        same = let e : c ≡ length x.masks - a = omega (arith, x.cycle) in λ j. (Ok (planned.Good n a (e j)), x.buffer j);
      })))
  plan_tree (Ok (planned.None n)) plan x =
      rw x.1 (decided room table₀ undecided_plan _ x.0.decided (fails x.0.infeasible (leaf _ n x.0.decided.count)))
  plan_tree (Err d) plan x = rw x.1 (not_decided room table₀ undecided_plan _ d x.0)
  plan_tree (Ok (planned.Short i)) plan x = decided room table₀ undecided_plan _ x.0.decided (passes (plan_feasible x.0.is)
      (fails (λ f. omega (arith, ap length (plan_one x.0.is f.is).0, x.0.short, f.fits)) (record {
        value = x.0.masks;
        holds = (x.0.a, x.0.is);
        same = λ j. (Ok (planned.Short (x.0.place j)), x.1 j);
      })))

  pub plan_reply_one : (r r' : PlanAnswer) (table table' plan plan' : List ℕ) → PlanReply room table₀ plan₀ r table plan
      → PlanReply room table₀ plan₀ r' table' plan' → (r ≡ r') × (table ≡ table') × (plan ≡ plan')
  plan_reply_one r r' table table' plan plan' x y =
      let d = parts (deciding_one room table₀ undecided_plan Planning planning_one _ _ (plan_tree r plan x.says) (plan_tree r' plan' y.says)) in
      (d.0, table_one planned_numbers table₀ d.0 x.table_is y.table_is, d.1)

-- ---- Judge

module _ (room : Room) (past table₀ : List ℕ) where
  -- a count with the length of a beginning
  record Left : Type 0 where
    n : ℕ
    i : ℕ

  abbrev TrueLeft : Left → Type 0
  TrueLeft z = CountIs room z.n × Outside room past z.i

  abbrev Judging : JudgeAnswer → Type 0
  Judging = Fork (Centre room past) (Leaf TrueLeft (λ z. Ok (judged.Out z.n z.i))) (Leaf (CountIs room) (λ n. Ok (judged.Good n)))

  true_left_one : One TrueLeft
  true_left_one z z' x y =
      let n = counted_one z.n z'.n x.0 y.0 in
      let i = outside_one z.i z'.i x.1 y.1 in
      λ j. record { n = n j; i = i j }

  judging_one : One Judging
  judging_one = fork_one (leaf_one _ true_left_one) (leaf_one _ counted_one)

  judge_tree : (r : JudgeAnswer) → JudgeSays room past table₀ (judged_numbers r) r → Deciding room table₀ Err Judging r
  judge_tree (Ok (judged.Good n)) x = decided room table₀ Err _ x.decided (passes x.centre (leaf _ n x.decided.count))
  judge_tree (Err d) x = not_decided room table₀ Err _ d x
  judge_tree (Ok (judged.Out n i)) x = decided room table₀ Err _ x.decided (fails (outside_not_centre x.outside)
      (leaf _ (record { n = n; i = i }) (x.decided.count, x.outside)))

  pub judge_reply_one : (r r' : JudgeAnswer) (table table' : List ℕ)
      → JudgeReply room past table₀ r table → JudgeReply room past table₀ r' table' → (r ≡ r') × (table ≡ table')
  judge_reply_one r r' table table' x y =
      let e = deciding_one room table₀ Err Judging judging_one _ _ (judge_tree r x.says) (judge_tree r' y.says) in
      (e, table_one judged_numbers table₀ e x.table_is y.table_is)

-- ---- Read

module _ (text : List ℕ) where
  abbrev ReadTree : ReadAnswer → Type 0
  ReadTree = Fork (GoodText text) (Leaf (FirstBadLine text) (λ i. Err (record { place = i }))) (Leaf (Read text) Ok)

  read_tree_one : One ReadTree
  read_tree_one = fork_one (leaf_one _ bad_line_one) (leaf_one _ read_one)

  read_tree : (r : ReadAnswer) → ReadReply text r → ReadTree r
  read_tree (Ok room) x = passes (record { room = room; carried = x.carried; same = x.same }) (leaf _ room x)
  read_tree (Err b) x = fails x.bad (leaf _ b.place x)

  pub read_reply_one : (r r' : ReadAnswer) → ReadReply text r → ReadReply text r' → r ≡ r'
  read_reply_one r r' x y = read_tree_one _ _ (read_tree r x) (read_tree r' y)

-- ---- Write

module _ (room : Room) (text₀ : List ℕ) where
  abbrev WriteTree : WriteAnswer × List ℕ → Type 0
  WriteTree =
      Fork (length (render room) ≤ length text₀) (Settled (Err (unwritten.Short (length (render room))), text₀))
      (Settled (Ok (length (render room)), written (render room) text₀))

  write_tree_one : One WriteTree
  write_tree_one = fork_one (settled_one _) (settled_one _)

  abbrev refusing : Refusal → WriteAnswer × List ℕ
  refusing r = (Err (unwritten.Refused r), text₀)

  write_tree : (r : WriteAnswer) (text : List ℕ) → WriteReply room text₀ r text → Refusals room refusing WriteTree (r, text)
  write_tree (Ok i) text x = limits_through room refusing _ x.limits
      (passes x.fits (λ j. (Ok (x.place j), x.buffer j)))
  write_tree (Err (unwritten.Refused r)) text x = rw x.1 (refused room refusing _ r x.0)
  write_tree (Err (unwritten.Short i)) text x = limits_through room refusing _ x.0.limits
      (fails (λ h. omega (arith, x.0.short)) (λ j. (Err (unwritten.Short (x.0.place j)), x.1 j)))

  pub write_reply_one : (r r' : WriteAnswer) (text text' : List ℕ)
      → WriteReply room text₀ r text → WriteReply room text₀ r' text' → (r ≡ r') × (text ≡ text')
  write_reply_one r r' text text' x y =
      parts (refusals_one room refusing WriteTree write_tree_one _ _ (write_tree r text x) (write_tree r' text' y))
