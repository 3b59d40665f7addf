-- A row is tested by computing: its room by the limits and the clock, the configurations by a certificate, which is searched for and tested
-- too, and the reply by that certificate. So a row costs no proof of its own. What passes is proved by what follows from a certificate.
--   alike, alike_eq, alike_refl   two lists of numbers are the same, as a test
--   same, same_eq, same_refl      two configurations are
--   certificate                   the rows found for a room of n configurations
--   room_test                      a room within the limits whose certificate has n configurations
--   good_test, none_test            what a reply to planning asks of it
--   accepted_test, out_test         what a reply to judging asks of it
--   plan_test, judge_test           the same by the case of the reply
--   row_test, table_test            a row, and all rows of a table
--   row_meets, table_meets        what passes meets what it says
use Prim.Native.Nat.{ℕ, ◌+◌, ◌≤◌, ◌<◌, ◌^◌}
use mathlib.Core.Path.{◌≡◌, refl, sym, ap, ◌∙◌, subst}
use mathlib.Core.Bool.{Bool, true, false}
use mathlib.Core.List.{List, [], ◌∷◌}
use mathlib.Core.List.Memᴰ.{head}
use mathlib.Core.List.Memᴰ.{tail}
use lib.ListN.{length}
use lib.Dec.{T, eqb, eqb→eq, eqb_refl}
use Rattle.std.specs.Prelude.{Ok}
use Rattle.paper.specs.declared.Room.{Room}
use Rattle.paper.specs.declared.Configuration.{Configuration}
use Rattle.paper.specs.declared.Planned.{Planned}
use Rattle.paper.specs.declared.Planned.TheVariants as planned
use Rattle.paper.specs.declared.Judged.{Judged}
use Rattle.paper.specs.declared.Judged.TheVariants as judged
use Rattle.paper.specs.Room.{Clock, Limits}
use Rattle.paper.specs.Centre.{Centre, Outside}
use Rattle.paper.specs.Configuration.{Counted}
use Rattle.paper.specs.Reply.{planned_numbers, judged_numbers, most, W, PlanIs, Decided}
use Rattle.paper.specs.Rows.{Row, planning, judging, Meets}
use Rattle.laws.specs.Lists.{◌∈◌}
use Rattle.laws.specs.Tests.{both}
use Rattle.laws.specs.Check.{Found, row_at, good?}
use Rattle.laws.specs.Trails.{trail_masks, turns?}
use Rattle.laws.specs.Judge.{inside?, lost?, outside?}
use Rattle.laws.proofs.Tests.{and_T, T_and}
use Rattle.laws.proofs.Bits.{below_of_bits}
use Rattle.laws.proofs.Lists.{beginning_length}
use Rattle.laws.proofs.Trails.{masks_length}
use Rattle.laws.proofs.Check.{checked, row_plan}
use Rattle.laws.proofs.Judge.{T_inside, T_lost, T_outside}
use Rattle.paper.specs.Steps.{step, begin}
use Rattle.paper.specs.Tests.{test}
use Rattle.paper.proofs.Tests.{test_allowed}
use Rattle.paper.proofs.Pasts.{past_centre, past_outside}
use Rattle.paper.proofs.Certificates.{certified_count}
use Rattle.paper.proofs.Plans.{plan_of}
use Rattle.paper.proofs.Searches.{search}
use Rattle.paper.proofs.Limits.{times, clock_test, limits_test, T_clock, T_limits}

-- ---- Two configurations

unfoldable pub alike : List ℕ → List ℕ → Bool
alike [] [] = true
alike [] (y ∷ k) = false
alike (x ∷ l) [] = false
alike (x ∷ l) (y ∷ k) = both (eqb x y) (alike l k)

pub alike_eq : (l k : List ℕ) → T (alike l k) → l ≡ k
unfolding alike
alike_eq [] [] t = refl
alike_eq [] (y ∷ k) t = absurd t
alike_eq (x ∷ l) [] t = absurd t
alike_eq (x ∷ l) (y ∷ k) t = let p = T_and _ _ t in λ i. eqb→eq x y p.0 i ∷ alike_eq l k p.1 i

pub alike_refl : (l : List ℕ) → T (alike l l)
unfolding alike
alike_refl [] = tt
alike_refl (x ∷ l) = and_T _ _ (eqb_refl x) (alike_refl l)

unfoldable pub same : Configuration → Configuration → Bool
same c d = both (eqb c.position d.position) (alike c.done d.done)

pub same_eq : (c d : Configuration) → T (same c d) → c ≡ d
unfolding same
same_eq c d t =
    let p = T_and _ _ t in
    λ i. record { position = eqb→eq c.position d.position p.0 i; done = alike_eq c.done d.done p.1 i }

pub same_refl : (c : Configuration) → T (same c c)
unfolding same
same_refl c = and_T _ _ (eqb_refl c.position) (alike_refl c.done)

-- ---- The tests

module _ (room : Room) where
  abbrev moves : Configuration → ℕ → Configuration
  moves = step room (times room)

  -- no mask with a bit at or above n passes
  abbrev bound : ℕ
  bound = 2 ^ room.jobs

  unfoldable pub certificate : ℕ → List (Found Configuration)
  certificate n = search same (test room) moves begin bound n

  module _ (found : List (Found Configuration)) where
    abbrev mask : ℕ → ℕ
    mask j = (row_at begin found j).mask

    abbrev leads : ℕ → ℕ
    leads j = (row_at begin found j).leads

    unfoldable pub room_test : ℕ → Bool
    room_test n = both (limits_test room) (both (clock_test room) (both (good? same (test room) moves begin bound found) (eqb (length found) n)))

    unfoldable pub good_test : List ℕ → ℕ → ℕ → Bool
    good_test masks a c = both (row_at begin found 0).living (both (turns? leads 0 a (a + c)) (alike masks (trail_masks mask leads 0 (a + c))))

    unfoldable pub none_test : List ℕ → Bool
    none_test masks = both (lost? same (test room) moves begin found []) (alike masks [])

    unfoldable pub accepted_test : List ℕ → Bool
    accepted_test past = inside? same (test room) moves begin found past

    unfoldable pub out_test : List ℕ → ℕ → Bool
    out_test past i = outside? same (test room) moves begin found past i

    unfoldable pub plan_test : List ℕ → Planned → Bool
    plan_test masks (planned.Good n a c) = good_test masks a c
    plan_test masks (planned.None n) = none_test masks
    plan_test masks (planned.Short i) = false

    unfoldable pub judge_test : List ℕ → Judged → Bool
    judge_test past (judged.Good n) = accepted_test past
    judge_test past (judged.Out n i) = out_test past i

unfoldable pub row_test : Row → Bool
row_test (planning room reply masks) =
    let found = certificate room (planned_numbers (Ok reply)).count in
    both (room_test room found (planned_numbers (Ok reply)).count) (plan_test room found masks reply)
row_test (judging room past reply) =
    let found = certificate room (judged_numbers (Ok reply)).count in
    both (room_test room found (judged_numbers (Ok reply)).count) (judge_test room found past reply)

unfoldable pub table_test : List Row → Bool
table_test [] = true
table_test (r ∷ l) = both (row_test r) (table_test l)

-- ---- What passes

module _ (room : Room) (found : List (Found Configuration)) (n : ℕ) (t : T (room_test room found n)) where
  clock : Clock room (times room)
  unfolding room_test
  clock = T_clock room (T_and _ _ (T_and _ _ t).1).0

  limits : Limits room
  unfolding room_test
  limits = T_limits room (T_and _ _ t).0 clock

  right : T (good? same (test room) (moves room) begin (bound room) found)
  unfolding room_test
  right = (T_and _ _ (T_and _ _ (T_and _ _ t).1).1).0

  size : length found ≡ n
  unfolding room_test
  size = eqb→eq _ _ (T_and _ _ (T_and _ _ (T_and _ _ t).1).1).1

  below : (c : Configuration) (m : ℕ) → T (test room c m) → m < bound room
  below c m u = below_of_bits m room.jobs ((test_allowed room c m).0 u).engines.known

  counted : Counted room (times room) n
  counted = subst (Counted room (times room)) (beginning_length _ (length found) ∙ size)
      (certified_count limits clock (checked same same_eq (test room) (moves room) begin (bound room) below found right same_refl))

  in_centre : (l : List ℕ) → T (inside? same (test room) (moves room) begin found l) → Centre room l
  in_centre l u = (past_centre limits clock l).1 (T_inside same same_eq (test room) (moves room) begin (bound room) below found right same_refl l u)

  not_in_centre : (l : List ℕ) → T (lost? same (test room) (moves room) begin found l) → ¬ Centre room l
  not_in_centre l u c =
      T_lost same same_eq (test room) (moves room) begin (bound room) below found right same_refl l u ((past_centre limits clock l).0 c)

  out_at : (l : List ℕ) (i : ℕ) → T (outside? same (test room) (moves room) begin found l i) → Outside room l i
  out_at l i u = (past_outside limits clock l i).1 (T_outside same same_eq (test room) (moves room) begin (bound room) below found right same_refl l i u)

  -- the masks that the rows lead through are the plan
  plan_is : (masks : List ℕ) (a b : ℕ) → T (row_at begin found 0).living → T (turns? (leads room found) 0 a b)
      → masks ≡ trail_masks (mask room found) (leads room found) 0 b → length masks ≡ b → PlanIs room masks a
  plan_is masks a b v u e long =
      let plan = row_plan same same_eq (test room) (moves room) begin (bound room) below found right same_refl a b v u in
      record { times = times room; clock = clock; plan = plan_of limits clock (rw (long, e) plan) }

  decided : (table₀ : List ℕ) → length table₀ ≤ most → n ≤ W table₀ → Decided room table₀ n
  decided table₀ h w = record { limits = limits; lent = h; count = record { times = times room; clock = clock; counted = counted }; fits = w }

  plan_good : (masks : List ℕ) (a c : ℕ) → T (good_test room found masks a c) → Meets (planning room (planned.Good n a c) masks)
  unfolding good_test
  plan_good masks a c u table₀ plan₀ h w fits =
      let p = T_and _ _ u in
      let q = T_and _ _ p.1 in
      let e = alike_eq masks _ q.1 in
      let long = ap length e ∙ masks_length (mask room found) (leads room found) 0 (a + c) in
      let is = plan_is masks a (a + c) p.0 q.0 e long in
      record {
        says = record { decided = decided table₀ h w; masks = masks; is = is; cycle = long; fits = fits; buffer = refl };
        table_is = refl;
      }

  plan_none : (masks : List ℕ) → T (none_test room found masks) → Meets (planning room (planned.None n) masks)
  unfolding none_test
  plan_none masks u table₀ plan₀ h w fits =
      let p = T_and _ _ u in
      record {
        says = (record { decided = decided table₀ h w; infeasible = not_in_centre [] p.0 }, rw (alike_eq masks [] p.1));
        table_is = refl;
      }

  judge_good : (past : List ℕ) → T (accepted_test room found past) → Meets (judging room past (judged.Good n))
  unfolding accepted_test
  judge_good past u table₀ h w = record { says = record { decided = decided table₀ h w; centre = in_centre past u }; table_is = refl }

  judge_out : (past : List ℕ) (i : ℕ) → T (out_test room found past i) → Meets (judging room past (judged.Out n i))
  unfolding out_test
  judge_out past i u table₀ h w = record { says = record { decided = decided table₀ h w; outside = out_at past i u }; table_is = refl }

module _ (room : Room) (found : List (Found Configuration)) where
  plan_meets : (masks : List ℕ) (r : Planned) → T (room_test room found (planned_numbers (Ok r)).count) → T (plan_test room found masks r)
      → Meets (planning room r masks)
  unfolding plan_test
  plan_meets masks (planned.Good n a c) t u = plan_good room found n t masks a c u
  plan_meets masks (planned.None n) t u = plan_none room found n t masks u
  plan_meets masks (planned.Short i) t u = absurd u

  judge_meets : (past : List ℕ) (r : Judged) → T (room_test room found (judged_numbers (Ok r)).count) → T (judge_test room found past r)
      → Meets (judging room past r)
  unfolding judge_test
  judge_meets past (judged.Good n) t u = judge_good room found n t past u
  judge_meets past (judged.Out n i) t u = judge_out room found n t past i u

pub row_meets : (r : Row) → T (row_test r) → Meets r
unfolding row_test
row_meets (planning room reply masks) t = let p = T_and _ _ t in plan_meets room _ masks reply p.0 p.1
row_meets (judging room past reply) t = let p = T_and _ _ t in judge_meets room _ past reply p.0 p.1

member_meets : (r : Row) {l : List Row} → r ∈ l → T (table_test l) → Meets r
unfolding table_test
member_meets r (head {x = x} e) t = subst Meets (sym e) (row_meets x (T_and _ _ t).0)
member_meets r (tail p) t = member_meets r p (T_and _ _ t).1

pub table_meets : {l : List Row} → T (table_test l) → (r : Row) → r ∈ l → Meets r
table_meets t r p = member_meets r p t
