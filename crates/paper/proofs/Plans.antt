-- The plan, for ever: a list of masks follows the greatest ones exactly if it is a greedy walk, so the paper's plan is that of crate laws.
-- Every room within the limits has a certificate; so each feasible one has its plan, and a past in the centre goes on as a prefix and a cycle.
--   Follows                 each mask is the greatest after its beginning
--   for_ever_centre         a past that goes on for ever is in the centre, in any room
--   greedy_follows, follows_greedy   greedy walks
--   plan_of, of_plan        plans
--   plan_for_ever           prefix and cycle of a plan, the cycle n times: admissible, and made of greatest masks
--   plan_exists             a feasible room has a plan, no longer than its count
--   centre_goes_on          a past in the centre goes on as a prefix and a cycle, and stays there
--   centre_for_ever         a past is in the centre exactly if it goes on so for ever
--   centre_further          it has continuations in the centre as long as one likes
--   feasible_endless        a room is feasible exactly if an endless schedule exists
use Prim.Native.Nat.{ℕ, ◌≤◌, ◌<◌}
use native.Mathlib.Omega.{arith}
use native.Mathlib.Nat.{mul-le-mul_left}
use mathlib.Core.Path.{◌≡◌, refl, sym, subst}
use mathlib.Core.Logic.{◌↔◌}
use mathlib.Core.Bool.{Bool}
use mathlib.Core.List.{List, [], ◌∷◌, ◌++◌, append_assoc}
use lib.ListN.{length, take, drop, get_or, length-append, take-append-drop, get_or-append}
use lib.Seq.{drop-cons, take-append-le, take-append_seam, get_or-append_seam}
use Rattle.paper.specs.declared.Room.{Room}
use Rattle.paper.specs.declared.Times.{Times}
use Rattle.paper.specs.Room.{Clock, Limits}
use Rattle.paper.specs.Centre.{repeated, beginning, Centre, Feasible, Endless, ForEver}
use Rattle.paper.specs.Configuration.{configuration, Counted}
use Rattle.paper.specs.Plan.{Greatest, Plan}
use Rattle.paper.specs.Reply.{CountIs}
use Rattle.laws.specs.Walks.{after}
use Rattle.laws.specs.Forever.{Greedy}
use Rattle.laws.specs.Forever.Greedy.{end, pick}
use Rattle.laws.specs.Certificate.{Greatest as GreatestAt}
use Rattle.laws.specs.Forever as walks
use Rattle.laws.proofs.Lists.{from_back, length_more, length_repeated, beginning_length}
use Rattle.laws.proofs.Repeats.{first_along}
use Rattle.laws.proofs.Forever.{greedy_walk, greedy_append, greedy_parts, plan_forever, feasible_plan, feasible_iff_endless, continues}
use Rattle.paper.specs.Steps.{step, begin}
use Rattle.paper.specs.Tests.{test}
use Rattle.paper.proofs.Beginnings.{beginning_admissible, take_admissible}
use Rattle.paper.proofs.Clocks.{clock_exists}
use Rattle.paper.proofs.Uniques.{counted_one}
use Rattle.paper.proofs.Pasts.{at_after, past_walk, past_centre, past_greatest}
use Rattle.paper.proofs.Certificates.{same_configuration, certified_count, room_certified}

abbrev pub Follows : Room → List ℕ → Type 0
Follows room l = (t : ℕ) → t < length l → Greatest room (take t l) (get_or l t 0)

-- of the last mask
follows_last : {room : Room} (l : List ℕ) (m : ℕ) → Follows room (l ++ (m ∷ [])) → Greatest room l m
follows_last {room} l m f =
    subst (λ (x : List ℕ). Greatest room x m) (take-append_seam l (m ∷ []))
    (subst (λ (x : ℕ). Greatest room (take (length l) (l ++ (m ∷ []))) x) (get_or-append_seam l m [] 0) (f (length l) (rw length_more (omega arith))))

follows_before : {room : Room} (l : List ℕ) (m : ℕ) → Follows room (l ++ (m ∷ [])) → Follows room l
follows_before {room} l m f t h =
    rw (take-append-le t l (m ∷ []) (omega arith), get_or-append l (m ∷ []) 0 t h) at (f t (rw length_more (omega arith)))

rounds_long : (prefix cycle : List ℕ) → 0 < length cycle → (n : ℕ) → n ≤ length (prefix ++ repeated n cycle)
rounds_long prefix cycle h n = let e = mul-le-mul_left n h in simp (length-append, length_repeated) (omega arith)

-- a past that goes on for ever is in the centre, in any room
pub for_ever_centre : {room : Room} (l prefix cycle : List ℕ) → ForEver room l prefix cycle → Centre room l
for_ever_centre {room} l prefix cycle f = record {
  admissible = beginning_admissible room l (prefix ++ repeated 0 cycle) (rw append_assoc at (f.keeps 0));
  continues = λ n. record { rest = prefix ++ repeated n cycle; long = rounds_long prefix cycle f.turns n; keeps = rw append_assoc at (f.keeps n) };
}

first_greatest : {C : Type 0} {test : C → ℕ → Bool} {step : C → ℕ → C} {c : C} {m : ℕ} {l : List ℕ} → Greedy test step c (m ∷ l) → GreatestAt test step c m
first_greatest (pick g w) = g

module _ {room : Room} (limits : Limits room) {times : Times} (clock : Clock room times) where
  -- ---- Greedy walks

  pub greedy_follows : (l : List ℕ) → Greedy (test room) (step room times) begin l → Follows room l
  greedy_follows l g t h =
      let parts = greedy_parts (test room) (step room times) begin (take t l) (drop t l) (rw take-append-drop g) in
      let a = (past_walk limits clock (take t l)).1 (greedy_walk (test room) (step room times) parts.0) in
      (past_greatest limits clock (take t l) (get_or l t 0) a).1
      (rw (at_after limits clock (take t l)) (first_greatest (rw (drop-cons l t 0 h) at parts.1)))

  pub follows_greedy : (l : List ℕ) → Follows room l → Greedy (test room) (step room times) begin l
  follows_greedy = from_back (λ (l : List ℕ). Follows room l → Greedy (test room) (step room times) begin l) (λ f. end)
      (λ l m back f.
      let g = follows_last l m f in
      let a = beginning_admissible room l (m ∷ []) g.stays.admissible in
      greedy_append (test room) (step room times) (back (follows_before l m f))
      (pick (rw (at_after limits clock l) at ((past_greatest limits clock l m a).0 g)) end))

  -- ---- Plans

  configurations : (l : List ℕ) (t : ℕ) → configuration room times (take t l) ≡ after (step room times) begin (take t l)
  configurations l t = at_after limits clock (take t l)

  pub plan_of : {masks : List ℕ} {a : ℕ} → walks.Plan (test room) (step room times) begin a (length masks) masks → Plan room times masks a
  plan_of {masks} {a} p = record {
    follows = greedy_follows masks p.greedy;
    turns = first_along _ _ (λ t h. sym (configurations masks t)) p.turns;
  }

  pub of_plan : {masks : List ℕ} {a : ℕ} → Plan room times masks a → walks.Plan (test room) (step room times) begin a (length masks) masks
  of_plan {masks} {a} p = record {
    greedy = follows_greedy masks p.follows;
    long = refl;
    turns = first_along _ _ (λ t h. configurations masks t) p.turns;
  }

  -- every beginning of prefix, cycle, cycle, .. is a past made of greatest masks
  pub plan_for_ever : {masks : List ℕ} {a : ℕ} → Plan room times masks a
      → ForEver room [] (take a masks) (drop a masks) × ((n : ℕ) → Follows room (take a masks ++ repeated n (drop a masks)))
  plan_for_ever {masks} {a} p =
      let f = plan_forever (test room) (step room times) (of_plan p) in (
        record { turns = f.moves; keeps = λ n. (past_walk limits clock _).1 (greedy_walk (test room) (step room times) (f.greedy n)) },
        λ n. greedy_follows _ (f.greedy n),
      )

  -- ---- Every room within the limits

  pub plan_exists : {n : ℕ} → Counted room times n → Feasible room → (masks : List ℕ) × (a : ℕ) × (length masks ≤ n) × Plan room times masks a
  plan_exists {n} counted c =
      let z = room_certified limits clock in
      let r = feasible_plan (test room) (step room times) z.1 same_configuration ((past_centre limits clock []).0 c) in
      let size : length z.0 ≡ n = counted_one _ _ (count_is (certified_count limits clock z.1)) (count_is counted) in
      let e : length r.2 ≡ r.1 = r.4.long in
      let h : r.1 ≤ length z.0 = r.3 in
      (r.2, r.0, omega arith, plan_of (rw e r.4))
    where
      count_is : {n : ℕ} → Counted room times n → CountIs room n
      count_is x = record { times = times; clock = clock; counted = x }

module _ {room : Room} (limits : Limits room) where
  pub centre_goes_on : (l : List ℕ) → Centre room l
      → (prefix : List ℕ) × (cycle : List ℕ) × (0 < length cycle) × ((n : ℕ) → Centre room (l ++ (prefix ++ repeated n cycle)))
  centre_goes_on l c =
      let x = clock_exists limits in
      let z = room_certified limits x.1 in
      let r = continues (test room) (step room x.0) z.1 same_configuration l ((past_centre limits x.1 l).0 c) in
      (r.0, r.1, r.2, λ n. (past_centre limits x.1 _).1 (r.3 n))

  pub centre_for_ever : (l : List ℕ) → Centre room l ↔ ((prefix : List ℕ) × (cycle : List ℕ) × ForEver room l prefix cycle)
  centre_for_ever l = (
    λ c. let r = centre_goes_on l c in (r.0, r.1, record { turns = r.2; keeps = λ n. rw append_assoc (r.3 n).admissible }),
    λ r. for_ever_centre l r.0 r.1 r.2,
  )

  pub centre_further : (l : List ℕ) → Centre room l → (n : ℕ) → (r : List ℕ) × (n ≤ length r) × Centre room (l ++ r)
  centre_further l c n = let r = centre_goes_on l c in (r.0 ++ repeated n r.1, rounds_long r.0 r.1 r.2 n, r.3 n)

  pub feasible_endless : Feasible room ↔ ((s : ℕ → ℕ) × Endless room s)
  feasible_endless =
      let x = clock_exists limits in
      let z = room_certified limits x.1 in (
        λ c. let s = (feasible_iff_endless (test room) (step room x.0) z.1).0 ((past_centre limits x.1 []).0 c) in
            (s.0, λ n. (past_walk limits x.1 _).1 (s.1 n).0),
        λ s. record {
          admissible = take_admissible room (beginning s.0 1) 0 (s.1 1);
          continues = λ n. record { rest = beginning s.0 n; long = rw beginning_length (omega arith); keeps = s.1 n };
        },
      )
