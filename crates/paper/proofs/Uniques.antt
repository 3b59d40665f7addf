-- What the definitions fix: a room has one count, one plan and one place for each refusal, and a past one shortest beginning outside the centre.
-- Two plans go together slot by slot, since the greatest mask is one, and so meet their first configuration twice at the same slots.
--   same_clock           what holds at a clock of a room holds at any other
--   counted_one          a room has one count
--   more_than_counted    a room of at most w configurations does not exceed w
--   greatest_one         a past has one greatest mask
--   plan_one             a room has one plan, with one length of its prefix
--   centre_beginning     a beginning of a past in the centre is in the centre
--   plan_feasible        a room with a plan is feasible
--   outside_one          a past has one shortest beginning outside the centre
--   outside_not_centre   and is then not in the centre itself
--   least_bad_one        a row has one least bad entry
--   first_bad_one        and one place for too many entries or a bad one
--   first_bad_not_fit    it is then not short enough with all entries good
--   passes_one           there is one job at which the multiple passes 4,096
--   passes_long          and H is then above 4,096
use Prim.Native.Nat.{ℕ, zero, suc, ◌+◌, ◌≤◌, ◌<◌}
use native.Mathlib.Omega.{arith}
use native.Mathlib.Nat.{le_refl}
use mathlib.Core.Path.{◌≡◌, refl, sym, ap, ◌∙◌, subst}
use mathlib.Core.Logic.{⊎_elim}
use mathlib.Core.List.{List, [], ◌∷◌, ◌++◌, append_assoc}
use lib.ListN.{length, take, drop, get_or, length-append, take-append-drop}
use lib.Seq.{take-suc, take-length, take_all}
use Rattle.paper.specs.declared.Room.{Room}
use Rattle.paper.specs.declared.Times.{Times}
use Rattle.paper.specs.declared.Configuration.{Configuration}
use Rattle.paper.specs.Room.{Multiple, Clock}
use Rattle.paper.specs.Centre.{Centre, Feasible, Outside}
use Rattle.paper.specs.Configuration.{configuration, Reached, Counted}
use Rattle.paper.specs.Plan.{Greatest, Plan}
use Rattle.paper.specs.Reply.{LeastBad, FirstBad, many, one, Passes, CountIs, PlanIs, Exceeds}
use Rattle.laws.specs.Multiples.{LeastCommon}
use Rattle.laws.specs.Forks.{One}
use Rattle.laws.proofs.Tests.{lt_or_le}
use Rattle.laws.proofs.Lists.{same_length, too_many}
use Rattle.laws.proofs.Repeats.{first_unique, first_along}
use Rattle.laws.proofs.Multiples.{common_fewer}
use Rattle.laws.proofs.Forks.{first_failure_one}
use Rattle.paper.proofs.Clocks.{clock_one}
use Rattle.paper.proofs.Beginnings.{beginning_admissible}

-- ---- Count and size

module _ {room : Room} where
  pub same_clock : (Q : Times → Type 0) {times times' : Times} → Clock room times → Clock room times' → Q times → Q times'
  same_clock Q c d q = subst Q (clock_one c d) q

  pub counted_one : One (CountIs room)
  counted_one n n' x y =
      let c = same_clock (λ times. Counted room times n) x.clock y.clock x.counted in
      let d = y.counted in
      sym c.size
      ∙ same_length c.distinct d.distinct (λ k. (λ p. d.complete k (c.reached k p), λ p. c.complete k (d.reached k p)))
      ∙ d.size

  pub more_than_counted : {n w : ℕ} → CountIs room n → n ≤ w → ¬ Exceeds room w
  more_than_counted {n} {w} x h y =
      let c = same_clock (λ times. Counted room times n) x.clock y.clock x.counted in
      let m = y.more in
      too_many (Reached room y.times) w m.distinct m.reached m.many c.all (omega (arith, c.size)) c.complete

-- ---- The plan

pub greatest_one : {room : Room} {l : List ℕ} → One (Greatest room l)
greatest_one m m' x y = omega (arith, x.greatest m' y.stays, y.greatest m x.stays)

module _ {room : Room} {times : Times} {p p' : List ℕ} {a a' : ℕ} (x : Plan room times p a) (y : Plan room times p' a') where
  -- two plans go together as far as both go
  together_more : (t : ℕ) → t < length p → t < length p' → take t p ≡ take t p' → take (suc t) p ≡ take (suc t) p'
  together_more t h g e =
      let m = greatest_one (get_or p t 0) (get_or p' t 0) (x.follows t h) (rw e (y.follows t g)) in
      rw (take-suc p t 0 h, take-suc p' t 0 g, e, m)

  together : (t : ℕ) → t ≤ length p → t ≤ length p' → take t p ≡ take t p'
  together zero h g = refl
  together (suc t) h g = together_more t (omega arith) (omega arith) (together t (omega arith) (omega arith))

  abbrev after : List ℕ → ℕ → Configuration
  after l t = configuration room times (take t l)

  -- so the longer one meets a configuration twice where the shorter one does
  shorter_plan : length p ≤ length p' → (p ≡ p') × (a ≡ a')
  shorter_plan h =
      let s = first_along (after p) (after p') (λ t l. ap (configuration room times) (together t l (omega arith))) x.turns in
      let u = first_unique (after p') s y.turns in
      (sym (take-length p) ∙ together (length p) (le_refl (length p)) h ∙ take_all (length p) p' (omega (arith, u.1)), u.0)

pub plan_one : {room : Room} {p p' : List ℕ} {a a' : ℕ} → PlanIs room p a → PlanIs room p' a' → (p ≡ p') × (a ≡ a')
plan_one {room} {p} {p'} {a} x y =
    let z = same_clock (λ times. Plan room times p a) x.clock y.clock x.plan in
    ⊎_elim
    (λ (h : length p < length p'). shorter_plan z y.plan (omega arith))
    (λ (h : length p' ≤ length p). let s = shorter_plan y.plan z h in (sym s.0, sym s.1))
    (lt_or_le (length p) (length p'))

-- ---- The centre

pub centre_beginning : (room : Room) (l r : List ℕ) → Centre room (l ++ r) → Centre room l
centre_beginning room l r c = record {
  admissible = beginning_admissible room l r c.admissible;
  continues = λ n. let y = c.continues n in record {
    rest = r ++ y.rest;
    long = omega (arith, length-append r y.rest);
    keeps = rw (← append_assoc l r y.rest) y.keeps;
  };
}

module _ {room : Room} where
  pub plan_feasible : {p : List ℕ} {a : ℕ} → PlanIs room p a → Feasible room
  plan_feasible {p} x = centre_beginning room [] (get_or p 0 0 ∷ []) (x.plan.follows 0 (omega (arith, x.plan.turns.earlier))).stays

  module _ {l : List ℕ} where
    pub outside_one : One (Outside room l)
    outside_one n n' x y = first_failure_one (λ t. Centre room (take t l)) x.outside x.shortest y.outside y.shortest

    pub outside_not_centre : {n : ℕ} → Outside room l n → ¬ Centre room l
    outside_not_centre {n} x c = x.outside (centre_beginning room (take n l) (drop n l) (rw take-append-drop c))

-- ---- The places of the refusals

module _ {Fine : ℕ → Type 0} {n : ℕ} where
  pub least_bad_one : One (LeastBad Fine n)
  least_bad_one i i' x y = first_failure_one Fine x.bad x.earlier y.bad y.earlier

  module _ {most : ℕ} where
    pub first_bad_one : One (FirstBad Fine n most)
    first_bad_one i i' (many h e) (many g d) = omega arith
    first_bad_one i i' (many h e) (one g y) = absurd (omega arith)
    first_bad_one i i' (one h x) (many g d) = absurd (omega arith)
    first_bad_one i i' (one h x) (one g y) = least_bad_one i i' x y

    pub first_bad_not_fit : {i : ℕ} → FirstBad Fine n most i → ¬ ((n ≤ most) × ((q : ℕ) → q < n → Fine q))
    first_bad_not_fit (many h e) f = omega arith
    first_bad_not_fit (one {i} h x) f = x.bad (f.1 i x.below)

-- the least common multiple of more numbers is no less
least_fewer : {f : ℕ → ℕ} {n m h k : ℕ} → n ≤ m → LeastCommon f n h → LeastCommon f m k → h ≤ k
least_fewer {f} {n} {m} {h} {k} l a b = a.least k b.positive (common_fewer f n m k l b.common)

module _ {room : Room} where
  pub passes_one : One (Passes room)
  passes_one i i' x y = first_failure_one Low (high x) (low x) (high y) (low y)
    where
      -- the multiple of jobs 0 to k has not passed 4,096
      Low : ℕ → Type 0
      Low k = (h : ℕ) → Multiple room (k + 1) h → h ≤ 4096

      high : {i : ℕ} → Passes room i → ¬ Low i
      high x f = omega (arith, f x.h' x.with)

      low : {i : ℕ} → Passes room i → (k : ℕ) → k < i → Low k
      low x k l h a = omega (arith, least_fewer (omega arith) a x.until)

  pub passes_long : {i H : ℕ} → Passes room i → Multiple room room.jobs H → 4096 < H
  passes_long x a = omega (arith, least_fewer (omega (arith, x.known)) x.with a)
