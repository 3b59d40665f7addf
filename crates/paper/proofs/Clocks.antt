-- R and H of a room. A room within the limits has one clock, and it is short.
--   multiple_one, greatest_first_one, clock_one   H, R and the clock are one
--   greatest_first_exists, clock_exists           a room with jobs has an R, one within the limits a clock
--   period_positive                               no period is 0
--   clock_short                                   R is at most 255, H at most 4,096
use Prim.Native.Nat.{ℕ, suc, ◌-◌, ◌≤◌, ◌<◌}
use native.Mathlib.Omega.{arith}
use mathlib.Core.Path.{◌≡◌}
use Rattle.paper.specs.declared.Room.{Room}
use Rattle.paper.specs.declared.Times.{Times}
use Rattle.paper.specs.Room.{first, period, Multiple, GreatestFirst, Clock, Limits}
use Rattle.laws.proofs.Greatest.{greatest_exists}
use Rattle.laws.proofs.Multiples.{least_one}

-- ---- One clock

pub multiple_one : (room : Room) {n h h' : ℕ} → Multiple room n h → Multiple room n h' → h ≡ h'
multiple_one room x y = least_one x y

module _ {room : Room} where
  pub greatest_first_one : {R R' : ℕ} → GreatestFirst room R → GreatestFirst room R' → R ≡ R'
  greatest_first_one x y = omega (arith, x.bound y.which y.known, y.bound x.which x.known)

  pub clock_one : {times times' : Times} → Clock room times → Clock room times' → times ≡ times'
  clock_one x y =
      let r = greatest_first_one x.greatest y.greatest in
      let h = multiple_one room x.multiple y.multiple in
      λ i. record { first = r i; multiple = h i }

-- ---- There is one

pub greatest_first_exists : (room : Room) → 1 ≤ room.jobs → (R : ℕ) × GreatestFirst room R
greatest_first_exists room h =
    let e : suc (room.jobs - 1) ≡ room.jobs = omega arith in
    let b = rw e at (greatest_exists (first room) (room.jobs - 1)) in
    let g = b.1 in
    (b.0, record { bound = g.bound; which = g.which; known = g.known; same = g.same })

pub clock_exists : {room : Room} → Limits room → (times : Times) × Clock room times
clock_exists {room} limits =
    let g = greatest_first_exists room limits.jobs.0 in
    (record { first = g.0; multiple = limits.H }, record { greatest = g.1; multiple = limits.multiple })

-- ---- It is short

module _ {room : Room} (limits : Limits room) where
  pub period_positive : (i : ℕ) → i < room.jobs → 0 < period room i
  period_positive i h = let j = limits.job i h in omega arith

  pub clock_short : {times : Times} → Clock room times → (times.first ≤ 255) × (times.multiple ≤ 4096)
  clock_short x =
      let g = x.greatest in (
        omega (arith, (limits.job g.which g.known).early),
        omega (arith, multiple_one room x.multiple limits.multiple),
      )
