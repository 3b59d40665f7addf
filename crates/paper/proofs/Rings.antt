-- Links that form a ring are allowed; such a room is infeasible. A receiver runs a unit of its instance 0 only after its sender has run all of
-- its own, and in a ring that sender is a receiver too: so no one is ever the first, and at its deadline each is late.
--   awaited_first     a receiver's instance 0 waits for its sender's instance 0
--   ring_before       each link of a ring has one before it
--   Idle, ring_idle   in an admissible past no receiver of a ring has run a unit of its instance 0
--   ring_infeasible   a room whose links form a ring is infeasible
use Prim.Native.Nat.{ℕ, zero, suc, ◌+◌, ◌-◌, ◌≤◌, ◌<◌}
use native.Mathlib.Omega.{arith}
use native.Mathlib.Numerals.{add-one}
use mathlib.Core.Path.{◌≡◌, ap, ◌∙◌}
use mathlib.Core.Logic.{◌⊎◌, inl, inr}
use mathlib.Core.List.{List, [], ◌∷◌, ◌++◌}
use Rattle.paper.specs.declared.Room.{Room}
use Rattle.paper.specs.declared.Link.{Link}
use Rattle.paper.specs.Room.{link, awaited, Ring, Limits}
use Rattle.paper.specs.Past.{bit, due, units, Admissible}
use Rattle.paper.specs.Centre.{Feasible}
use Rattle.laws.proofs.Tests.{lt_or_le}
use Rattle.laws.proofs.Lists.{from_back}
use Rattle.laws.proofs.Bits.{bit_lt}
use Rattle.paper.proofs.Units.{units_unborn, due_is, Under, inside, outside, under}
use Rattle.paper.proofs.Beginnings.{slots_last, admissible_before}

awaited_first : (room : Room) (k : Link) → awaited room k 0 ≡ 0
awaited_first room k = omega arith

module _ {room : Room} (limits : Limits room) (ring : Ring room) where
  -- the two jobs of the link at place t of the ring
  abbrev sender : ℕ → ℕ
  sender t = (link room (ring.at t)).sender

  abbrev receiver : ℕ → ℕ
  receiver t = (link room (ring.at t)).receiver

  ring_before : (t : ℕ) → t < ring.size → (s : ℕ) × (s < ring.size) × (receiver s ≡ sender t)
  ring_before zero h =
      let last = ring.size - 1 in
      let e : last + 1 ≡ ring.size = omega arith in
      (last, omega arith, ring.joined last (omega arith) ∙ ap sender e ∙ ap (λ (q : ℕ). (link room q).sender) ring.closes)
  ring_before (suc t) h = (t, omega arith, rw add-one at (ring.joined t (omega arith)))

  -- no receiver of the ring has run a unit of its instance 0
  abbrev Idle : List ℕ → Type 0
  Idle l = (t : ℕ) → t < ring.size → units room l (receiver t) 0 ≡ 0

  -- one that ran now would have a sender that had all its units
  idle_more : (l : List ℕ) (m : ℕ) → Admissible room (l ++ (m ∷ [])) → Idle l → Idle (l ++ (m ∷ []))
  idle_more l m a idle t h = go (under room l m (receiver t) 0) (lt_or_le (bit m (receiver t)) 1)
    where
      go : Under room l m (receiver t) 0 → (bit m (receiver t) < 1) ⊎ (1 ≤ bit m (receiver t)) → units room (l ++ (m ∷ [])) (receiver t) 0 ≡ 0
      go (outside n e) b = e ∙ idle t h
      go (inside c e) (inl b) = omega (arith, idle t h)
      go (inside c e) (inr b) =
          let q = ring.known t h in
          let full = (slots_last room l m a.slots).link (ring.at t) 0 q (omega (arith, bit_lt m (receiver t))) c in
          let before = ring_before t h in
          let none = rw before.2 at (idle before.0 before.1) in
          let works = (limits.job (sender t) (limits.links.1 (ring.at t) q).sender).works in
          absurd (omega (arith, rw (awaited_first room (link room (ring.at t))) at full))

  ring_idle : (l : List ℕ) → Admissible room l → Idle l
  ring_idle =
      from_back (λ (l : List ℕ). Admissible room l → Idle l)
      (λ a t h. units_unborn room [] (receiver t) 0 (omega arith))
      (λ l m back a. idle_more l m a (back (admissible_before room l m a)))

  pub ring_infeasible : ¬ Feasible room
  ring_infeasible f =
      let i = receiver 0 in
      let known = (limits.links.1 (ring.at 0) (ring.known 0 ring.some)).receiver in
      let x = f.continues (due room i 0) in
      let late = x.keeps.end i 0 known (omega (arith, due_is room i 0)) in
      omega (arith, (limits.job i known).works, ring_idle x.rest x.keeps 0 ring.some)
