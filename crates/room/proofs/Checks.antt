-- The searches of the check, through a test of each entry, and the multiple, by one job more.
--   holds, fails            a verdict, from what it came to
--   opposite                the negation of a verdict, negated
--   least_bad               a search through n entries for one that does not fit ends at the least bad one
--   first_bad, first_many   so it does where only so many are allowed, and where there are more
--   many_links              more links than are allowed
--   multiple_next           the multiple of one job more
--   next_long               where it passes 4,096
use Prim.Native.Nat.{ℕ, ◌+◌, ◌≤◌, ◌<◌, ◌%◌}
use native.Mathlib.Omega.{arith}
use mathlib.Core.Path.{◌≡◌, refl, ap, subst}
use mathlib.Core.Bool.{Bool, true, false, not}
use denote.Param.Members.{Mut}
use denote.Ref.{Bor}
use Rattle.std.proofs.lemmas.Iterator.{YieldsList-from_range, first_from_find}
use Rattle.std.proofs.lemmas.List.FromFn.{get_or-range_with_len, length-range_with_len}
use Rattle.std.specs.Fn.{CalledAt}
use Rattle.std.proofs.iter.Yields.{nat_range_steps}
use Rattle.std.specs.Iterator.{FindsItem}
use Rattle.std.specs.declared.ops.Range.{Range}
use Rattle.std.specs.List.{range_with_len, AllWithin, HoldsAt}
use Rattle.std.specs.Option.{MatchOption}
use Rattle.std.specs.Prelude.{Option, None, Some, length}
use Rattle.laws.proofs.Tests.{T_of}
use Rattle.laws.proofs.Multiples.{least_more_times}
use Rattle.paper.specs.declared.Room.{Room}
use Rattle.paper.specs.Room.{EachJobFits, Multiple, GoodLink, link, period}
use Rattle.paper.specs.Reply.{LeastBad, FirstBad, many, one, Passes}
use Rattle.room.specs.Checks.{Verdict, LeastMultiple}

-- ---- Bad entries

module _ {fits : Bool} {P : Type 0} (v : Verdict fits P) where
  pub holds : fits ≡ true → P
  holds e = v.yes (T_of fits e)

  pub fails : fits ≡ false → ¬ P
  fails e = v.no (T_of (not fits) (ap not e))

pub opposite : {P : Type 0} {b : Bool} (fits : Bool) → b ≡ not fits → Verdict fits P → Verdict (not b) P
opposite true e v = rw e v
opposite false e v = rw e v

module _ (Fine : ℕ → Type 0) (n : ℕ) where
  listed : (k : ℕ) → k < n → AllWithin Fine (range_with_len 0 n) 0 (k + 1) → Fine k
  listed k l h = subst Fine (omega (arith, get_or-range_with_len 0 n k 0 l)) (h k 0 (omega arith) (omega arith))

  least_listed : (r : Option ℕ)
      → MatchOption r (AllWithin Fine (range_with_len 0 n) 0 (length (range_with_len 0 n)))
      (λ x. (¬ Fine x) × (i : ℕ) × (i < length (range_with_len 0 n)) × HoldsAt (λ y. y ≡ x) (range_with_len 0 n) i × AllWithin Fine (range_with_len 0 n) 0 i)
      → MatchOption r ((k : ℕ) → k < n → Fine k) (LeastBad Fine n)
  least_listed None h = λ k l. listed k l (λ j d g b. h j d g (omega (arith, length-range_with_len 0 n)))
  least_listed (Some x) (bad, i, l, at, before) =
      let m : i < n = omega (arith, length-range_with_len 0 n) in
      let e : i ≡ x = omega (arith, get_or-range_with_len 0 n i 0 m, at 0) in
      record { below = omega arith; bad = bad; earlier = λ k b. listed k (omega arith) (λ j d g h. before j d g (omega arith)) }

  module _ {F : Type 0} {g : Mut F (Bor ℕ × Unit {0}) Bool} {f : F} (u : Range ℕ) (r : Option ℕ) {end : ℕ} (all : end ≡ n) where
    pub least_bad : FindsItem nat_range_steps g (record { start = 0; end = end }) f r u → ((x : ℕ) (b : Bool) (q : F) → CalledAt g f x b q → (q ≡ f) × Verdict (not b) (Fine x))
        → MatchOption r ((k : ℕ) → k < n → Fine k) (LeastBad Fine n)
    least_bad ran says =
        least_listed r
        (first_from_find _ f r (λ i. ¬ Fine i) Fine ran (YieldsList-from_range 0 end n refl (omega arith))
        (λ x q k. (says x true q k).1.no tt) (λ x q k. let o = says x false q k in (o.0, o.1.yes tt)))

  pub first_bad : (most : ℕ) (r : Option ℕ) → n ≤ most → MatchOption r ((k : ℕ) → k < n → Fine k) (LeastBad Fine n)
      → MatchOption r ((n ≤ most) × ((k : ℕ) → k < n → Fine k)) (FirstBad Fine n most)
  first_bad most None few h = (few, h)
  first_bad most (Some i) few h = one few h

pub first_many : (Fine : ℕ → Type 0) (n most : ℕ) → most < n → FirstBad Fine n most most
first_many Fine n most l = many l refl

pub many_links : {room : Room} → 16 < room.links → FirstBad (λ k. GoodLink room (link room k)) room.links 16 16
many_links {room} l = first_many (λ k. GoodLink room (link room k)) room.links 16 l

-- ---- H

pub multiple_next : (room : Room) {i h m : ℕ} → (EachJobFits room → Multiple room i h) → (0 < period room i → LeastMultiple h (period room i) m) → i < room.jobs
    → EachJobFits room → Multiple room (i + 1) m
multiple_next room {i} {h} {m} u p l good =
    let j = good i l in
    let n = p (omega arith) in
    rw n.same (least_more_times (u good) n.times n.some (subst (λ (x : ℕ). x % period room i ≡ 0) n.same n.divided) n.least)

pub next_long : (room : Room) {i h m : ℕ} → (EachJobFits room → Multiple room i h) → h ≤ 4096 → (0 < period room i → LeastMultiple h (period room i) m) → i < room.jobs → 4096 < m
    → EachJobFits room → Passes room i
next_long room u s p l g good = record { known = l; h = _; until = u good; short = s; h' = _; with = multiple_next room u p l good; long = g }
