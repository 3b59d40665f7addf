-- The units that an instance has run, and the done count, in any room. An instance has a window of one period: before it nothing has run,
-- within it each mask counts, after it nothing changes. The last laws are the paper's sentence on the done count, part by part.
--   runs_append                       the runs of two rows together
--   units_over                        after its period an instance runs no more
--   units_unborn                      one that starts at the end of the past or later has run nothing
--   units_grow                        a unit once run stays
--   units_in                          within its period one more mask counts
--   first_start, start_more, start_mono, due_is   where instances start and end
--   current_begun, current_one        a job with a current instance has begun, and has just one
--   current_is, current_instance      from r on there is one, and `instance` is its number
--   Under, under                      one more mask counts for the current instance alone
--   done_current                      the done count is the number of units that the current instance has run
--   done_before, done_start           it is 0 up to r, and 0 again at each new instance
--   units_full, done_full             in an admissible past no instance has more than its load
--   done_kept                         and the done count is kept at the load from completion to the next start
use Prim.Native.Nat.{ℕ, zero, suc, ◌+◌, ◌-◌, ◌≤◌, ◌<◌}
use native.Mathlib.Omega.{arith}
use native.Mathlib.Nat.{mod-lt, add-zero, zero-add, mul-le-mul_right, div-add-mod'}
use mathlib.Core.Path.{◌≡◌, refl, sym, ap, ◌∙◌}
use mathlib.Core.Logic.{◌⊎◌, inl, inr, ⊎_elim}
use mathlib.Core.List.{List, [], ◌∷◌, ◌++◌}
use lib.ListN.{length, take, drop, get_or, length-drop, drop_of_length-le}
use lib.Seq.{take-append-le, drop-append-le, take_all, take-nil, take-suc, take-length}
use Rattle.paper.specs.declared.Room.{Room}
use Rattle.paper.specs.Room.{first, load, deadline, period}
use Rattle.paper.specs.Past.{bit, start, due, Current, runs, units, instance, done, Slot, Admissible}
use Rattle.laws.proofs.Tests.{lt_or_le}
use Rattle.laws.proofs.Lists.{length_more}
use Rattle.laws.proofs.Bits.{bit_lt}

-- ---- Runs

pub runs_append : (i : ℕ) (l r : List ℕ) → runs i (l ++ r) ≡ runs i l + runs i r
unfolding runs
runs_append i [] r = sym (zero-add (runs i r))
runs_append i (m ∷ l) r = rw (runs_append i l r) (omega arith)

runs_one : (i m : ℕ) → runs i (m ∷ []) ≡ bit m i
unfolding runs
runs_one i m = add-zero (bit m i)

runs_take_grow : (i n : ℕ) (l r : List ℕ) → runs i (take n l) ≤ runs i (take n (l ++ r))
unfolding runs
runs_take_grow i zero l r = omega arith
runs_take_grow i (suc n) [] r = omega arith
runs_take_grow i (suc n) (m ∷ l) r = omega (arith, runs_take_grow i n l r)

-- ---- Units, as a past goes on

module _ (room : Room) (l : List ℕ) (i k : ℕ) where
  pub units_over : (r : List ℕ) → start room i k + period room i ≤ length l → units room (l ++ r) i k ≡ units room l i k
  unfolding units
  units_over r h =
      let long : period room i ≤ length (drop (start room i k) l) = rw length-drop (omega arith) in
      rw (drop-append-le (start room i k) l r (omega arith), take-append-le)

  pub units_unborn : length l ≤ start room i k → units room l i k ≡ 0
  unfolding units runs
  units_unborn h = rw (drop_of_length-le l h, take-nil)

  pub units_grow : (r : List ℕ) → units room l i k ≤ units room (l ++ r) i k
  unfolding units
  units_grow r =
      ⊎_elim
      (λ (h : length l < start room i k). rw (units_unborn (omega arith)) (omega arith))
      (λ (h : start room i k ≤ length l).
      rw (drop-append-le (start room i k) l r h) (runs_take_grow i (period room i) (drop (start room i k) l) r))
      (lt_or_le (length l) (start room i k))

  -- up to the end of its period an instance has run all the units from its start on
  units_all : length l ≤ start room i k + period room i → units room l i k ≡ runs i (drop (start room i k) l)
  unfolding units
  units_all h = rw (take_all (period room i) (drop (start room i k) l) (rw length-drop (omega arith)))

pub units_in : (room : Room) (l : List ℕ) (i k m : ℕ) → start room i k ≤ length l → length l < start room i k + period room i
    → units room (l ++ (m ∷ [])) i k ≡ units room l i k + bit m i
units_in room l i k m h g =
    units_all room (l ++ (m ∷ [])) i k (rw length_more (omega arith))
    ∙ ap (runs i) (drop-append-le (start room i k) l (m ∷ []) h)
    ∙ runs_append i (drop (start room i k) l) (m ∷ [])
    ∙ rw (runs_one i m, units_all room l i k (omega arith))

-- ---- Starts and deadlines

module _ (room : Room) (i k : ℕ) where
  pub first_start : first room i ≤ start room i k
  unfolding start
  first_start = omega arith

  pub start_more : start room i (k + 1) ≡ start room i k + period room i
  unfolding start
  start_more = omega arith

  pub start_mono : (k' : ℕ) → k ≤ k' → start room i k ≤ start room i k'
  unfolding start
  start_mono k' h = omega (arith, mul-le-mul_right (period room i) h)

  pub due_is : due room i k ≡ start room i k + deadline room i
  unfolding due
  due_is = refl

-- ---- The current instance

module _ (room : Room) (i s : ℕ) where
  pub current_begun : (k : ℕ) → Current room i s k → first room i ≤ s
  current_begun k c = omega (arith, first_start room i k)

  -- of two numbers one would be the greater, and its instance would not have started
  pub current_one : (k k' : ℕ) → Current room i s k → Current room i s k' → k ≡ k'
  current_one k k' c c' = go (lt_or_le k k') (lt_or_le k' k)
    where
      go : (k < k') ⊎ (k' ≤ k) → (k' < k) ⊎ (k ≤ k') → k ≡ k'
      go (inl h) e = absurd (omega (arith, start_mono room i (k + 1) k' (omega arith)))
      go (inr h) (inl g) = absurd (omega (arith, start_mono room i (k' + 1) k (omega arith)))
      go (inr h) (inr g) = omega arith

  pub current_is : 0 < period room i → first room i ≤ s → Current room i s (instance room i s)
  unfolding start instance
  current_is p h =
      let e = div-add-mod' (s - first room i) (period room i) in
      let g = mod-lt (s - first room i) p in
      record { begun = omega arith; before_next = omega arith }

  pub current_instance : (k : ℕ) → Current room i s k → instance room i s ≡ k
  current_instance k c =
      let p : 0 < period room i = omega (arith, start_more room i k) in
      current_one (instance room i s) k (current_is p (current_begun k c)) c

-- one more mask counts for the current instance alone
pub data Under (room : Room) (l : List ℕ) (m i k : ℕ) : Type 0 where
  inside : Current room i (length l) k → units room (l ++ (m ∷ [])) i k ≡ units room l i k + bit m i → Under room l m i k
  outside : ¬ Current room i (length l) k → units room (l ++ (m ∷ [])) i k ≡ units room l i k → Under room l m i k

pub under : (room : Room) (l : List ℕ) (m i k : ℕ) → Under room l m i k
under room l m i k = go (lt_or_le (length l) (start room i k)) (lt_or_le (length l) (start room i (k + 1)))
  where
    go : (length l < start room i k) ⊎ (start room i k ≤ length l) → (length l < start room i (k + 1)) ⊎ (start room i (k + 1) ≤ length l)
        → Under room l m i k
    go (inl h) e =
        outside (λ c. omega arith)
        (units_unborn room (l ++ (m ∷ [])) i k (rw length_more (omega arith)) ∙ sym (units_unborn room l i k (omega arith)))
    go (inr h) (inl g) = inside (record { begun = h; before_next = g }) (units_in room l i k m h (omega (arith, start_more room i k)))
    go (inr h) (inr g) = outside (λ c. omega arith) (units_over room l i k (m ∷ []) (omega (arith, start_more room i k)))

-- ---- The done count

module _ (room : Room) (l : List ℕ) (i : ℕ) where
  pub done_current : (k : ℕ) → Current room i (length l) k → done room l i ≡ units room l i k
  unfolding done
  done_current k c = ap (units room l i) (current_instance room i (length l) k c)

  pub done_before : length l ≤ first room i → done room l i ≡ 0
  unfolding done
  done_before h = let k = instance room i (length l) in units_unborn room l i k (omega (arith, first_start room i k))

  pub done_start : (k : ℕ) → 0 < period room i → length l ≡ start room i k → done room l i ≡ 0
  done_start k p h =
      done_current k (record { begun = omega arith; before_next = omega (arith, start_more room i k) }) ∙ units_unborn room l i k (omega arith)

-- a job that runs has not all its units yet, and a slot gives it one
units_full_more : (room : Room) (l : List ℕ) (m i k : ℕ) → Slot room l m → units room l i k ≤ load room i
    → units room (l ++ (m ∷ [])) i k ≤ load room i
units_full_more room l m i k x h = go (under room l m i k) (lt_or_le (bit m i) 1)
  where
    go : Under room l m i k → (bit m i < 1) ⊎ (1 ≤ bit m i) → units room (l ++ (m ∷ [])) i k ≤ load room i
    go (inside c e) (inl z) = omega arith
    go (inside c e) (inr o) =
        let b : bit m i ≡ 1 = omega (arith, bit_lt m i) in
        omega (arith, (x.job i b).unfinished, done_current room l i k c)
    go (outside n e) z = omega arith

module _ (room : Room) (l : List ℕ) (i : ℕ) (a : Admissible room l) where
  pub units_full : (k : ℕ) → units room l i k ≤ load room i
  units_full k = rw take-length at (go (length l) (omega arith))
    where
      go : (t : ℕ) → t ≤ length l → units room (take t l) i k ≤ load room i
      go zero h = rw (units_unborn room [] i k (omega arith)) (omega arith)
      go (suc t) h = rw (take-suc l t 0 h) (units_full_more room (take t l) (get_or l t 0) i k (a.slots t h) (go t (omega arith)))

  pub done_full : done room l i ≤ load room i
  unfolding done
  done_full = units_full (instance room i (length l))

pub done_kept : (room : Room) (l r : List ℕ) (i k : ℕ) → Admissible room (l ++ r) → Current room i (length l) k → Current room i (length (l ++ r)) k
    → done room l i ≡ load room i → done room (l ++ r) i ≡ load room i
done_kept room l r i k a c c' e =
    omega (arith, done_current room l i k c, done_current room (l ++ r) i k c', units_grow room l i k r, done_full room (l ++ r) i a)
