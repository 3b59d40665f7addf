-- One slot, one past (01, "One slot, one past"). A past is a list of masks, slot 0 first.
--   bit, ones                        bit i of a mask says that job i runs; the ones in a mask
--   start, due                       where instance k of job i starts, and its deadline
--   Current                          instance k is the current one of job i at slot s
--   runs, units                      the units that instance k of job i has run in a past
--   instance, done                   the number of the current instance, and the done count
--   Uses                             a job uses a block in a slot
--   EngineRule, JobRule, BlockRule, LinkRule   the rules of the slot that follows the past l, for the mask m
--   Slot                             all of them
--   EndRule                          the rule at the end of a past
--   Admissible                       a past that keeps them all
use Rattle.std.specs.Prelude.{ℕ, ◌+◌, ◌*◌, ◌-◌, ◌≤◌, ◌<◌, ◌/◌, ◌≡◌, List, [], ◌∷◌, length, take, drop, get_or}
use Rattle.paper.specs.declared.Room.{Room}
use Rattle.paper.specs.Room.{section, link, first, load, deadline, period, awaited}
unfoldable pub use Rattle.std.specs.Int.Count.{ones}
unfoldable pub use Rattle.laws.specs.Bits.{bit}

-- ---- Instances

-- instance k of a job starts at r + kT
unfoldable pub start : Room → ℕ → ℕ → ℕ
start room i k = first room i + k * period room i

-- and has its deadline at r + kT + D
unfoldable pub due : Room → ℕ → ℕ → ℕ
due room i k = start room i k + deadline room i

pub record Current (room : Room) (i s k : ℕ) : Type 0 where
  pub begun : start room i k ≤ s
  pub before_next : s < start room i (k + 1)

-- how many masks of a row have bit i
unfoldable pub runs : ℕ → List ℕ → ℕ
runs i [] = 0
runs i (m ∷ l) = bit m i + runs i l

-- the number of units that instance k of job i has run in the past l: its slots from its start on, for one period, that have bit i
unfoldable pub units : Room → List ℕ → ℕ → ℕ → ℕ
units room l i k = runs i (take (period room i) (drop (start room i k) l))

-- the current instance of job i at slot s; before r there is none, and this is 0
unfoldable pub instance : Room → ℕ → ℕ → ℕ
instance room i s = (s - first room i) / period room i

-- the done count of a job at a slot's start is the number of units its current instance has run: 0 before r, 0 again at each new instance
unfoldable pub done : Room → List ℕ → ℕ → ℕ
done room l i = units room l i (instance room i (length l))

-- ---- The rules of a slot, at the end of the past l, for the mask m

-- no bit at or above n is set, and the ones in the mask number at most p
pub record EngineRule (room : Room) (m : ℕ) : Type 0 where
  pub known : (i : ℕ) → room.jobs ≤ i → bit m i ≡ 0
  pub few : ones m ≤ room.engines

-- a running job has a current instance, its deadline is after this slot's start, and its done count is below C
pub record JobRule (room : Room) (l : List ℕ) (i : ℕ) : Type 0 where
  pub k : ℕ
  pub current : Current room i (length l) k
  pub early : length l < due room i k
  pub unfinished : done room l i < load room i

-- job i runs and executes a unit u with first <= u < after of a section on block b, where u is the done count
pub record Uses (room : Room) (l : List ℕ) (m i b : ℕ) : Type 0 where
  pub running : bit m i ≡ 1
  pub q : ℕ
  pub listed : q < room.sections
  pub owner : (section room q).job ≡ i
  pub block : (section room q).block ≡ b
  pub from : (section room q).first ≤ done room l i
  pub until : done room l i < (section room q).after

-- for each block, at most one job uses it
abbrev pub BlockRule : Room → List ℕ → ℕ → Type 0
BlockRule room l m = (b i j : ℕ) → Uses room l m i b → Uses room l m j b → i ≡ j

-- a receiver runs in its instance k only if the sender's instance that it awaits had all its C units at the start of the slot
abbrev pub LinkRule : Room → List ℕ → ℕ → Type 0
LinkRule room l m = (q k : ℕ) → q < room.links → bit m (link room q).receiver ≡ 1 → Current room (link room q).receiver (length l) k
    → units room l (link room q).sender (awaited room (link room q) k) ≡ load room (link room q).sender

pub record Slot (room : Room) (l : List ℕ) (m : ℕ) : Type 0 where
  pub engines : EngineRule room m
  pub job : (i : ℕ) → bit m i ≡ 1 → JobRule room l i
  pub block : BlockRule room l m
  pub link : LinkRule room l m

-- ---- A past

-- after s slots every instance begun at or before s with deadline d has run at least C - max(0, d - s) units
abbrev pub EndRule : Room → List ℕ → Type 0
EndRule room l = (i k : ℕ) → i < room.jobs → start room i k ≤ length l → load room i - (due room i k - length l) ≤ units room l i k

-- a past is admissible if each slot keeps the rules after the slots before it, and if the rule at the end holds
pub record Admissible (room : Room) (l : List ℕ) : Type 0 where
  pub slots : (t : ℕ) → t < length l → Slot room (take t l) (get_or l t 0)
  pub end : EndRule room l
