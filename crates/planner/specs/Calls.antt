-- The parts of the calls that lend a table.
--   Undecides                   why a room is not decided, and the table as the reply leaves it
--   Admitted, Admits            a room within the limits, its R and H, and a table that is not too long; or why it is not decided, the table as found
--   Settles                     the table pruned, or the room has more configurations than it can hold
--   PlanAnswers, JudgeAnswers   the answer of a decided room, whatever table it was decided in
--   Lent                        a table in lent words that are not too many
--   Plans, Judges               the answer of a room in a table, whatever words are lent for that
use Rattle.std.specs.Prelude.{ℕ, ◌≤◌, ◌≡◌, List, length, Result, Ok, Err}
use Rattle.paper.specs.declared.Room.{Room}
use Rattle.paper.specs.declared.Undecided.{Undecided}
use Rattle.paper.specs.declared.Undecided.TheVariants as undecided
use Rattle.paper.specs.declared.Planned.{Planned}
use Rattle.paper.specs.declared.Judged.{Judged}
use Rattle.paper.specs.Room.{Limits, Clock}
use Rattle.paper.specs.Configuration.{MoreThan}
use Rattle.paper.specs.Reply.{undecided_numbers, most, W, zeros, table_after, Decided, NotDecided, PlanReply, JudgeReply}
use Rattle.room.specs.Good.{Timed}
use Rattle.table.specs.Contents.{Contents}
use Rattle.follow.specs.Pasts.{Given}

-- 3 to 10, with the table that the code asks for
pub record Undecides (room : Room) (table₀ : List ℕ) (why : Undecided) (table : List ℕ) : Type 0 where
  pub says : NotDecided room table₀ why
  pub table_is : table ≡ table_after (undecided_numbers why).code table₀

-- none of 3 to 9 applies
pub record Admitted (room : Room) (table : List ℕ) (timed : Timed) : Type 0 where
  pub same : timed.room ≡ room
  pub limits : Limits room
  pub clock : Clock room timed.times
  pub lent : length table ≤ most

-- the room may be explored, or it is not decided and the table stays as found
abbrev pub Admits : Room → List ℕ → Result Timed Undecided → Type 0
Admits room table (Ok timed) = Admitted room table timed
Admits room table (Err why) = Undecides room table why table

-- the table is pruned, with as many places as before; or there are more configurations than it can hold
abbrev pub Settles : Timed → Contents → Result (Unit {0}) Undecided → Contents → Type 0
Settles timed t (Ok _) t' = Given timed.room timed.times t' × (t'.capacity ≡ t.capacity)
Settles timed t (Err why) t' = (why ≡ undecided.Room) × Limits timed.room × Clock timed.room timed.times × MoreThan timed.room timed.times t.capacity

-- the reply to planning where n is the count; the table is then all zeros
abbrev pub PlanAnswers : Room → ℕ → List ℕ → Planned → List ℕ → Type 0
PlanAnswers room n plan₀ r plan = (table₀ : List ℕ) → Decided room table₀ n → PlanReply room table₀ plan₀ (Ok r) (zeros table₀) plan

-- the reply to judging, likewise
abbrev pub JudgeAnswers : Room → ℕ → List ℕ → Judged → Type 0
JudgeAnswers room n past r = (table₀ : List ℕ) → Decided room table₀ n → JudgeReply room past table₀ (Ok r) (zeros table₀)

-- the words lent for a table are not too many, and it can hold as many configurations as they can
pub record Lent (table₀ : List ℕ) (t : Contents) : Type 0 where
  pub few : length table₀ ≤ most
  pub places : t.capacity ≡ W table₀

-- the reply to planning; the words are then all zeros
abbrev pub Plans : Room → Contents → List ℕ → Result Planned Undecided → List ℕ → Type 0
Plans room t plan₀ r plan = (table₀ : List ℕ) → Lent table₀ t → PlanReply room table₀ plan₀ r (zeros table₀) plan

-- the reply to judging, likewise
abbrev pub Judges : Room → List ℕ → Contents → Result Judged Undecided → Type 0
Judges room past t r = (table₀ : List ℕ) → Lent table₀ t → JudgeReply room past table₀ r (zeros table₀)
