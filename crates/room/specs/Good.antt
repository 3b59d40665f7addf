-- Rooms that the check lets through.
--   Timed    a room and its R and H
--   Admits   what comes back of a room: the room, which is within the limits, or why it is refused
use Rattle.std.specs.Prelude.{◌≡◌, Result, Ok, Err}
use Rattle.paper.specs.declared.Room.{Room}
use Rattle.paper.specs.declared.Times.{Times}
use Rattle.paper.specs.declared.Refusal.{Refusal}
use Rattle.paper.specs.Room.{Limits}
use Rattle.paper.specs.Reply.{Refused}

pub record Timed : Type 0 where
  pub room : Room
  pub times : Times

abbrev pub Admits : Room → Result Room Refusal → Type 0
Admits room (Ok good) = (good ≡ room) × Limits room
Admits room (Err refusal) = Refused room refusal
