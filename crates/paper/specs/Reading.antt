-- Reading a room text from the front: what stands at a place of it, and what was read before the place.
--   value, byte   the value of a digit, and of two
--   byte_at        the byte whose two digits stand at a place
--   Line          a line of n bytes stands at a place
--   Ending        the line `ff` stands at a place
--   SoFar         the text before a place is the lines of a room whose unused entries are zeros
--   FirstLine     the first line stands at the start
--   Follows       a line that may follow those of a room stands at a place
--   line_after     its number
use Rattle.std.specs.Prelude.{ℕ, ◌+◌, ◌*◌, ◌-◌, ◌≤◌, ◌<◌, ◌≡◌, cond, length, take, get_or, ltb}
use mathlib.Core.List.{List, flat_map}
use Rattle.paper.specs.declared.Room.{Room}
use Rattle.paper.specs.Room.{job, section, link, no_job, no_section, no_link}
use Rattle.paper.specs.Text.{line, frames, Carried, pad}

-- ---- A place

-- the value of a lowercase hexadecimal digit; 16 for what is none
unfoldable pub value : ℕ → ℕ
value b = cond (ltb b 0x30) 16 (cond (ltb b 0x3a) (b - 0x30) (cond (ltb b 0x61) 16 (cond (ltb b 0x67) (b - 0x57) 16)))

-- the byte of two digits; 256 where they are not both digits
unfoldable pub byte : ℕ → ℕ → ℕ
byte a b = cond (ltb (value a) 16) (cond (ltb (value b) 16) (value a * 16 + value b) 256) 256

-- the byte whose two digits stand at a place; 256 where no two digits stand, as beyond the end
abbrev pub byte_at : List ℕ → ℕ → ℕ
byte_at text at = byte (get_or text at 0) (get_or text (at + 1) 0)

-- a line of n bytes stands at a place
pub record Line (text : List ℕ) (at n : ℕ) : Type 0 where
  pub bytes : (i : ℕ) → i < n → byte_at text (at + 2 * i) < 256
  pub close : get_or text (at + 2 * n) 0 ≡ 0x0a

-- the line `ff` stands at a place
pub record Ending (text : List ℕ) (at : ℕ) : Type 0 where
  pub first : get_or text at 0 ≡ 0x66
  pub second : get_or text (at + 1) 0 ≡ 0x66
  pub close : get_or text (at + 2) 0 ≡ 0x0a

-- ---- What was read so far

-- the text before the place is the lines of the room, whose unused entries are zeros
pub record SoFar (text : List ℕ) (at : ℕ) (room : Room) : Type 0 where
  pub carried : Carried room
  pub job : room.job ≡ pad no_job 16 (job room) room.jobs
  pub section : room.section ≡ pad no_section 32 (section room) room.sections
  pub link : room.link ≡ pad no_link 16 (link room) room.links
  pub within : at ≤ length text
  pub same : take at text ≡ flat_map line (frames room)

-- `a0` p stands at the start
abbrev pub FirstLine : List ℕ → Type 0
FirstLine text = (byte_at text 0 ≡ 0xa0) × Line text 0 2

-- what may follow the lines of a room: one more entry of its last kind or of a later one, while there are not too many, or `ff`
pub data Follows (text : List ℕ) (at : ℕ) (room : Room) : Type 0 where
  job_follows : room.sections ≡ 0 → room.links ≡ 0 → room.jobs < 16 → byte_at text at ≡ 0xa1 → Line text at 5 → Follows text at room
  section_follows : room.links ≡ 0 → room.sections < 32 → byte_at text at ≡ 0xa2 → Line text at 5 → Follows text at room
  link_follows : room.links < 16 → byte_at text at ≡ 0xa3 → Line text at 3 → Follows text at room
  end_follows : Ending text at → Follows text at room

-- the number of the line after those of a room
abbrev pub line_after : Room → ℕ
line_after room = 1 + room.jobs + room.sections + room.links
