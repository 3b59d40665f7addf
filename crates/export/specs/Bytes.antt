-- A room as 228 bytes: four counts, then all entries, used or not, at fixed places.
--   size                                    228
--   count_bytes                              the bytes of the counts
--   ByteAt                                  byte k of a room
--   Holds                                   the bytes of a room
--   job_at, section_at, link_at                the entry that stands at a place
--   room_of                                  the room in 228 bytes
--   handed                                   the room that reading hands back
--   ReadOfText, WriteOfBytes                the replies of reading and writing
use Rattle.std.specs.Prelude.{ℕ, ◌+◌, ◌*◌, ◌<◌, ◌≡◌, List, [], ◌∷◌, length, get_or, Ok, Err}
use Rattle.laws.specs.Lists.{row}
use Rattle.paper.specs.declared.Room.{Room}
use Rattle.paper.specs.declared.Job.{Job}
use Rattle.paper.specs.declared.Section.{Section}
use Rattle.paper.specs.declared.Link.{Link}
use Rattle.paper.specs.declared.Numbers.{Numbers}
use Rattle.paper.specs.Room.{job, section, link}
use Rattle.paper.specs.Text.{no_room}
use Rattle.paper.specs.Reply.{ReadAnswer, reading_numbers, writing_numbers, ReadReply, WriteReply}
use Rattle.text.specs.Parts.{job_bytes, section_bytes, link_bytes}
use Rattle.answer.specs.Calls.{OfAnswer}

-- ---- The layout

abbrev pub size : ℕ
size = 228

abbrev pub count_bytes : Room → List ℕ
count_bytes room = room.engines ∷ room.jobs ∷ room.sections ∷ room.links ∷ []

-- 16 jobs of 4 bytes from 4 on, 32 sections of 4 from 68 on, 16 links of 2 from 196 on
pub record ByteAt (room : Room) (k x : ℕ) : Type 0 where
  pub count : k < 4 → x ≡ get_or (count_bytes room) k 0
  pub job : (i d : ℕ) → i < 16 → d < 4 → k ≡ 4 + 4 * i + d → x ≡ get_or (job_bytes (job room i)) d 0
  pub section : (q d : ℕ) → q < 32 → d < 4 → k ≡ 68 + 4 * q + d → x ≡ get_or (section_bytes (section room q)) d 0
  pub link : (q d : ℕ) → q < 16 → d < 2 → k ≡ 196 + 2 * q + d → x ≡ get_or (link_bytes (link room q)) d 0

-- all bytes of a room, and no more
pub record Holds (bytes : List ℕ) (room : Room) : Type 0 where
  pub long : length bytes ≡ size
  pub byte : (k : ℕ) → k < size → ByteAt room k (get_or bytes k 0)

abbrev pub job_at : List ℕ → ℕ → Job
job_at bytes at = record { first = get_or bytes at 0; load = get_or bytes (at + 1) 0; deadline = get_or bytes (at + 2) 0; period = get_or bytes (at + 3) 0 }

abbrev pub section_at : List ℕ → ℕ → Section
section_at bytes at = record { job = get_or bytes at 0; block = get_or bytes (at + 1) 0; first = get_or bytes (at + 2) 0; after = get_or bytes (at + 3) 0 }

abbrev pub link_at : List ℕ → ℕ → Link
link_at bytes at = record { sender = get_or bytes at 0; receiver = get_or bytes (at + 1) 0 }

-- the counts, and each entry as it stands at its place
abbrev pub room_of : List ℕ → Room
room_of bytes = record {
  engines = get_or bytes 0 0;
  jobs = get_or bytes 1 0;
  sections = get_or bytes 2 0;
  links = get_or bytes 3 0;
  job = row (λ i. job_at bytes (4 + 4 * i)) 0 16;
  section = row (λ q. section_at bytes (68 + 4 * q)) 0 32;
  link = row (λ q. link_at bytes (196 + 2 * q)) 0 16;
}

-- ---- The calls

-- the room that is handed back: the one read, or on TEXT a room of all zeros
abbrev pub handed : ReadAnswer → Room
handed (Ok room) = room
handed (Err b) = no_room

-- the reader's reply, and the bytes of the room that is handed back
abbrev pub ReadOfText : List ℕ → List ℕ → Numbers → Type 0
ReadOfText text bytes = OfAnswer reading_numbers (λ r. ReadReply text r × Holds bytes (handed r))

-- the writer's reply to the room in the bytes
abbrev pub WriteOfBytes : List ℕ → List ℕ → List ℕ → Numbers → Type 0
WriteOfBytes bytes text₀ text = OfAnswer writing_numbers (λ r. WriteReply (room_of bytes) text₀ r text)
