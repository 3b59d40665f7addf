-- Room text (01, "Room text"). A text is a list of bytes.
--   digit, two_digits, line   lowercase hexadecimal, two digits a byte; a frame as a line
--   engine_frame, job_frame, section_frame, link_frame   the frame of the engines and of an entry
--   frames                   the frames of a room's used entries, in the order of their kinds
--   ending                   the fixed line `ff`
--   lines, render            the lines of a room's text, and the text
--   Carried                  a room that a text can carry
--   GoodText                 a text that keeps the grammar
--   Begins                   a text whose first k lines are those of some good text
--   FirstBadLine             the first bad line, from 0
--   no_room, pad, Read        what the reader hands back
use Rattle.std.specs.Prelude.{ℕ, ◌+◌, ◌-◌, ◌≤◌, ◌<◌, ◌/◌, ◌%◌, ◌≡◌, cond, length, take, replicate, ltb}
use mathlib.Core.List.{List, [], ◌∷◌, ◌++◌, map, flat_map, flatten}
use Rattle.paper.specs.declared.Room.{Room}
use Rattle.paper.specs.declared.Job.{Job}
use Rattle.paper.specs.declared.Section.{Section}
use Rattle.paper.specs.declared.Link.{Link}
use Rattle.paper.specs.Room.{job, section, link, no_job, no_section, no_link}
use Rattle.laws.specs.Lists.{◌∈◌, row}

-- ---- Rendering

-- lowercase hexadecimal: 0 to 9 are bytes 30 to 39, a to f are bytes 61 to 66
unfoldable pub digit : ℕ → ℕ
digit d = cond (ltb d 10) (0x30 + d) (0x61 + (d - 10))

-- two digits a byte
unfoldable pub two_digits : ℕ → List ℕ
two_digits x = digit (x / 16) ∷ digit (x % 16) ∷ []

-- one frame a line, each line closed by byte 0a
unfoldable pub line : List ℕ → List ℕ
line frame = flat_map two_digits frame ++ (0x0a ∷ [])

-- `a0` p
abbrev pub engine_frame : Room → List ℕ
engine_frame room = 0xa0 ∷ room.engines ∷ []

-- `a1` r C D T
abbrev pub job_frame : Job → List ℕ
job_frame j = 0xa1 ∷ j.first ∷ j.load ∷ j.deadline ∷ j.period ∷ []

-- `a2` job block first after
abbrev pub section_frame : Section → List ℕ
section_frame s = 0xa2 ∷ s.job ∷ s.block ∷ s.first ∷ s.after ∷ []

-- `a3` sender receiver
abbrev pub link_frame : Link → List ℕ
link_frame k = 0xa3 ∷ k.sender ∷ k.receiver ∷ []

-- kinds in that order, `a0` exactly once
unfoldable pub frames : Room → List (List ℕ)
frames room = (engine_frame room ∷ [])
    ++ row (λ i. job_frame (job room i)) 0 room.jobs
    ++ row (λ q. section_frame (section room q)) 0 room.sections
    ++ row (λ q. link_frame (link room q)) 0 room.links

-- the fixed line `ff`
abbrev pub ending : List ℕ
ending = 0x66 ∷ 0x66 ∷ 0x0a ∷ []

-- the text ends with the fixed line `ff` and nothing follows
unfoldable pub lines : Room → List (List ℕ)
lines room = map line (frames room) ++ (ending ∷ [])

unfoldable pub render : Room → List ℕ
render room = flatten (lines room)

-- ---- The grammar

-- at most 16 jobs, 32 sections and 16 links; any byte value in a field
pub record Carried (room : Room) : Type 0 where
  pub jobs : room.jobs ≤ 16
  pub sections : room.sections ≤ 32
  pub links : room.links ≤ 16
  pub bytes : (frame : List ℕ) → frame ∈ frames room → (x : ℕ) → x ∈ frame → x < 256

pub record GoodText (text : List ℕ) : Type 0 where
  pub room : Room
  pub carried : Carried room
  pub same : text ≡ render room

-- the text begins with the first k lines of some good text
pub record Begins (text : List ℕ) (k : ℕ) : Type 0 where
  pub room : Room
  pub carried : Carried room
  pub enough : k ≤ length (lines room)
  pub rest : List ℕ
  pub same : text ≡ flatten (take k (lines room)) ++ rest

-- lines 0 to k - 1 are those of some good text, and with line k they are not: it is wrong, unclosed or missing, or something follows `ff`
pub record FirstBadLine (text : List ℕ) (k : ℕ) : Type 0 where
  pub bad : ¬ GoodText text
  pub until : Begins text k
  pub here : ¬ Begins text (k + 1)

-- ---- What the reader hands back

-- a room of all zeros
abbrev pub no_room : Room
no_room = record {
  engines = 0;
  jobs = 0;
  sections = 0;
  links = 0;
  job = replicate 16 no_job;
  section = replicate 32 no_section;
  link = replicate 16 no_link;
}

-- n entries, and then d, up to most
abbrev pub pad : {A : Type 0} → A → ℕ → (ℕ → A) → ℕ → List A
pad d most f n = row f 0 n ++ replicate (most - n) d

-- the room whose used entries the text has; unused entries are read as zeros
pub record Read (text : List ℕ) (room : Room) : Type 0 where
  pub carried : Carried room
  pub same : text ≡ render room
  pub job : room.job ≡ pad no_job 16 (job room) room.jobs
  pub section : room.section ≡ pad no_section 32 (section room) room.sections
  pub link : room.link ≡ pad no_link 16 (link room) room.links
