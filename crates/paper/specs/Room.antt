-- A room (01, "A room").
--   no_job, no_section, no_link         entries of zeros
--   job, section, link               the entries of a room by number
--   first, load, deadline, period    r, C, D and T of job i
--   GoodJob, GoodSection, GoodLink   the ranges of an entry
--   awaited                          which instance of its sender a receiver's instance waits for
--   Ring                             links that form a ring, of any length
--   EnginesFit, JobsFit, EachJobFits, SectionsFit, LinksFit   the ranges of a room, part by part
--   Multiple, GreatestFirst, Clock   H and R
--   Limits                           a room within all the ranges
--   SameUsed                         rooms with the same numbers and the same used entries
use Rattle.std.specs.Prelude.{ℕ, ◌+◌, ◌≤◌, ◌<◌, ◌≡◌, ◌≢◌, get_or}
use Rattle.paper.specs.declared.Room.{Room}
use Rattle.paper.specs.declared.Times.{Times}
use Rattle.paper.specs.declared.Job.{Job}
use Rattle.paper.specs.declared.Section.{Section}
use Rattle.paper.specs.declared.Link.{Link}
use Rattle.laws.specs.Multiples.{LeastCommon}

-- ---- The entries, numbered from 0

abbrev pub no_job : Job
no_job = record { first = 0; load = 0; deadline = 0; period = 0 }

abbrev pub no_section : Section
no_section = record { job = 0; block = 0; first = 0; after = 0 }

abbrev pub no_link : Link
no_link = record { sender = 0; receiver = 0 }

abbrev pub job : Room → ℕ → Job
job room i = get_or room.job i no_job

abbrev pub section : Room → ℕ → Section
section room q = get_or room.section q no_section

abbrev pub link : Room → ℕ → Link
link room q = get_or room.link q no_link

-- job: first slot r, load C, deadline D, period T
abbrev pub first : Room → ℕ → ℕ
first room i = (job room i).first

abbrev pub load : Room → ℕ → ℕ
load room i = (job room i).load

abbrev pub deadline : Room → ℕ → ℕ
deadline room i = (job room i).deadline

abbrev pub period : Room → ℕ → ℕ
period room i = (job room i).period

-- ---- Ranges

-- r 0 to 255; 1 <= C <= D <= T <= 64
pub record GoodJob (j : Job) : Type 0 where
  pub early : j.first ≤ 255
  pub works : 1 ≤ j.load
  pub fits : j.load ≤ j.deadline
  pub ends : j.deadline ≤ j.period
  pub short : j.period ≤ 64

-- sections: block 0 to 7; first < after <= C of that job
pub record GoodSection (room : Room) (s : Section) : Type 0 where
  pub known : s.job < room.jobs
  pub block : s.block ≤ 7
  pub some : s.first < s.after
  pub within : s.after ≤ load room s.job

-- links: two different jobs with equal r and equal T
pub record GoodLink (room : Room) (k : Link) : Type 0 where
  pub sender : k.sender < room.jobs
  pub receiver : k.receiver < room.jobs
  pub differ : k.sender ≢ k.receiver
  pub first : first room k.sender ≡ first room k.receiver
  pub period : period room k.sender ≡ period room k.receiver

-- the receiver's instance k waits for the sender's instance k
abbrev pub awaited : Room → Link → ℕ → ℕ
awaited room q k = k

-- links that form a ring, where at t is the number of the one at place t: each one's receiver is the next one's sender, and after the last
-- comes the first again
pub record Ring (room : Room) : Type 0 where
  pub size : ℕ
  pub some : 1 ≤ size
  pub at : ℕ → ℕ
  pub known : (t : ℕ) → t < size → at t < room.links
  pub joined : (t : ℕ) → t < size → (link room (at t)).receiver ≡ (link room (at (t + 1))).sender
  pub closes : at size ≡ at 0

-- engines p: 1 to 8
abbrev pub EnginesFit : Room → Type 0
EnginesFit room = (1 ≤ room.engines) × (room.engines ≤ 8)

-- jobs n: 1 to 16
abbrev pub JobsFit : Room → Type 0
JobsFit room = (1 ≤ room.jobs) × (room.jobs ≤ 16)

abbrev pub EachJobFits : Room → Type 0
EachJobFits room = (i : ℕ) → i < room.jobs → GoodJob (job room i)

-- sections: at most 32. Entries beyond a stated number are not looked at
abbrev pub SectionsFit : Room → Type 0
SectionsFit room = (room.sections ≤ 32) × ((q : ℕ) → q < room.sections → GoodSection room (section room q))

-- links: at most 16
abbrev pub LinksFit : Room → Type 0
LinksFit room = (room.links ≤ 16) × ((q : ℕ) → q < room.links → GoodLink room (link room q))

-- ---- H and R

-- h is the least common multiple of the periods of the first n jobs
abbrev pub Multiple : Room → ℕ → ℕ → Type 0
Multiple room n h = LeastCommon (period room) n h

-- R is the greatest r
pub record GreatestFirst (room : Room) (R : ℕ) : Type 0 where
  pub bound : (i : ℕ) → i < room.jobs → first room i ≤ R
  pub which : ℕ
  pub known : which < room.jobs
  pub same : first room which ≡ R

-- R and H of a room, by which time positions go
pub record Clock (room : Room) (times : Times) : Type 0 where
  pub greatest : GreatestFirst room times.first
  pub multiple : Multiple room room.jobs times.multiple

-- none of the refusals 3 to 8 applies
pub record Limits (room : Room) : Type 0 where
  pub engines : EnginesFit room
  pub jobs : JobsFit room
  pub job : EachJobFits room
  pub sections : SectionsFit room
  pub links : LinksFit room
  pub H : ℕ
  pub multiple : Multiple room room.jobs H
  pub short : H ≤ 4096

-- ---- Used entries

-- rooms that differ only in entries beyond a stated number
pub record SameUsed (room room' : Room) : Type 0 where
  pub engines : room.engines ≡ room'.engines
  pub jobs : room.jobs ≡ room'.jobs
  pub sections : room.sections ≡ room'.sections
  pub links : room.links ≡ room'.links
  pub job : (i : ℕ) → i < room.jobs → job room i ≡ job room' i
  pub section : (q : ℕ) → q < room.sections → section room q ≡ section room' q
  pub link : (q : ℕ) → q < room.links → link room q ≡ link room' q
