-- What comes back (01, "What comes back"): the numbers of each answer, when it is given, and the lent memory afterwards.
--   CheckAnswer, PlanAnswer, JudgeAnswer, ReadAnswer, WriteAnswer
--                                    what each call answers
--   named                            code, count and place, the rest 0
--   refusal_numbers, undecided_numbers
--                                    the numbers of what the calls share
--   checked_numbers, planned_numbers, judged_numbers, reading_numbers, writing_numbers
--                                    those of each call's answer
--   LeastBad, FirstBad, Passes       the places of the refusals 5 to 8
--   ToJobs, ToJob, ToSection, ToLink, ToLong
--                                    the room comes to each of their tests
--   Earlier, Fault, Refused          the refusals 3 to 8: the tests before one pass, and its own fails
--   CountIs, PlanIs, Exceeds         count, plan and more than w, for the R and H of the room
--   most, W                          the longest table, and how many configurations a table holds
--   zeros, table_after               a cleared table; the table after a call
--   written                          a buffer with a result from its start
--   CheckReply                       the call that checks: its argument and its answer
--   Decided                          a room decided with its count
--   TooLong, TooMany, NotDecided     TABLE, ROOM, and with 3 to 8 all that leaves a room undecided
--   PlanGood, PlanNone, PlanShort, PlanSays, PlanReply
--                                    the call that plans: all arguments at entry, the answer, every lent buffer at exit
--   JudgeGood, JudgeOut, JudgeSays, JudgeReply
--                                    the call that judges, likewise
--   ReadSays, ReadReply              the reader
--   WriteGood, WriteShort, WriteSays, WriteReply
--                                    the writer
use Rattle.std.specs.Prelude.{ℕ, ◌+◌, ◌≤◌, ◌<◌, ◌/◌, ◌≡◌, cond, ◌&&◌, List, ◌++◌, length, drop, replicate, leb, Result, Ok, Err}
use Rattle.paper.specs.declared.Room.{Room}
use Rattle.paper.specs.declared.Times.{Times}
use Rattle.paper.specs.declared.Numbers.{Numbers}
use Rattle.paper.specs.declared.Refusal.{Refusal}
use Rattle.paper.specs.declared.Refusal.TheVariants as refusal
use Rattle.paper.specs.declared.Undecided.{Undecided}
use Rattle.paper.specs.declared.Undecided.TheVariants as undecided
use Rattle.paper.specs.declared.Planned.{Planned}
use Rattle.paper.specs.declared.Planned.TheVariants as planned
use Rattle.paper.specs.declared.Judged.{Judged}
use Rattle.paper.specs.declared.Judged.TheVariants as judged
use Rattle.paper.specs.declared.BadLine.{BadLine}
use Rattle.paper.specs.declared.Unwritten.{Unwritten}
use Rattle.paper.specs.declared.Unwritten.TheVariants as unwritten
use Rattle.paper.specs.Room.{job, section, link, GoodJob, GoodSection, GoodLink, EnginesFit, JobsFit, EachJobFits, SectionsFit, LinksFit}
use Rattle.paper.specs.Room.{Multiple, Clock, Limits}
use Rattle.paper.specs.Centre.{Centre, Feasible, Outside}
use Rattle.paper.specs.Configuration.{Counted, MoreThan}
use Rattle.paper.specs.Plan.{Plan}
use Rattle.paper.specs.Text.{render, FirstBadLine, Read}

-- ---- What each call answers

-- GOOD, or why the room is refused
abbrev pub CheckAnswer : Type 0
CheckAnswer = Result (Unit {0}) Refusal

-- GOOD, NONE or SHORT of a decided room, or why the room is not decided
abbrev pub PlanAnswer : Type 0
PlanAnswer = Result Planned Undecided

-- GOOD or OUT of a decided room, likewise
abbrev pub JudgeAnswer : Type 0
JudgeAnswer = Result Judged Undecided

-- GOOD with the room, or TEXT with the first bad line and no room
abbrev pub ReadAnswer : Type 0
ReadAnswer = Result Room BadLine

-- GOOD with the bytes written, or why the text is not written
abbrev pub WriteAnswer : Type 0
WriteAnswer = Result ℕ Unwritten

-- ---- The numbers of an answer

-- each reply has a code, count, place, prefix length and cycle length; those not named are 0
abbrev pub named : ℕ → ℕ → ℕ → Numbers
named code count place = record { code = code; count = count; place = place; prefix = 0; cycle = 0 }

-- 3 to 8; from JOB on the place
abbrev pub refusal_numbers : Refusal → Numbers
refusal_numbers refusal.Engines = named 3 0 0
refusal_numbers refusal.Jobs = named 4 0 0
refusal_numbers (refusal.Job i) = named 5 0 i
refusal_numbers (refusal.Section i) = named 6 0 i
refusal_numbers (refusal.Link i) = named 7 0 i
refusal_numbers (refusal.Long i) = named 8 0 i

-- 3 to 8, TABLE and ROOM
abbrev pub undecided_numbers : Undecided → Numbers
undecided_numbers (undecided.Refused r) = refusal_numbers r
undecided_numbers undecided.Table = named 9 0 0
undecided_numbers undecided.Room = named 10 0 0

-- of a check GOOD names nothing
abbrev pub checked_numbers : CheckAnswer → Numbers
checked_numbers (Ok _) = named 0 0 0
checked_numbers (Err r) = refusal_numbers r

-- of a plan GOOD names count, prefix and cycle, NONE the count, SHORT the place
abbrev pub planned_numbers : PlanAnswer → Numbers
planned_numbers (Ok (planned.Good n a c)) = record { code = 0; count = n; place = 0; prefix = a; cycle = c }
planned_numbers (Ok (planned.None n)) = named 1 n 0
planned_numbers (Ok (planned.Short i)) = named 11 0 i
planned_numbers (Err u) = undecided_numbers u

-- of a past GOOD names the count, OUT count and place
abbrev pub judged_numbers : JudgeAnswer → Numbers
judged_numbers (Ok (judged.Good n)) = named 0 n 0
judged_numbers (Ok (judged.Out n i)) = named 12 n i
judged_numbers (Err u) = undecided_numbers u

-- of a text read GOOD names nothing, TEXT the place
abbrev pub reading_numbers : ReadAnswer → Numbers
reading_numbers (Ok _) = named 0 0 0
reading_numbers (Err b) = named 2 0 b.place

-- of a text written GOOD and SHORT name the place
abbrev pub writing_numbers : WriteAnswer → Numbers
writing_numbers (Ok i) = named 0 0 i
writing_numbers (Err (unwritten.Refused r)) = refusal_numbers r
writing_numbers (Err (unwritten.Short i)) = named 11 0 i

-- ---- The refusals that rest on the room alone

-- i is the least number below n that is bad
pub record LeastBad (Fine : ℕ → Type 0) (n i : ℕ) : Type 0 where
  pub below : i < n
  pub bad : ¬ Fine i
  pub earlier : (k : ℕ) → k < i → Fine k

-- more than most entries, at place most; or the least bad one
pub data FirstBad (Fine : ℕ → Type 0) (n most : ℕ) : ℕ → Type 0 where
  many : {i : ℕ} → most < n → i ≡ most → FirstBad Fine n most i
  one : {i : ℕ} → n ≤ most → LeastBad Fine n i → FirstBad Fine n most i

-- job i is the one at which the multiple of jobs 0 to it first passes 4,096
pub record Passes (room : Room) (i : ℕ) : Type 0 where
  pub known : i < room.jobs
  pub h : ℕ
  pub until : Multiple room i h
  pub short : h ≤ 4096
  pub h' : ℕ
  pub with : Multiple room (i + 1) h'
  pub long : 4096 < h'

-- the room comes to each test: those before it pass, in the order of the numbers
abbrev pub ToJobs : Room → Type 0
ToJobs room = EnginesFit room

abbrev pub ToJob : Room → Type 0
ToJob room = ToJobs room × JobsFit room

abbrev pub ToSection : Room → Type 0
ToSection room = ToJob room × EachJobFits room

abbrev pub ToLink : Room → Type 0
ToLink room = ToSection room × SectionsFit room

abbrev pub ToLong : Room → Type 0
ToLong room = ToLink room × LinksFit room

-- the tests before that of a refusal pass
abbrev pub Earlier : Room → Refusal → Type 0
Earlier room refusal.Engines = Unit {0}
Earlier room refusal.Jobs = ToJobs room
Earlier room (refusal.Job i) = ToJob room
Earlier room (refusal.Section i) = ToSection room
Earlier room (refusal.Link i) = ToLink room
Earlier room (refusal.Long i) = ToLong room

-- its own test fails, at the place of its numbers
abbrev pub Fault : Room → Numbers → Refusal → Type 0
Fault room N refusal.Engines = ¬ EnginesFit room
Fault room N refusal.Jobs = ¬ JobsFit room
Fault room N (refusal.Job i) = LeastBad (λ k. GoodJob (job room k)) room.jobs N.place
Fault room N (refusal.Section i) = FirstBad (λ q. GoodSection room (section room q)) room.sections 32 N.place
Fault room N (refusal.Link i) = FirstBad (λ q. GoodLink room (link room q)) room.links 16 N.place
Fault room N (refusal.Long i) = Passes room N.place

-- codes 3 to 8, the first that applies
pub record Refused (room : Room) (r : Refusal) : Type 0 where
  pub earlier : Earlier room r
  pub fault : Fault room (refusal_numbers r) r

-- ---- Count, plan and size, for the R and H of the room

pub record CountIs (room : Room) (n : ℕ) : Type 0 where
  pub times : Times
  pub clock : Clock room times
  pub counted : Counted room times n

pub record PlanIs (room : Room) (masks : List ℕ) (a : ℕ) : Type 0 where
  pub times : Times
  pub clock : Clock room times
  pub plan : Plan room times masks a

pub record Exceeds (room : Room) (w : ℕ) : Type 0 where
  pub times : Times
  pub clock : Clock room times
  pub more : MoreThan room times w

-- ---- The lent memory

-- table longer than 4,194,304 numbers: code 9
abbrev pub most : ℕ
most = 4194304

-- W is the table's length divided by 4, rounded down
abbrev pub W : List ℕ → ℕ
W table = length table / 4

-- all zeros
abbrev pub zeros : List ℕ → List ℕ
zeros table = replicate (length table) 0

-- the table is as found for 3 to 9, and all zeros for 0, 1, 10, 11 and 12
abbrev pub table_after : ℕ → List ℕ → List ℕ
table_after code table = cond (leb 3 code && leb code 9) table (zeros table)

-- a buffer that holds a result from its start, the rest as found
abbrev pub written : List ℕ → List ℕ → List ℕ
written result buffer = result ++ drop (length result) buffer

-- ---- Check

-- where only a check of the room is asked: GOOD where none of 3 to 8 applies
abbrev pub CheckReply : Room → CheckAnswer → Type 0
CheckReply room (Ok _) = Limits room
CheckReply room (Err r) = Refused room r

-- ---- Decide

-- a room within the limits, a table that is not too long and holds all its configurations, and the count
pub record Decided (room : Room) (table₀ : List ℕ) (n : ℕ) : Type 0 where
  pub limits : Limits room
  pub lent : length table₀ ≤ most
  pub count : CountIs room n
  pub fits : n ≤ W table₀

-- table longer than 4,194,304 numbers
pub record TooLong (room : Room) (table₀ : List ℕ) : Type 0 where
  pub limits : Limits room
  pub long : most < length table₀

-- more than W configurations
pub record TooMany (room : Room) (table₀ : List ℕ) : Type 0 where
  pub limits : Limits room
  pub lent : length table₀ ≤ most
  pub more : Exceeds room (W table₀)

-- why a room is not decided: codes 3 to 10
abbrev pub NotDecided : Room → List ℕ → Undecided → Type 0
NotDecided room table₀ (undecided.Refused r) = Refused room r
NotDecided room table₀ undecided.Table = TooLong room table₀
NotDecided room table₀ undecided.Room = TooMany room table₀

-- ---- Plan

-- feasible and the plan fits: count, prefix, cycle
pub record PlanGood (room : Room) (table₀ plan₀ plan : List ℕ) (N : Numbers) : Type 0 where
  pub decided : Decided room table₀ N.count
  pub masks : List ℕ
  pub is : PlanIs room masks N.prefix
  pub cycle : length masks ≡ N.prefix + N.cycle
  pub fits : length masks ≤ length plan₀
  pub buffer : plan ≡ written masks plan₀

-- infeasible: count
pub record PlanNone (room : Room) (table₀ : List ℕ) (N : Numbers) : Type 0 where
  pub decided : Decided room table₀ N.count
  pub infeasible : ¬ Feasible room

-- plan longer than its buffer; place: length needed
pub record PlanShort (room : Room) (table₀ plan₀ : List ℕ) (N : Numbers) : Type 0 where
  pub n : ℕ
  pub decided : Decided room table₀ n
  pub masks : List ℕ
  pub a : ℕ
  pub is : PlanIs room masks a
  pub place : N.place ≡ length masks
  pub short : length plan₀ < length masks

abbrev pub PlanSays : Room → List ℕ → List ℕ → Numbers → PlanAnswer → List ℕ → Type 0
PlanSays room table₀ plan₀ N (Ok (planned.Good n a c)) plan = PlanGood room table₀ plan₀ plan N
PlanSays room table₀ plan₀ N (Ok (planned.None n)) plan = PlanNone room table₀ N × (plan ≡ plan₀)
PlanSays room table₀ plan₀ N (Ok (planned.Short i)) plan = PlanShort room table₀ plan₀ N × (plan ≡ plan₀)
PlanSays room table₀ plan₀ N (Err u) plan = NotDecided room table₀ u × (plan ≡ plan₀)

pub record PlanReply (room : Room) (table₀ plan₀ : List ℕ) (r : PlanAnswer) (table plan : List ℕ) : Type 0 where
  pub says : PlanSays room table₀ plan₀ (planned_numbers r) r plan
  pub table_is : table ≡ table_after (planned_numbers r).code table₀

-- ---- Judge

-- past accepted: count
pub record JudgeGood (room : Room) (past table₀ : List ℕ) (N : Numbers) : Type 0 where
  pub decided : Decided room table₀ N.count
  pub centre : Centre room past

-- past not in the centre: count; place: length of its shortest beginning outside the centre
pub record JudgeOut (room : Room) (past table₀ : List ℕ) (N : Numbers) : Type 0 where
  pub decided : Decided room table₀ N.count
  pub outside : Outside room past N.place

-- judging never gives 1, 2 or 11
abbrev pub JudgeSays : Room → List ℕ → List ℕ → Numbers → JudgeAnswer → Type 0
JudgeSays room past table₀ N (Ok (judged.Good n)) = JudgeGood room past table₀ N
JudgeSays room past table₀ N (Ok (judged.Out n i)) = JudgeOut room past table₀ N
JudgeSays room past table₀ N (Err u) = NotDecided room table₀ u

pub record JudgeReply (room : Room) (past table₀ : List ℕ) (r : JudgeAnswer) (table : List ℕ) : Type 0 where
  pub says : JudgeSays room past table₀ (judged_numbers r) r
  pub table_is : table ≡ table_after (judged_numbers r).code table₀

-- ---- Read

-- the reader gives only 0 and 2, and on 2 no room; place: first bad line, from 0
abbrev pub ReadSays : List ℕ → Numbers → ReadAnswer → Type 0
ReadSays text N (Ok room) = Read text room
ReadSays text N (Err b) = FirstBadLine text N.place

abbrev pub ReadReply : List ℕ → ReadAnswer → Type 0
ReadReply text r = ReadSays text (reading_numbers r) r

-- ---- Write

-- text written; place = bytes written
pub record WriteGood (room : Room) (text₀ text : List ℕ) (N : Numbers) : Type 0 where
  pub limits : Limits room
  pub place : N.place ≡ length (render room)
  pub fits : length (render room) ≤ length text₀
  pub buffer : text ≡ written (render room) text₀

-- text longer than its buffer; place: length needed
pub record WriteShort (room : Room) (text₀ : List ℕ) (N : Numbers) : Type 0 where
  pub limits : Limits room
  pub place : N.place ≡ length (render room)
  pub short : length text₀ < length (render room)

-- the writer gives 0, 3 to 8 and 11
abbrev pub WriteSays : Room → List ℕ → Numbers → WriteAnswer → List ℕ → Type 0
WriteSays room text₀ N (Ok i) text = WriteGood room text₀ text N
WriteSays room text₀ N (Err (unwritten.Refused r)) text = Refused room r × (text ≡ text₀)
WriteSays room text₀ N (Err (unwritten.Short i)) text = WriteShort room text₀ N × (text ≡ text₀)

abbrev pub WriteReply : Room → List ℕ → WriteAnswer → List ℕ → Type 0
WriteReply room text₀ r text = WriteSays room text₀ (writing_numbers r) r text
