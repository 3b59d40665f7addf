-- The order of tests that the calls share, as forks: 3 to 8, then TABLE and ROOM, then what a call asks further. Each fork asks for a range; where
-- the room is outside it, the answer names the place. u r is the outcome of a call that answers with r, a refusal or what is undecided.
--   BadJob, BadSection, BadLink   the places of JOB, SECTION and LINK
--   MultipleFits                  H is at most 4,096
--   Refusals                      3 to 8, and then Rest
--   refusals_one                  they have one outcome, where Rest has
--   refused                       a refusal is one of their outcomes
--   limits_through                within the limits the outcome is one of Rest
--   Held                          the table holds all configurations
--   Deciding                      3 to 8, TABLE and ROOM, and then Rest
--   deciding_one                  they have one outcome, where Rest has
--   not_decided                   what is not decided is one of their outcomes
--   decided                       of a decided room the outcome is one of Rest
--   refused_as_found              a refusal leaves the table as found
--   refused_slots                 and names no prefix and no cycle
use Prim.Native.Nat.{ℕ, ◌+◌, ◌≤◌}
use native.Mathlib.Omega.{arith}
use mathlib.Core.Path.{◌≡◌, refl}
use mathlib.Core.List.{List}
use lib.ListN.{length}
use Rattle.paper.specs.declared.Room.{Room}
use Rattle.paper.specs.declared.Refusal.{Refusal}
use Rattle.paper.specs.declared.Refusal.TheVariants as refusal
use Rattle.paper.specs.declared.Undecided.{Undecided}
use Rattle.paper.specs.declared.Undecided.TheVariants as undecided
use Rattle.paper.specs.Room.{job, section, link, GoodJob, GoodSection, GoodLink, EnginesFit, JobsFit, EachJobFits, SectionsFit, LinksFit}
use Rattle.paper.specs.Room.{Multiple, Limits}
use Rattle.paper.specs.Reply.{refusal_numbers, LeastBad, FirstBad, Passes, ToJob, ToSection, ToLink, ToLong, Refused}
use Rattle.paper.specs.Reply.{CountIs, most, W, table_after, Decided, NotDecided}
use Rattle.laws.specs.Forks.{One, Fork, fails, passes, Settled, Leaf}
use Rattle.laws.proofs.Forks.{fork_one, settled_one, leaf_one, leaf}
use Rattle.paper.proofs.Uniques.{more_than_counted, least_bad_one, first_bad_one, first_bad_not_fit, passes_one, passes_long}

-- ---- 3 to 8

abbrev pub BadJob : Room → ℕ → Type 0
BadJob room = LeastBad (λ k. GoodJob (job room k)) room.jobs

abbrev pub BadSection : Room → ℕ → Type 0
BadSection room = FirstBad (λ q. GoodSection room (section room q)) room.sections 32

abbrev pub BadLink : Room → ℕ → Type 0
BadLink room = FirstBad (λ q. GoodLink room (link room q)) room.links 16

pub record MultipleFits (room : Room) : Type 0 where
  pub H : ℕ
  pub multiple : Multiple room room.jobs H
  pub short : H ≤ 4096

module _ {Z : Type 0} (room : Room) (u : Refusal → Z) (Rest : Z → Type 0) where
  -- the tests from each on
  abbrev FromLong : Z → Type 0
  FromLong = Fork (MultipleFits room) (Leaf (Passes room) (λ i. u (refusal.Long i))) Rest

  abbrev FromLink : Z → Type 0
  FromLink = Fork (LinksFit room) (Leaf (BadLink room) (λ i. u (refusal.Link i))) FromLong

  abbrev FromSection : Z → Type 0
  FromSection = Fork (SectionsFit room) (Leaf (BadSection room) (λ i. u (refusal.Section i))) FromLink

  abbrev FromJob : Z → Type 0
  FromJob = Fork (EachJobFits room) (Leaf (BadJob room) (λ i. u (refusal.Job i))) FromSection

  abbrev FromJobs : Z → Type 0
  FromJobs = Fork (JobsFit room) (Settled (u refusal.Jobs)) FromJob

  abbrev pub Refusals : Z → Type 0
  Refusals = Fork (EnginesFit room) (Settled (u refusal.Engines)) FromJobs

  pub refusals_one : One Rest → One Refusals
  refusals_one f =
      fork_one (settled_one _)
      (fork_one (settled_one _)
      (fork_one (leaf_one _ least_bad_one)
      (fork_one (leaf_one _ first_bad_one)
      (fork_one (leaf_one _ first_bad_one)
      (fork_one (leaf_one _ passes_one) f)))))

  to_job : {z : Z} → ToJob room → FromJob z → Refusals z
  to_job t x = passes t.0 (passes t.1 x)

  to_section : {z : Z} → ToSection room → FromSection z → Refusals z
  to_section t x = to_job t.0 (passes t.1 x)

  to_link : {z : Z} → ToLink room → FromLink z → Refusals z
  to_link t x = to_section t.0 (passes t.1 x)

  to_long : {z : Z} → ToLong room → FromLong z → Refusals z
  to_long t x = to_link t.0 (passes t.1 x)

  pub refused : (r : Refusal) → Refused room r → Refusals (u r)
  refused refusal.Engines x = fails x.fault refl
  refused refusal.Jobs x = passes x.earlier (fails x.fault refl)
  refused (refusal.Job i) x = to_job x.earlier (fails (λ f. x.fault.bad (f i x.fault.below)) (leaf _ i x.fault))
  refused (refusal.Section i) x = to_section x.earlier (fails (first_bad_not_fit x.fault) (leaf _ i x.fault))
  refused (refusal.Link i) x = to_link x.earlier (fails (first_bad_not_fit x.fault) (leaf _ i x.fault))
  refused (refusal.Long i) x =
      to_long x.earlier (fails (λ s. omega (arith, passes_long x.fault s.multiple, s.short)) (leaf _ i x.fault))

  pub limits_through : {z : Z} → Limits room → Rest z → Refusals z
  limits_through l x =
      to_long ((((l.engines, l.jobs), l.job), l.sections), l.links)
      (passes (record { H = l.H; multiple = l.multiple; short = l.short }) x)

-- ---- TABLE and ROOM

pub record Held (room : Room) (table₀ : List ℕ) : Type 0 where
  pub n : ℕ
  pub count : CountIs room n
  pub fits : n ≤ W table₀

module _ {Z : Type 0} (room : Room) (table₀ : List ℕ) (u : Undecided → Z) (Rest : Z → Type 0) where
  abbrev refusing : Refusal → Z
  refusing r = u (undecided.Refused r)

  abbrev Sizes : Z → Type 0
  Sizes = Fork (length table₀ ≤ most) (Settled (u undecided.Table)) (Fork (Held room table₀) (Settled (u undecided.Room)) Rest)

  abbrev pub Deciding : Z → Type 0
  Deciding = Refusals room refusing Sizes

  pub deciding_one : One Rest → One Deciding
  deciding_one f = refusals_one room refusing Sizes (fork_one (settled_one _) (fork_one (settled_one _) f))

  pub not_decided : (d : Undecided) → NotDecided room table₀ d → Deciding (u d)
  not_decided (undecided.Refused r) x = refused room refusing Sizes r x
  not_decided undecided.Table x = limits_through room refusing Sizes x.limits (fails (λ h. omega (arith, x.long)) refl)
  not_decided undecided.Room x =
      limits_through room refusing Sizes x.limits
      (passes x.lent (fails (λ h. more_than_counted h.count h.fits x.more) refl))

  pub decided : {z : Z} {n : ℕ} → Decided room table₀ n → Rest z → Deciding z
  decided {n = n} d x =
      limits_through room refusing Sizes d.limits
      (passes d.lent (passes (record { n = n; count = d.count; fits = d.fits }) x))

-- ---- The numbers of a refusal

pub refused_as_found : (table : List ℕ) (r : Refusal) → table_after (refusal_numbers r).code table ≡ table
refused_as_found table refusal.Engines = refl
refused_as_found table refusal.Jobs = refl
refused_as_found table (refusal.Job i) = refl
refused_as_found table (refusal.Section i) = refl
refused_as_found table (refusal.Link i) = refl
refused_as_found table (refusal.Long i) = refl

pub refused_slots : (r : Refusal) → (refusal_numbers r).prefix + (refusal_numbers r).cycle ≡ 0
refused_slots refusal.Engines = refl
refused_slots refusal.Jobs = refl
refused_slots (refusal.Job i) = refl
refused_slots (refusal.Section i) = refl
refused_slots (refusal.Link i) = refl
refused_slots (refusal.Long i) = refl
