-- Entries beyond a stated number are not looked at (01, "A room"): what the ranges and the rules say of a room, they say of every room with the same
-- used entries. Each law goes from one room to the other; `used_sym` turns it round.
--   used_sym                                             the other way round
--   first_used .. period_used, start_used .. done_used   the numbers of a job
--   good_job_used, good_section_used, good_link_used     the ranges of an entry
--   engines_fit_used, jobs_fit_used, each_job_fits_used, sections_fit_used, links_fit_used
--                                                        the ranges of a room, part by part
--   multiple_used, clock_used, limits_used               H and R, and all the ranges
--   current_used, engine_rule_used .. end_rule_used      the rules that look at no sender
--   configuration_used                                   the configuration of a past
--   link_rule_used, slot_used, admissible_used           the link rule, and with it all: within the limits a link's sender is a job of the room
--   reached_used                                         the configurations that admissible pasts reach
--   continues_used, centre_used                          the centre
use Prim.Native.Nat.{ℕ, ◌+◌, ◌≤◌, ◌<◌}
use native.Mathlib.Omega.{arith}
use mathlib.Core.Path.{◌≡◌, sym, ap, ◌∙◌}
use mathlib.Core.List.{List}
use Rattle.paper.specs.declared.Room.{Room}
use Rattle.paper.specs.declared.Times.{Times}
use Rattle.paper.specs.declared.Job.{Job}
use Rattle.paper.specs.declared.Configuration.{Configuration}
use Rattle.paper.specs.Room.{job, section, link, first, load, deadline, period, GoodJob, GoodSection, GoodLink}
use Rattle.paper.specs.Room.{EnginesFit, JobsFit, EachJobFits, SectionsFit, LinksFit, Multiple, GreatestFirst, Clock, Limits, SameUsed}
use Rattle.paper.specs.Past.{start, due, Current, units, instance, done, EngineRule, JobRule, Uses, LinkRule, Slot, EndRule, Admissible}
use Rattle.paper.specs.Centre.{Continues, Centre}
use Rattle.paper.specs.Configuration.{sixteen, configuration, Reached}
use Rattle.laws.proofs.Multiples.{least_same}
use Rattle.paper.proofs.Steps.{sixteen_same}
use Rattle.paper.proofs.Tests.{running_known}

pub used_sym : {room room' : Room} → SameUsed room room' → SameUsed room' room
used_sym same = record {
  engines = sym same.engines;
  jobs = sym same.jobs;
  sections = sym same.sections;
  links = sym same.links;
  job = λ i h. sym (same.job i (omega arith));
  section = λ q h. sym (same.section q (omega arith));
  link = λ q h. sym (same.link q (omega arith));
}

module _ {room room' : Room} (same : SameUsed room room') where
  -- ---- A job

  module _ {i : ℕ} (h : i < room.jobs) where
    first_used : first room i ≡ first room' i
    first_used = ap (λ (j : Job). j.first) (same.job i h)

    load_used : load room i ≡ load room' i
    load_used = ap (λ (j : Job). j.load) (same.job i h)

    deadline_used : deadline room i ≡ deadline room' i
    deadline_used = ap (λ (j : Job). j.deadline) (same.job i h)

    period_used : period room i ≡ period room' i
    period_used = ap (λ (j : Job). j.period) (same.job i h)

    start_used : (k : ℕ) → start room i k ≡ start room' i k
    unfolding start
    start_used k = rw (first_used, period_used)

    due_used : (k : ℕ) → due room i k ≡ due room' i k
    unfolding due
    due_used k = rw (start_used k, deadline_used)

    units_used : (l : List ℕ) (k : ℕ) → units room l i k ≡ units room' l i k
    unfolding units
    units_used l k = rw (start_used k, period_used)

    done_used : (l : List ℕ) → done room l i ≡ done room' l i
    unfolding done instance
    done_used l = rw (units_used l _, first_used, period_used)

  -- ---- The ranges

  pub good_job_used : (i : ℕ) → i < room'.jobs → GoodJob (job room i) → GoodJob (job room' i)
  good_job_used i h x = rw (← same.job i (omega arith)) x

  pub good_section_used : (q : ℕ) → q < room'.sections → GoodSection room (section room q) → GoodSection room' (section room' q)
  good_section_used q h x = rw (← same.section q (omega arith)) (omega (arith, load_used x.known))

  pub good_link_used : (q : ℕ) → q < room'.links → GoodLink room (link room q) → GoodLink room' (link room' q)
  good_link_used q h x =
      let a = x.sender in
      let b = x.receiver in
      rw (← same.link q (omega arith)) (omega (arith, first_used a, first_used b, period_used a, period_used b))

  pub engines_fit_used : EnginesFit room → EnginesFit room'
  engines_fit_used x = omega arith

  pub jobs_fit_used : JobsFit room → JobsFit room'
  jobs_fit_used x = omega arith

  pub each_job_fits_used : EachJobFits room → EachJobFits room'
  each_job_fits_used x i h = good_job_used i h (x i (omega arith))

  pub sections_fit_used : SectionsFit room → SectionsFit room'
  sections_fit_used x = (omega arith, λ q h. good_section_used q h (x.1 q (omega arith)))

  pub links_fit_used : LinksFit room → LinksFit room'
  links_fit_used x = (omega arith, λ q h. good_link_used q h (x.1 q (omega arith)))

  pub multiple_used : {n h : ℕ} → n ≤ room.jobs → Multiple room n h → Multiple room' n h
  multiple_used l x = least_same (period room) (period room') (λ i h. period_used (omega arith)) x

  all_multiple_used : {h : ℕ} → Multiple room room.jobs h → Multiple room' room'.jobs h
  all_multiple_used x = rw (← same.jobs) (multiple_used (omega arith) x)

  greatest_first_used : {R : ℕ} → GreatestFirst room R → GreatestFirst room' R
  greatest_first_used x = record {
    bound = λ i h. let g : i < room.jobs = omega arith in omega (arith, first_used g, x.bound i g);
    which = x.which;
    known = omega arith;
    same = omega (arith, first_used x.known);
  }

  pub clock_used : {times : Times} → Clock room times → Clock room' times
  clock_used x = search (greatest_first_used, all_multiple_used)

  pub limits_used : Limits room → Limits room'
  limits_used x = search (engines_fit_used, jobs_fit_used, each_job_fits_used, sections_fit_used, links_fit_used, all_multiple_used)

  -- ---- The rules

  current_used : {i s k : ℕ} → i < room.jobs → Current room i s k → Current room' i s k
  current_used {k = k} h x = omega (arith, start_used h k, start_used h (k + 1))

  engine_rule_used : {m : ℕ} → EngineRule room m → EngineRule room' m
  engine_rule_used x = record { known = λ i h. x.known i (omega arith); few = omega arith }

  module _ {l : List ℕ} where
    job_rule_used : {i : ℕ} → i < room.jobs → JobRule room l i → JobRule room' l i
    job_rule_used h x =
        let c = current_used h x.current in
        search (← due_used h x.k, ← done_used h l, ← load_used h)

    uses_used : {m i b : ℕ} → i < room.jobs → Uses room l m i b → Uses room' l m i b
    uses_used h x =
        let g : x.q < room'.sections = omega arith in
        search (← same.section x.q x.listed, ← done_used h l)

  end_rule_used : (l : List ℕ) → EndRule room l → EndRule room' l
  end_rule_used l x i k h g =
      let j : i < room.jobs = omega arith in
      let s = start_used j k in
      omega (arith, load_used j, due_used j k, units_used j l k, x i k j (omega arith))

  pub configuration_used : (times : Times) (l : List ℕ) → configuration room times l ≡ configuration room' times l
  unfolding configuration sixteen
  configuration_used times l = let d = sixteen_same room (done room l) (done room' l) (λ i h. done_used h l) in rw (d, same.jobs)

-- ---- Pasts

module _ {room room' : Room} (same : SameUsed room room') (limits : Limits room) where
  link_rule_used : (l : List ℕ) (m : ℕ) → EngineRule room' m → LinkRule room l m → LinkRule room' l m
  link_rule_used l m r x q k h b c =
      let g : q < room.links = omega arith in
      let e = same.link q g in
      let j = (limits.links.1 q g).sender in
      rw (← e) (sym (units_used same j l k) ∙ x q k g (rw e b) (rw e (current_used (used_sym same) (running_known r _ b) c)) ∙ load_used same j)

  slot_used : {l : List ℕ} {m : ℕ} → Slot room l m → Slot room' l m
  slot_used {l} {m} x =
      let r = engine_rule_used same x.engines in
      record {
        engines = r;
        job = λ i b. job_rule_used same (running_known x.engines i b) (x.job i b);
        block = λ b i j u v.
            x.block b i j (uses_used (used_sym same) (running_known r i u.running) u) (uses_used (used_sym same) (running_known r j v.running) v);
        link = link_rule_used l m r x.link;
      }

  pub admissible_used : {l : List ℕ} → Admissible room l → Admissible room' l
  admissible_used {l} x = record { slots = λ t h. slot_used (x.slots t h); end = end_rule_used same l x.end }

  pub reached_used : {times : Times} {c : Configuration} → Reached room times c → Reached room' times c
  reached_used {times} x = search (admissible_used, ← configuration_used same times x.past)

  continues_used : {l : List ℕ} {n : ℕ} → Continues room l n → Continues room' l n
  continues_used x = search admissible_used

  pub centre_used : {l : List ℕ} → Centre room l → Centre room' l
  centre_used x = search (admissible_used, continues_used, x.continues)
