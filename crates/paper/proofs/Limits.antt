-- The limits of a room, its R and its H by computing. R is the least number that no first slot passes, H the least that every period divides.
--   job_fits, section_fits, link_fits   the ranges of an entry, as tests
--   bound_test, common_test            no first slot is above r; every period divides h
--   R, H, times                      of a room, as found
--   clock_test, T_clock               they pass, and so are the room's clock
--   limits_test, T_limits             all ranges, with that clock
use Prim.Native.Nat.{ℕ, ◌≤◌, ◌<◌, ◌%◌}
use native.Mathlib.Omega.{arith}
use mathlib.Core.Path.{◌≡◌, subst}
use mathlib.Core.Logic.{⊎_elim}
use mathlib.Core.Bool.{Bool, not}
use lib.Dec.{T, ltb, leb, eqb, ltb→lt, leb→le, le→leb, eqb→eq, T_not}
use Rattle.paper.specs.declared.Room.{Room}
use Rattle.paper.specs.declared.Times.{Times}
use Rattle.paper.specs.declared.Job.{Job}
use Rattle.paper.specs.declared.Section.{Section}
use Rattle.paper.specs.declared.Link.{Link}
use Rattle.paper.specs.Room.{job, section, link, first, load, period, GoodJob, GoodSection, GoodLink, GreatestFirst, Clock, Limits}
use Rattle.laws.specs.Tests.{both, all}
use Rattle.laws.proofs.Tests.{lt_or_le, T_and, all_T, T_all, eqb_T}
use Rattle.paper.proofs.Clocks.{greatest_first_exists}
use Rattle.paper.proofs.Searches.{least, least_first}

-- ---- The ranges

unfoldable pub job_fits : Job → Bool
job_fits j =
    both (leb j.first 255) (both (leb 1 j.load) (both (leb j.load j.deadline) (both (leb j.deadline j.period) (leb j.period 64))))

unfoldable pub section_fits : Room → Section → Bool
section_fits room s =
    both (ltb s.job room.jobs) (both (leb s.block 7) (both (ltb s.first s.after) (leb s.after (load room s.job))))

unfoldable pub link_fits : Room → Link → Bool
link_fits room k =
    both (ltb k.sender room.jobs) (both (ltb k.receiver room.jobs) (both (not (eqb k.sender k.receiver))
    (both (eqb (first room k.sender) (first room k.receiver)) (eqb (period room k.sender) (period room k.receiver)))))

T_job : (j : Job) → T (job_fits j) → GoodJob j
unfolding job_fits
T_job j t =
    let a = T_and _ _ t in
    let b = T_and _ _ a.1 in
    let c = T_and _ _ b.1 in
    let d = T_and _ _ c.1 in
    record { early = leb→le _ _ a.0; works = leb→le _ _ b.0; fits = leb→le _ _ c.0; ends = leb→le _ _ d.0; short = leb→le _ _ d.1 }

T_section : (room : Room) (s : Section) → T (section_fits room s) → GoodSection room s
unfolding section_fits
T_section room s t =
    let a = T_and _ _ t in
    let b = T_and _ _ a.1 in
    let c = T_and _ _ b.1 in
    record { known = ltb→lt _ _ a.0; block = leb→le _ _ b.0; some = ltb→lt _ _ c.0; within = leb→le _ _ c.1 }

T_link : (room : Room) (k : Link) → T (link_fits room k) → GoodLink room k
unfolding link_fits
T_link room k t =
    let a = T_and _ _ t in
    let b = T_and _ _ a.1 in
    let c = T_and _ _ b.1 in
    let d = T_and _ _ c.1 in
    record {
      sender = ltb→lt _ _ a.0;
      receiver = ltb→lt _ _ b.0;
      differ = λ e. T_not (eqb k.sender k.receiver) c.0 (eqb_T _ _ e);
      first = eqb→eq _ _ d.0;
      period = eqb→eq _ _ d.1;
    }

module _ (room : Room) where
  -- ---- R and H

  unfoldable pub bound_test : ℕ → Bool
  bound_test r = all room.jobs (λ i. leb (first room i) r)

  unfoldable pub common_test : ℕ → Bool
  common_test h = all room.jobs (λ i. eqb (h % period room i) 0)

  unfoldable pub R : ℕ
  R = least bound_test 256 0

  unfoldable pub H : ℕ
  H = least common_test 4096 1

  unfoldable pub times : Times
  times = record { first = R; multiple = H }

  unfoldable pub clock_test : Bool
  clock_test = both (leb 1 room.jobs) (both (bound_test R) (both (ltb 0 H) (common_test H)))

  greatest : 1 ≤ room.jobs → T (bound_test R) → GreatestFirst room R
  unfolding R bound_test
  greatest some t =
      let g = greatest_first_exists room some in
      let r = g.1 in
      let up : r.which < room.jobs → first room r.which ≤ R = λ h. leb→le _ _ (T_all _ _ t r.which h) in
      let e : g.0 ≡ R = ⊎_elim
      (λ (h : g.0 < R). absurd (least_first bound_test 256 0 g.0 (omega arith) h (all_T _ _ (λ i l. le→leb _ _ (r.bound i l)))))
      (λ (h : R ≤ g.0). omega (arith, up r.known, r.same))
      (lt_or_le g.0 R) in
      subst (GreatestFirst room) e r

  pub T_clock : T clock_test → Clock room times
  unfolding times clock_test H common_test
  T_clock t =
      let a = T_and _ _ t in
      let b = T_and _ _ a.1 in
      let c = T_and _ _ b.1 in
      record {
        greatest = greatest (leb→le _ _ a.0) b.0;
        multiple = record {
          positive = ltb→lt _ _ c.0;
          common = λ i h. eqb→eq _ _ (T_all _ _ c.1 i h);
          least = λ g h x. ⊎_elim
              (λ (l : g < H). absurd (least_first common_test 4096 1 g h l (all_T _ _ (λ i k. eqb_T _ _ (x i k)))))
              (λ (l : H ≤ g). l)
              (lt_or_le g H);
        };
      }

  -- ---- All of it

  unfoldable pub limits_test : Bool
  limits_test =
      both (both (leb 1 room.engines) (leb room.engines 8))
      (both (both (leb 1 room.jobs) (leb room.jobs 16))
      (both (all room.jobs (λ i. job_fits (job room i)))
      (both (both (leb room.sections 32) (all room.sections (λ q. section_fits room (section room q))))
      (both (both (leb room.links 16) (all room.links (λ q. link_fits room (link room q))))
      (leb H 4096)))))

  pub T_limits : T limits_test → Clock room times → Limits room
  unfolding limits_test H times
  T_limits t clock =
      let a = T_and _ _ t in
      let b = T_and _ _ a.1 in
      let c = T_and _ _ b.1 in
      let d = T_and _ _ c.1 in
      let e = T_and _ _ d.1 in
      let engines = T_and _ _ a.0 in
      let jobs = T_and _ _ b.0 in
      let sections = T_and _ _ d.0 in
      let links = T_and _ _ e.0 in
      record {
        engines = (leb→le _ _ engines.0, leb→le _ _ engines.1);
        jobs = (leb→le _ _ jobs.0, leb→le _ _ jobs.1);
        job = λ i h. T_job _ (T_all _ _ c.0 i h);
        sections = (leb→le _ _ sections.0, λ q h. T_section room _ (T_all _ _ sections.1 q h));
        links = (leb→le _ _ links.0, λ q h. T_link room _ (T_all _ _ links.1 q h));
        H = H;
        multiple = clock.multiple;
        short = leb→le _ _ e.1;
      }
