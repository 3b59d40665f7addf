-- From the parts of a call to its reply.
--   long_undecides                           a table that is too long
--   emptied_cleared                          lent words that are cleared have nothing in them
--   given_decided                            a pruned table decides the room
--   none_answer, short_answer, good_answer   what it answers of the plan
use Prim.Native.Nat.{ℕ, ◌-◌, ◌≤◌, ◌<◌}
use native.Mathlib.Omega.{arith}
use mathlib.Core.Path.{◌≡◌, refl, sym}
use mathlib.Core.List.{List}
use lib.Dec.{T}
use lib.ListN.{length}
use Rattle.laws.proofs.Trails.{masks_length}
use Rattle.paper.specs.declared.Room.{Room}
use Rattle.paper.specs.declared.Undecided.TheVariants as undecided
use Rattle.paper.specs.declared.Planned.TheVariants as planned
use Rattle.paper.specs.Room.{Limits}
use Rattle.paper.specs.Reply.{W, most, written, Decided}
use Rattle.paper.specs.declared.Times.{Times}
use Rattle.table.specs.Contents.{Contents, Emptied}
use Rattle.table.proofs.Face.{passed_none}
use Rattle.explore.specs.Exploring.{Cleared}
use Rattle.states.specs.View.{lives, mask, leads}
use Rattle.states.proofs.Pruned.{table_count, table_feasible}
use Rattle.follow.specs.declared.Turn.{Turn}
use Rattle.follow.specs.Turns.{laid, Turned}
use Rattle.follow.specs.Pasts.{Given}
use Rattle.follow.proofs.Tables.{table_plan}
use Rattle.planner.specs.Calls.{Undecides, PlanAnswers}

pub long_undecides : {room : Room} {table : List ℕ} → Limits room → most < length table → Undecides room table undecided.Table table
long_undecides limits long = record { says = record { limits = limits; long = long }; table_is = refl }

pub emptied_cleared : {words : List ℕ} {t : Contents} → Emptied words t → Cleared t
emptied_cleared {words} {t} e = (e.none, λ j l. passed_none t.words (length words) t.capacity e.zeros j)

module _ {room : Room} {times : Times} {t : Contents} (g : Given room times t) where
  pub given_decided : (table₀ : List ℕ) → length table₀ ≤ most → t.capacity ≡ W table₀ → Decided room table₀ t.found
  given_decided table₀ lent same = record {
    limits = g.limits;
    lent = lent;
    count = table_count g.pruned g.limits g.clock;
    fits = omega (arith, g.pruned.holds.few);
  }

  pub none_answer : (plan : List ℕ) → ¬ T (lives t 0) → PlanAnswers room t.found plan (planned.None t.found) plan
  none_answer plan l table₀ d = record {
    says = (record { decided = d; infeasible = λ f. l ((table_feasible g.pruned g.limits g.clock).1 f) }, refl);
    table_is = refl;
  }

  module _ (l : T (lives t 0)) {r : Turn} {t' : Contents} (x : Turned t r t') where
    laid_length : length (laid t' r.length) ≡ r.length
    laid_length = masks_length (mask t') (leads t') 0 r.length

    pub short_answer : (plan : List ℕ) → length plan < r.length → PlanAnswers room t.found plan (planned.Short r.length) plan
    short_answer plan h table₀ d = record {
      says = (
        record {
          n = t.found;
          decided = d;
          masks = laid t' r.length;
          a = r.prefix;
          is = table_plan g.pruned g.limits g.clock l x;
          place = sym laid_length;
          short = rw laid_length h;
        },
        refl,
      );
      table_is = refl;
    }

    pub good_answer : (plan₀ plan : List ℕ) → r.length ≤ length plan₀ → plan ≡ written (laid t' r.length) plan₀
        → PlanAnswers room t.found plan₀ (planned.Good t.found r.prefix (r.length - r.prefix)) plan
    good_answer plan₀ plan h e table₀ d = record {
      says = record {
        decided = d;
        masks = laid t' r.length;
        is = table_plan g.pruned g.limits g.clock l x;
        cycle = rw laid_length (omega (arith, x.turns.earlier));
        fits = rw laid_length h;
        buffer = e;
      };
      table_is = refl;
    }
