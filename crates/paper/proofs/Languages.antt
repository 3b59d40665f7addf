-- Document 004's languages and this paper's pasts. An admissible past is a word of the product of the jobs' languages met with S_p* whose slots
-- keep the rules for blocks and links; so our centre is the centre of that language. It is 004's Definition 7 too, which takes the centre twice,
-- since a past in the centre has continuations in the centre as long as one likes.
--   Independent                        a room with no sections and no links
--   independent_synchronized           where the rules for blocks and links ask nothing
--   alone, past                        the room that has one job alone, on one engine, and a word as a past of it
--   Separate                           each mask keeps the engine rule, and each job's word is a time-valid behaviour
--   compatible_separate                the words of the product met with S_p* are these
--   admissible_separate, separate_admissible   an admissible past is such a word, and one that keeps the two rules is an admissible past
--   job_time_valid                     Definition 4: a word is a time-valid behaviour of a job exactly if it keeps the job's rules
--   admissible_dependent               the admissible pasts are the words of the product met with S_p* that keep the two rules
--   centre_dependent                   the centre is the centre of that language, by Definition 3
--   centre_dependent_valid             and the language of Definition 7
--   feasible_dependent_valid           4.2: a room is feasible exactly if that language is not empty
--   centre_valid, feasible_valid       Definition 6 and Theorem 1: the case of an independent room
use Prim.Native.Nat.{ℕ, zero, suc, ◌≤◌, ◌<◌, ◌^◌}
use native.Mathlib.Omega.{arith}
use mathlib.Core.Path.{◌≡◌, refl, ap₂}
use mathlib.Core.Logic.{◌↔◌, ⊎_elim}
use mathlib.Core.Bool.{Bool, true, false}
use mathlib.Core.List.{List, [], ◌∷◌, ◌++◌, map, map-append, append_assoc}
use lib.Count.{ones-le}
use lib.Dec.{lit<}
use lib.ListN.{length, take, get_or, length-append, replicate, get_or-append, get_or-map}
use Rattle.laws.proofs.Tests.{lt_or_le}
use Rattle.laws.proofs.Bits.{bit_beyond, below_of_bits}
use Rattle.paper.specs.declared.Room.{Room}
use Rattle.paper.specs.declared.Job.{Job}
use Rattle.paper.specs.Room.{job, no_job, no_section, no_link, GoodJob, EachJobFits, Limits}
use Rattle.paper.specs.Past.{bit, EngineRule, Slot, Admissible}
use Rattle.paper.specs.Centre.{Centre, Feasible}
use Rattle.paper.specs.Languages.{Language, Center, value, TimeValid, Shared, Compatible, SystemValid, Synchronized, Dependent, DependentValid}
use Rattle.paper.proofs.Beginnings.{beginning_admissible}
use Rattle.paper.proofs.Uniques.{centre_beginning}
use Rattle.paper.proofs.Plans.{centre_further}
use Rattle.paper.proofs.Words.{letter, word, Keeps}
use Rattle.paper.proofs.Automaton.{valid_keeps, admissible_valid}
use Rattle.paper.proofs.Products.{value_lt, star_letters, product_apart, shared_few}

-- ---- What the theorems speak of

-- document 004, section 3, has independent tasks
pub record Independent (room : Room) : Type 0 where
  pub no_sections : room.sections ≡ 0
  pub no_links : room.links ≡ 0

independent_synchronized : (room : Room) → Independent room → (l : List ℕ) → Synchronized room l
independent_synchronized room free l = record {
  block = λ t h b i j u v. absurd (omega (arith, u.listed, free.no_sections));
  link = λ t h q k g b c. absurd (omega (arith, g, free.no_links));
}

abbrev pub alone : Job → Room
alone j = record {
  engines = 1;
  jobs = 1;
  sections = 0;
  links = 0;
  job = j ∷ replicate 15 no_job;
  section = replicate 32 no_section;
  link = replicate 16 no_link;
}

unfoldable pub past : List Bool → List ℕ
past w = map value w

-- ---- Job by job

pub record Separate (room : Room) (l : List ℕ) : Type 0 where
  pub engines : (t : ℕ) → t < length l → EngineRule room (get_or l t 0)
  pub jobs : (i : ℕ) → i < room.jobs → TimeValid (job room i) (word i l)

engine_shared : (room : Room) (m : ℕ) → EngineRule room m ↔ ((m < 2 ^ room.jobs) × Shared room.jobs room.engines m)
engine_shared room m = (
  λ x. let h = below_of_bits m room.jobs x.known in (h, (shared_few room.jobs room.engines m h).1 x.few),
  λ x. record { known = λ i. bit_beyond m room.jobs i x.0; few = (shared_few room.jobs room.engines m x.0).0 x.1 },
)

pub compatible_separate : (room : Room) (l : List ℕ) → Compatible room l ↔ Separate room l
compatible_separate room l = (
  λ x.
      let a = (product_apart (λ i. TimeValid (job room i)) room.jobs l).0 x.jobs in
      let s = (star_letters (Shared room.jobs room.engines) l).0 x.shared in
      record { engines = λ t h. (engine_shared room (get_or l t 0)).1 (a.known t h, s t h); jobs = a.each },
  λ x. record {
    jobs = (product_apart (λ i. TimeValid (job room i)) room.jobs l).1
        (record { known = λ t h. ((engine_shared room (get_or l t 0)).0 (x.engines t h)).0; each = x.jobs });
    shared = (star_letters (Shared room.jobs room.engines) l).1 (λ t h. ((engine_shared room (get_or l t 0)).0 (x.engines t h)).1);
  },
)

module _ (room : Room) (fit : EachJobFits room) (l : List ℕ) where
  admissible_separate : Admissible room l → Separate room l
  admissible_separate a = record {
    engines = λ t h. (a.slots t h).engines;
    jobs = λ i h. admissible_valid room i (fit i h) h l a;
  }

  separate_admissible : Separate room l → Synchronized room l → Admissible room l
  separate_admissible x y = record { slots = slots; end = λ i k h. (keeps i h).end k }
    where
      keeps : (i : ℕ) → i < room.jobs → Keeps room l i
      keeps i h = valid_keeps room i (fit i h) l (x.jobs i h)

      slots : (t : ℕ) → t < length l → Slot room (take t l) (get_or l t 0)
      slots t h = record {
        engines = x.engines t h;
        job = λ i b. ⊎_elim
            (λ (g : i < room.jobs). (keeps i g).slots t h b)
            (λ (g : room.jobs ≤ i). absurd (omega (arith, (x.engines t h).known i g)))
            (lt_or_le i room.jobs);
        block = y.block t h;
        link = y.link t h;
      }

-- ---- One job

letter_past : (b : Bool) → letter 0 (value b) ≡ b
unfolding bit value
letter_past true = refl
letter_past false = refl

word_past : (w : List Bool) → word 0 (past w) ≡ w
unfolding word past
word_past [] = refl
word_past (b ∷ w) = ap₂ (λ (x : Bool) (r : List Bool). x ∷ r) (letter_past b) (word_past w)

module _ (j : Job) (good : GoodJob j) where
  alone_fits : EachJobFits (alone j)
  alone_fits zero h = good
  alone_fits (suc i) h = absurd (omega arith)

  alone_engines : (w : List Bool) (t : ℕ) → EngineRule (alone j) (get_or (past w) t 0)
  unfolding past value
  alone_engines w t =
      let b = get_or w t false in
      rw (get_or-map value w t false)
      (record { known = λ i. bit_beyond (value b) 1 i (value_lt b); few = ones-le 1 (value b) (value_lt b) })

  -- Definition 4. In the room with the job alone no rule but the job's own asks anything
  pub job_time_valid : (w : List Bool) → TimeValid j w ↔ Admissible (alone j) (past w)
  job_time_valid w = (
    λ x. separate_admissible (alone j) alone_fits (past w) (record { engines = λ t h. alone_engines w t; jobs = valid x })
        (independent_synchronized (alone j) (record { no_sections = refl; no_links = refl }) (past w)),
    λ a. rw (word_past w) at ((admissible_separate (alone j) alone_fits (past w) a).jobs 0 (lit< tt)),
  )
    where
      valid : TimeValid j w → (i : ℕ) → i < 1 → TimeValid (job (alone j) i) (word i (past w))
      valid x zero h = rw (word_past w) x
      valid x (suc i) h = absurd (omega arith)

-- ---- Beginnings of words

center_beginning : {A : Type 0} (L : Language A) (α β : List A) → Center L (α ++ β) → Center L α
center_beginning L α β x = record {
  extends = λ n.
      let y = x.extends n in
      record { β = β ++ y.β; long = omega (arith, length-append β y.β, y.long); within = rw (← append_assoc α β y.β) y.within };
}

separate_beginning : (room : Room) (l r : List ℕ) → Separate room (l ++ r) → Separate room l
unfolding word
separate_beginning room l r x = record {
  engines = λ t h. rw (get_or-append l r 0 t h) at (x.engines t (omega (arith, length-append l r)));
  jobs = λ i h. center_beginning _ (word i l) (word i r) (rw (map-append (letter i) l r) at (x.jobs i h));
}

-- a time-valid behaviour of the system keeps the engine rule and each job's rules
valid_separate : (room : Room) (l : List ℕ) → SystemValid room l → Separate room l
valid_separate room l x = let y = x.extends 0 in separate_beginning room l y.β ((compatible_separate room (l ++ y.β)).0 y.within)

-- ---- The system

module _ {room : Room} (limits : Limits room) where
  admissible_within : (l : List ℕ) → Admissible room l → Dependent room l
  admissible_within l a = (
    (compatible_separate room l).1 (admissible_separate room limits.job l a),
    record { block = λ t h. (a.slots t h).block; link = λ t h. (a.slots t h).link },
  )

  pub admissible_dependent : (l : List ℕ) → Admissible room l ↔ Dependent room l
  admissible_dependent l = (
    admissible_within l,
    λ x. separate_admissible room limits.job l ((compatible_separate room l).0 x.0) x.1,
  )

  -- the centre, of words of any language that makes them admissible
  center_centre : (L : Language ℕ) → ((l : List ℕ) → L l → Admissible room l) → (l : List ℕ) → Center L l → Centre room l
  center_centre L keeps l x = record {
    admissible = let y = x.extends 0 in beginning_admissible room l y.β (keeps (l ++ y.β) y.within);
    continues = λ n. let y = x.extends n in record { rest = y.β; long = omega (arith, y.long); keeps = keeps (l ++ y.β) y.within };
  }

  centre_center : (L : Language ℕ) → ((l : List ℕ) → Admissible room l → L l) → (l : List ℕ) → Centre room l → Center L l
  centre_center L within l x = record {
    extends = λ n. let y = x.continues (suc n) in record { β = y.rest; long = y.long; within = within (l ++ y.rest) y.keeps };
  }

  pub centre_dependent : (l : List ℕ) → Centre room l ↔ Center (Dependent room) l
  centre_dependent l = (
    centre_center (Dependent room) admissible_within l,
    center_centre (Dependent room) (λ k. (admissible_dependent k).1) l,
  )

  -- Definition 7
  pub centre_dependent_valid : (l : List ℕ) → Centre room l ↔ DependentValid room l
  centre_dependent_valid l = (
    λ x. record {
      extends = λ n.
          let y = centre_further limits l x (suc n) in
          let valid = centre_center (Compatible room) (λ k a. (admissible_within k a).0) (l ++ y.0) y.2 in
          record { β = y.0; long = y.1; within = (valid, (admissible_within (l ++ y.0) y.2.admissible).1) };
    },
    center_centre _ (λ k x. separate_admissible room limits.job k (valid_separate room k x.0) x.1) l,
  )

  -- where each past in the centre is a word of L, and each word of L is in the centre
  feasible_some : (L : Language ℕ) → ((l : List ℕ) → Centre room l ↔ L l) → Feasible room ↔ ((l : List ℕ) × L l)
  feasible_some L same = (λ x. ([], (same []).0 x), λ x. centre_beginning room [] x.0 ((same x.0).1 x.1))

  pub feasible_dependent_valid : Feasible room ↔ ((l : List ℕ) × DependentValid room l)
  feasible_dependent_valid = feasible_some (DependentValid room) centre_dependent_valid

  module _ (free : Independent room) where
    -- Definition 6
    pub centre_valid : (l : List ℕ) → Centre room l ↔ SystemValid room l
    centre_valid l = (
      centre_center (Compatible room) (λ k a. (admissible_within k a).0) l,
      center_centre (Compatible room) (λ k x. (admissible_dependent k).1 (x, independent_synchronized room free k)) l,
    )

    -- Theorem 1
    pub feasible_valid : Feasible room ↔ ((l : List ℕ) × SystemValid room l)
    feasible_valid = feasible_some (SystemValid room) centre_valid
