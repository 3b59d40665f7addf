-- The automaton of a periodic job (004, Figure 2), between the job's rules and its language. In state c e g the instance has c units
-- and e idle slots to go before its deadline, then g idle slots before the next instance. What it reads are the beginnings of the
-- language's words; its edges are the letters that the rules allow.
--   Edge, Reads              an edge from state to state, with its letter; the words read from a state on
--   reads_front              a beginning of a word that is read is read
--   Rest                     the words that end an instance and go on with whole ones
--   reads_rest, star_reads   what is read goes on to such words as long as one likes, and they are read
--   valid_reads              the time-valid behaviours are the words read from the start
--   At                       the state after a past
--   edge_fits, fits_edge     a letter with an edge fits, and a letter that fits has an edge
--   reads_keeps              a past whose word is read keeps the job's rules
--   admissible_reads         the word of an admissible past is read
--   valid_keeps              a past whose word is a time-valid behaviour keeps the job's rules
--   admissible_valid         each job's word in an admissible past is a time-valid behaviour
use Prim.Native.Nat.{ℕ, zero, suc, ◌+◌, ◌-◌, ◌≤◌, ◌<◌}
use native.Mathlib.Omega.{arith}
use native.Mathlib.Nat.{zero-add}
use mathlib.Core.Path.{◌≡◌, refl, ap, ◌∙◌}
use mathlib.Core.Logic.{◌↔◌}
use mathlib.Core.Bool.{Bool, true, false}
use mathlib.Core.List.{List, [], ◌∷◌, ◌++◌, append-nil, append_assoc}
use lib.ListN.{length, length-append, replicate, length-replicate}
use Rattle.laws.proofs.Lists.{length_more}
use Rattle.paper.specs.declared.Room.{Room}
use Rattle.paper.specs.declared.Job.{Job}
use Rattle.paper.specs.Room.{job, first, load, deadline, period, GoodJob}
use Rattle.paper.specs.Past.{bit, start, due, units, Current, Admissible}
use Rattle.paper.specs.Languages.{Language, Shuffle, first_empty, second_empty, from_first, from_second, Star, none, more, Extension}
use Rattle.paper.specs.Languages.{run, idle, Instance, TimeValid, value}
use Rattle.paper.proofs.Units.{start_more, due_is, units_unborn, units_in, current_begun, current_one, done_current}
use Rattle.paper.proofs.Beginnings.{beginning_admissible}
use Rattle.paper.proofs.Words.{letter, word, letter_value, Keeps, Fits, keeps_empty, keeps_more, admissible_fits}

-- ---- The automaton

pub data Edge : ℕ → ℕ → ℕ → Bool → ℕ → ℕ → ℕ → Type 0 where
  runs : {c e g : ℕ} → Edge (suc c) e g run c e g
  waits : {c e g : ℕ} → Edge c (suc e) g idle c e g
  rests : {g : ℕ} → Edge 0 0 (suc g) idle 0 0 g

pub data Reads (j : Job) : ℕ → ℕ → ℕ → List Bool → Type 0 where
  stop : {c e g : ℕ} → Reads j c e g []
  step : {c e g c' e' g' : ℕ} {b : Bool} {w : List Bool} → Edge c e g b c' e' g' → Reads j c' e' g' w → Reads j c e g (b ∷ w)
  restart : {w : List Bool} → Reads j j.load (j.deadline - j.load) (j.period - j.deadline) w → Reads j 0 0 0 w

reads_front : {j : Job} {c e g : ℕ} {u : List Bool} → Reads j c e g u → (w v : List Bool) → u ≡ w ++ v → Reads j c e g w
reads_front x [] v q = stop
reads_front stop (b ∷ w) v q = absurd (omega (arith, ap length q))
reads_front {j = j} (step {c = c} {e = e} {g = g} {c' = c'} {e' = e'} {g' = g'} {b = b'} {w = u} t x) (b ∷ w) v q =
    let head : b ≡ b' = cc in
    let tail : u ≡ w ++ v = cc in
    rw head (step t (reads_front {c = c'} x w v tail))
reads_front (restart x) (b ∷ w) v q = restart (reads_front x (b ∷ w) v q)

-- ---- The automaton and the language

shuffle_first : {v w : List Bool} → Shuffle [] v w → w ≡ v
shuffle_first (first_empty p) = p
shuffle_first (second_empty p) = p

shuffle_second : {u w : List Bool} → Shuffle u [] w → w ≡ u
shuffle_second (first_empty p) = p
shuffle_second (second_empty p) = p

shuffle_plain : (u v : List Bool) → Shuffle u v (u ++ v)
shuffle_plain [] v = first_empty refl
shuffle_plain (x ∷ u) [] = second_empty (append-nil (x ∷ u))
shuffle_plain (x ∷ u) (y ∷ v) = from_first (shuffle_plain u (y ∷ v))

shuffle_runs : (c e : ℕ) {w : List Bool} → Shuffle (replicate c run) (replicate e idle) w
    → Shuffle (replicate (suc c) run) (replicate e idle) (run ∷ w)
shuffle_runs c zero x = second_empty (ap (λ (r : List Bool). run ∷ r) (shuffle_second x))
shuffle_runs c (suc e) x = from_first x

shuffle_waits : (c e : ℕ) {w : List Bool} → Shuffle (replicate c run) (replicate e idle) w
    → Shuffle (replicate c run) (replicate (suc e) idle) (idle ∷ w)
shuffle_waits zero e x = first_empty (ap (λ (r : List Bool). idle ∷ r) (shuffle_first x))
shuffle_waits (suc c) e x = from_second x

-- the rest of the instance, the idle slots up to the next, and whole instances
record Rest (j : Job) (c e g : ℕ) (w : List Bool) : Type 0 where
  front : List Bool
  back : List Bool
  whole : w ≡ front ++ replicate g idle ++ back
  shuffled : Shuffle (replicate c run) (replicate e idle) front
  instances : Star (Instance j) back

star_long : (L : Language Bool) (u : List Bool) → L u → 0 < length u → (n : ℕ) → Extension (Star L) [] n
star_long L u x h zero = record { β = u ++ []; long = omega (arith, length-append u []); within = more u [] refl x none }
star_long L u x h (suc n) =
    let y = star_long L u x h n in
    record { β = u ++ y.β; long = omega (arith, length-append u y.β, y.long); within = more u y.β refl x y.within }

module _ (j : Job) where
  edge_rest : {c e g c' e' g' : ℕ} {b : Bool} {w : List Bool} → Edge c e g b c' e' g' → Rest j c' e' g' w → Rest j c e g (b ∷ w)
  edge_rest (runs {c} {e} {g}) x = record {
    front = run ∷ x.front;
    back = x.back;
    whole = ap (λ (r : List Bool). run ∷ r) x.whole;
    shuffled = shuffle_runs c e x.shuffled;
    instances = x.instances;
  }
  edge_rest (waits {c} {e} {g}) x = record {
    front = idle ∷ x.front;
    back = x.back;
    whole = ap (λ (r : List Bool). idle ∷ r) x.whole;
    shuffled = shuffle_waits c e x.shuffled;
    instances = x.instances;
  }
  edge_rest (rests {g}) x = record {
    front = [];
    back = x.back;
    whole = ap (λ (r : List Bool). idle ∷ r) (x.whole ∙ ap (λ (r : List Bool). r ++ replicate g idle ++ x.back) (shuffle_first x.shuffled));
    shuffled = first_empty refl;
    instances = x.instances;
  }

  restart_rest : {w : List Bool} → Rest j j.load (j.deadline - j.load) (j.period - j.deadline) w → Rest j 0 0 0 w
  restart_rest {w} x = record {
    front = [];
    back = w;
    whole = refl;
    shuffled = first_empty refl;
    instances = more (x.front ++ replicate (j.period - j.deadline) idle) x.back x.whole
        (record { front = x.front; back = replicate (j.period - j.deadline) idle; whole = refl; one = x.shuffled; other = refl })
        x.instances;
  }

  -- whole instances can follow as long as one likes
  rest_long : 0 < j.period → (c e g n : ℕ) → Extension (Rest j c e g) [] n
  rest_long pos c e g n = let y = star_long (Instance j) whole one positive n in record {
    β = (replicate c run ++ replicate e idle) ++ replicate g idle ++ y.β;
    long = omega (arith, length-append ((replicate c run ++ replicate e idle) ++ replicate g idle) y.β, y.long);
    within = record {
      front = replicate c run ++ replicate e idle;
      back = y.β;
      whole = refl;
      shuffled = shuffle_plain (replicate c run) (replicate e idle);
      instances = y.within;
    };
  }
    where
      front : List Bool
      front = replicate j.load run ++ replicate (j.deadline - j.load) idle

      back : List Bool
      back = replicate (j.period - j.deadline) idle

      whole : List Bool
      whole = front ++ back

      one : Instance j whole
      one = record { front = front; back = back; whole = refl; one = shuffle_plain _ _; other = refl }

      positive : 0 < length whole
      positive = simp (length-append, length-replicate) (omega arith)

  reads_rest : 0 < j.period → {c e g : ℕ} {w : List Bool} → Reads j c e g w → (n : ℕ) → Extension (Rest j c e g) w n
  reads_rest pos (stop {c} {e} {g}) n = rest_long pos c e g n
  reads_rest pos (step t m) n = let x = reads_rest pos m n in record { β = x.β; long = x.long; within = edge_rest t x.within }
  reads_rest pos (restart m) n = let x = reads_rest pos m n in record { β = x.β; long = x.long; within = restart_rest x.within }

  -- n equal letters, each an edge
  repeat : (c e g : ℕ → ℕ) (b : Bool) → ((n : ℕ) → Edge (c (suc n)) (e (suc n)) (g (suc n)) b (c n) (e n) (g n))
      → {w : List Bool} → Reads j (c 0) (e 0) (g 0) w → (n : ℕ) → Reads j (c n) (e n) (g n) (replicate n b ++ w)
  repeat c e g b t x zero = x
  repeat c e g b t x (suc n) = step (t n) (repeat c e g b t x n)

  rests_reads : (g : ℕ) {w : List Bool} → Reads j 0 0 0 w → Reads j 0 0 g (replicate g idle ++ w)
  rests_reads g x = repeat (λ n. 0) (λ n. 0) (λ n. n) idle (λ n. rests) x g

  shuffle_reads : (c e g : ℕ) {v w : List Bool} → Shuffle (replicate c run) (replicate e idle) v → Reads j 0 0 g w → Reads j c e g (v ++ w)
  shuffle_reads zero e g x m = rw (shuffle_first x) (repeat (λ n. 0) (λ n. n) (λ n. g) idle (λ n. waits) m e)
  shuffle_reads (suc c) zero g x m = rw (shuffle_second x) (repeat (λ n. n) (λ n. 0) (λ n. g) run (λ n. runs) m (suc c))
  shuffle_reads (suc c) (suc e) g (from_first x) m = step runs (shuffle_reads c (suc e) g x m)
  shuffle_reads (suc c) (suc e) g (from_second x) m = step waits (shuffle_reads (suc c) e g x m)

  star_reads : {w : List Bool} → Star (Instance j) w → Reads j 0 0 0 w
  star_reads none = stop
  star_reads (more u v {w} p x y) =
      restart {w = w} (rw (p, x.whole, x.other, append_assoc x.front (replicate (j.period - j.deadline) idle) v)
      (shuffle_reads j.load (j.deadline - j.load) (j.period - j.deadline) x.one (rests_reads (j.period - j.deadline) (star_reads y))))

  pub valid_reads : GoodJob j → (w : List Bool) → TimeValid j w ↔ Reads j 0 0 j.first w
  valid_reads good w = (
    λ x. let y = x.extends 0 in
        let z : Reads j 0 0 j.first (w ++ y.β) = rw (y.within.whole, y.within.one) (rests_reads j.first (star_reads y.within.other)) in
        reads_front z w y.β refl,
    λ x. record {
      extends = λ n. let y = reads_rest (omega arith) x n in record {
        β = y.β;
        long = y.long;
        within = record {
          front = replicate j.first idle;
          back = y.within.back;
          whole = y.within.whole ∙ ap (λ (r : List Bool). r ++ replicate j.first idle ++ y.within.back) (shuffle_first y.within.shuffled);
          one = refl;
          other = y.within.instances;
        };
      };
    },
  )

-- ---- The automaton and the rules

-- before the first instance; or in instance k, with the slots up to its deadline and to the next start, and the units to go
data At (room : Room) (i : ℕ) (l : List ℕ) (c e g : ℕ) : Type 0 where
  before : length l + g ≡ first room i → c + e ≡ 0 → At room i l c e g
  within : (k : ℕ) → start room i k ≤ length l → c + e ≡ due room i k - length l → length l + (c + e + g) ≡ start room i (k + 1)
      → c + units room l i k ≡ load room i → At room i l c e g

-- what an edge does to the numbers of a state: one slot passes, with b units run
record Turn (c e g b c' e' g' : ℕ) : Type 0 where
  ran : c ≡ c' + b
  nearer : c' + e' ≡ (c + e) - 1
  later : c + e + g ≡ c' + e' + g' + 1

turn : {c e g c' e' g' : ℕ} {b : Bool} → Edge c e g b c' e' g' → Turn c e g (value b) c' e' g'
unfolding value
turn runs = omega arith
turn waits = omega arith
turn rests = omega arith

-- an edge with the letter b
record Onward (c e g : ℕ) (b : Bool) : Type 0 where
  c' : ℕ
  e' : ℕ
  g' : ℕ
  edge : Edge c e g b c' e' g'

onward : (b : Bool) (c e g : ℕ) → 0 < c + e + g → (value b ≡ 1 → 0 < c) → c ≤ (c + e) - 1 + value b → Onward c e g b
unfolding value
onward true (suc c) e g p h d = record { c' = c; e' = e; g' = g; edge = runs }
onward true zero e g p h d = absurd (omega (arith, h refl))
onward false c (suc e) g p h d = record { c' = c; e' = e; g' = g; edge = waits }
onward false (suc c) zero g p h d = absurd (omega arith)
onward false zero zero (suc g) p h d = record { c' = 0; e' = 0; g' = g; edge = rests }
onward false zero zero zero p h d = absurd (omega arith)

module _ (room : Room) (i : ℕ) (l : List ℕ) where
  module _ (m c e g : ℕ) where
    turn_fits : (c' e' g' : ℕ) → Turn c e g (bit m i) c' e' g' → At room i l c e g → Fits room l m i × At room i (l ++ (m ∷ [])) c' e' g'
    turn_fits c' e' g' n (before h z) = (
      record { may = λ b. absurd (omega arith); must = λ k x. absurd (omega (arith, current_begun room i (length l) k x)) },
      before (rw length_more (omega arith)) (omega arith),
    )
    turn_fits c' e' g' n (within k h d s u) =
        let now : Current room i (length l) k = omega arith in (
          record {
            may = λ b. record { k = k; current = now; early = omega arith; unfinished = omega (arith, done_current room l i k now) };
            must = λ k' x. rw (current_one room i (length l) k' k x now) (omega arith);
          },
          within k (rw length_more (omega arith)) (rw length_more (omega arith)) (rw length_more (omega arith))
              (omega (arith, units_in room l i k m h (omega (arith, start_more room i k)))),
        )

    edge_fits : {c' e' g' : ℕ} → Edge c e g (letter i m) c' e' g' → At room i l c e g → Fits room l m i × At room i (l ++ (m ∷ [])) c' e' g'
    edge_fits {c'} {e'} {g'} t = turn_fits c' e' g' (rw letter_value at (turn t))

    module _ (p : 0 < c + e + g) (f : Fits room l m i) where
      fits_may : At room i l c e g → bit m i ≡ 1 → 0 < c
      fits_may (before h z) o = let r = f.may o in absurd (omega (arith, current_begun room i (length l) r.k r.current))
      fits_may (within k h d s u) o =
          let now : Current room i (length l) k = omega arith in
          omega (arith, (f.may o).unfinished, done_current room l i k now)

      fits_must : At room i l c e g → c ≤ (c + e) - 1 + bit m i
      fits_must (before h z) = omega arith
      fits_must (within k h d s u) = omega (arith, f.must k (omega arith))

      fits_edge : At room i l c e g → Onward c e g (letter i m)
      fits_edge x = onward (letter i m) c e g p (rw letter_value (fits_may x)) (rw letter_value (fits_must x))

  module _ (good : GoodJob (job room i)) where
    at_start : (k : ℕ) → length l ≡ start room i k → At room i l (load room i) (deadline room i - load room i) (period room i - deadline room i)
    at_start k h =
        within k (omega arith) (omega (arith, due_is room i k)) (omega (arith, start_more room i k)) (omega (arith, units_unborn room l i k (omega arith)))

    at_restart : At room i l 0 0 0 → At room i l (load room i) (deadline room i - load room i) (period room i - deadline room i)
    unfolding start
    at_restart (before h z) = at_start 0 (omega arith)
    at_restart (within k h d s u) = at_start (k + 1) (omega arith)

-- ---- Both, letter by letter

module _ (room : Room) (i : ℕ) (good : GoodJob (job room i)) where
  reads_keeps : {c e g : ℕ} {w : List Bool} → Reads (job room i) c e g w → (r : List ℕ) → word i r ≡ w
      → (l : List ℕ) → At room i l c e g → Keeps room l i → Keeps room (l ++ r) i
  unfolding word
  reads_keeps stop [] q l s x = rw append-nil x
  reads_keeps stop (m ∷ r) q l s x = absurd (omega (arith, ap length q))
  reads_keeps (step t n) [] q l s x = absurd (omega (arith, ap length q))
  reads_keeps (step {c} {e} {g} {b = b} {w = w} t n) (m ∷ r) q l s x =
      let head : b ≡ letter i m = cc in
      let tail : word i r ≡ w = cc in
      let y = edge_fits room i l m c e g (rw head at t) s in
      rw (← append_assoc l (m ∷ []) r) (reads_keeps n r tail (l ++ (m ∷ [])) y.1 (keeps_more room i good l m x y.0))
  reads_keeps (restart n) r q l s x = reads_keeps n r q l (at_restart room i l good s) x

  module _ (l : List ℕ) (m : ℕ) (w : List Bool) (f : Fits room l m i)
      (further : (c e g : ℕ) → At room i (l ++ (m ∷ [])) c e g → Reads (job room i) c e g w) where
    step_reads : (c e g : ℕ) → 0 < c + e + g → At room i l c e g → Reads (job room i) c e g (letter i m ∷ w)
    step_reads c e g p s =
        let o = fits_edge room i l m c e g p f s in
        step o.edge (further o.c' o.e' o.g' (edge_fits room i l m c e g o.edge s).1)

    -- where an instance is over, the next begins first
    fits_reads : (c e g : ℕ) → At room i l c e g → Reads (job room i) c e g (letter i m ∷ w)
    fits_reads (suc c) e g s = step_reads (suc c) e g (omega arith) s
    fits_reads zero (suc e) g s = step_reads 0 (suc e) g (omega arith) s
    fits_reads zero zero (suc g) s = step_reads 0 0 (suc g) (omega arith) s
    fits_reads zero zero zero s =
        restart (step_reads (load room i) (deadline room i - load room i) (period room i - deadline room i) (omega arith) (at_restart room i l good s))

  admissible_reads : i < room.jobs → (r l : List ℕ) (c e g : ℕ) → At room i l c e g → Admissible room (l ++ r)
      → Reads (job room i) c e g (word i r)
  unfolding word
  admissible_reads h [] l c e g s a = stop
  admissible_reads h (m ∷ r) l c e g s a =
      let a' : Admissible room (l ++ (m ∷ []) ++ r) = rw append_assoc a in
      fits_reads l m (word i r) (admissible_fits room i h l m (beginning_admissible room (l ++ (m ∷ [])) r a'))
      (λ c e g s. admissible_reads h r (l ++ (m ∷ [])) c e g s a') c e g s

  at_empty : At room i [] 0 0 (first room i)
  at_empty = before (zero-add (first room i)) refl

  pub valid_keeps : (l : List ℕ) → TimeValid (job room i) (word i l) → Keeps room l i
  valid_keeps l x = reads_keeps ((valid_reads (job room i) good (word i l)).0 x) l refl [] at_empty (keeps_empty room i good)

  pub admissible_valid : i < room.jobs → (l : List ℕ) → Admissible room l → TimeValid (job room i) (word i l)
  admissible_valid h l a = (valid_reads (job room i) good (word i l)).1 (admissible_reads h l [] 0 0 (first room i) at_empty a)
