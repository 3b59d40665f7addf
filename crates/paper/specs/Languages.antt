-- The languages of document 004 (Geniet and Largeteau), sections 3.1 to 3.3 and 4.1, in their order there.
--   Shuffle                            Definition 1, the words of u ⧢ v
--   Language, Just, Then, Star         a language, the language of one word, LM, L*
--   Extension, Center                  Definition 3, the infinitely extendable prefixes of L
--   Letter                             the words of one letter out of a set
--   run, idle                          the letters a and • of one job
--   Instance, Allocation, TimeValid    (a^C ⧢ •^(D-C)) •^(T-D); •^r (..)*; Definition 4
--   value, vector, together, Product   Definition 5, the homogeneous product
--   idles, Shared                      S_p
--   Compatible, SystemValid            Definition 6
--   Synchronized                       the words that keep our rules for blocks and links, S_R* for every resource and message R
--   Dependent, DependentValid          the product met with S_p* and with these; Definition 7
use Rattle.std.specs.Prelude.{ℕ, zero, suc, ◌+◌, ◌*◌, ◌-◌, ◌≤◌, ◌<◌, ◌^◌, ◌≡◌, Bool, true, false, List, [], ◌∷◌, ◌++◌, length, take, get_or, replicate}
use Rattle.paper.specs.declared.Room.{Room}
use Rattle.paper.specs.declared.Job.{Job}
use Rattle.paper.specs.Room.{job}
use Rattle.paper.specs.Past.{bit, BlockRule, LinkRule}

-- ---- 3.1 Words and languages

-- a language is a set of words
abbrev pub Language : Type 0 → Type 1
Language A = List A → Type 0

module _ {A : Type 0} where
  -- Definition 1: ε ⧢ v = {v}, u ⧢ ε = {u}, au ⧢ bv = a(u ⧢ bv) ∪ b(au ⧢ v)
  pub data Shuffle : List A → List A → List A → Type 0 where
    first_empty : {v w : List A} → w ≡ v → Shuffle [] v w
    second_empty : {u w : List A} → w ≡ u → Shuffle u [] w
    from_first : {a b : A} {u v w : List A} → Shuffle u (b ∷ v) w → Shuffle (a ∷ u) (b ∷ v) (a ∷ w)
    from_second : {a b : A} {u v w : List A} → Shuffle (a ∷ u) v w → Shuffle (a ∷ u) (b ∷ v) (b ∷ w)

  -- the language of one word
  abbrev pub Just : List A → Language A
  Just u w = w ≡ u

  -- LM: a word of L, then a word of M
  pub record Then (L M : Language A) (w : List A) : Type 0 where
    pub front : List A
    pub back : List A
    pub whole : w ≡ front ++ back
    pub one : L front
    pub other : M back

  -- L*: no word, or a word of L and then words of L
  pub data Star (L : Language A) : List A → Type 0 where
    none : Star L []
    more : (u v : List A) {w : List A} → w ≡ u ++ v → L u → Star L v → Star L w

  -- Definition 3: α such that for every n there is a β with |β| > n and αβ in L
  pub record Extension (L : Language A) (α : List A) (n : ℕ) : Type 0 where
    pub β : List A
    pub long : n < length β
    pub within : L (α ++ β)

  pub record Center (L : Language A) (α : List A) : Type 0 where
    pub extends : (n : ℕ) → Extension L α n

  -- the words of one letter out of S
  pub record Letter (S : A → Type 0) (w : List A) : Type 0 where
    pub letter : A
    pub allowed : S letter
    pub single : w ≡ letter ∷ []

-- ---- 3.2 One job

-- a: the job owns a processor for one time unit
abbrev pub run : Bool
run = true

-- •: it does not
abbrev pub idle : Bool
idle = false

-- (a^C ⧢ •^(D-C)) •^(T-D)
abbrev pub Instance : Job → Language Bool
Instance j = Then
    (Shuffle (replicate j.load run) (replicate (j.deadline - j.load) idle))
    (Just (replicate (j.period - j.deadline) idle))

-- •^r ((a^C ⧢ •^(D-C)) •^(T-D))*
abbrev pub Allocation : Job → Language Bool
Allocation j = Then (Just (replicate j.first idle)) (Star (Instance j))

-- Definition 4: a time-valid behaviour of a job
abbrev pub TimeValid : Job → Language Bool
TimeValid j = Center (Allocation j)

-- ---- 3.3 All jobs at once

-- a letter of n jobs at once is a vector of n letters, written as the mask that has a one for each a
unfoldable pub value : Bool → ℕ
value true = 1
value false = 0

-- the letter m of n jobs, and beside it the letter b of one more
abbrev pub vector : ℕ → ℕ → Bool → ℕ
vector n m b = value b * 2 ^ n + m

-- Definition 5: the homogeneous product of two words of the same length, the first of n jobs, the second of one more
unfoldable pub together : ℕ → List ℕ → List Bool → List ℕ
together n [] β = []
together n (m ∷ α) [] = []
together n (m ∷ α) (b ∷ β) = vector n m b ∷ together n α β

-- and of n languages, L 0 Ω L 1 Ω .. Ω L (n - 1); no job at all has the letter 0 alone
pub data Product (L : ℕ → Language Bool) : ℕ → List ℕ → Type 0 where
  no_jobs : (k : ℕ) {l : List ℕ} → l ≡ replicate k 0 → Product L 0 l
  beside : {n : ℕ} (α : List ℕ) (β : List Bool) {l : List ℕ}
      → length α ≡ length β → Product L n α → L n β → l ≡ together n α β → Product L (suc n) l

-- |ω|•: how many of the letters of n jobs are •
unfoldable pub idles : ℕ → ℕ → ℕ
idles zero m = 0
idles (suc n) m = idles n m + (1 - bit m n)

-- S_p: at least n - p times •
abbrev pub Shared : ℕ → ℕ → ℕ → Type 0
Shared n p m = n - p ≤ idles n m

-- the product of the jobs' languages, met with S_p*
pub record Compatible (room : Room) (l : List ℕ) : Type 0 where
  pub jobs : Product (λ i. TimeValid (job room i)) room.jobs l
  pub shared : Star (Letter (Shared room.jobs room.engines)) l

-- Definition 6: a time-valid behaviour of the system on p engines
abbrev pub SystemValid : Room → Language ℕ
SystemValid room = Center (Compatible room)

-- ---- 4.1 Jobs that depend on each other

-- 004 leaves the protocol of a resource and of a message open, and traces its state by a virtual job, which it erases at the end. Here the
-- state is the done counts, which the word itself tells: every slot keeps the block rule and the link rule after the slots before it
pub record Synchronized (room : Room) (l : List ℕ) : Type 0 where
  pub block : (t : ℕ) → t < length l → BlockRule room (take t l) (get_or l t 0)
  pub link : (t : ℕ) → t < length l → LinkRule room (take t l) (get_or l t 0)

-- the product of the jobs' languages, met with S_p* and with these
abbrev pub Dependent : Room → Language ℕ
Dependent room l = Compatible room l × Synchronized room l

-- Definition 7: a time-valid behaviour of the system on p engines with its resources and messages
abbrev pub DependentValid : Room → Language ℕ
DependentValid room = Center (λ l. SystemValid room l × Synchronized room l)
