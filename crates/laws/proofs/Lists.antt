-- Laws of lists.
--   from_back                    induction from the back: what holds of [] and goes on with one more element holds of every list
--   length_more                  one more element makes the length one more
--   row_length, row_at           the length of a row, and what stands at a place of it
--   row_same                     rows of functions that agree on their numbers
--   row_add, row_more            a row in two parts, and with one more at its end
--   take_row, row_list           the front of a row, and a list as a row
--   beginning_length, beginning_at, beginning_same, take_beginning, beginning_more
--                                the same of the beginning of a sequence
--   repeated_add, repeated_more        a repetition in two parts, and once more
--   length_repeated                 its length
--   pigeonhole                   distinct things that all lie in a list are no more than it has places
--   same_length                  two distinct lists with the same members have one length
--   too_many                     more than w distinct things with a property lie in no list of at most w places
--   in_last, in_snoc             members of a list with more at its end
--   distinct_snoc                one more element that is not yet a member
--   at_in, in_at                 what stands at a place is a member, and a member stands at a place
--   at_in_beginning, in_beginning_at
--                                the same of the beginning of a sequence
--   distinct_at, at_distinct     a list is distinct exactly where different places hold different things
--   in?                          membership is decided
--   place                        the first place of x in l; the length of l where there is none
--   place_in                     a member stands at its place
--   place_at                     in a distinct list the place of what stands at i is i
--   in_flat_map                   members of the lists that a function gives for members of a list
--   numbers, in_numbers          the lists of n numbers below b, and what is one of them
use mathlib.Core.Path.{◌≡◌, refl, sym, ◌∙◌, ap, subst}
use mathlib.Core.Logic.{◌↔◌, ◌⊎◌, ◌≢◌, ⊎_elim, ⊎_map}
use mathlib.Core.HLevel.{Discrete}
use mathlib.Core.List.Memᴰ
use mathlib.Core.List.{List, [], ◌∷◌, ◌++◌, map, flat_map, append_assoc, append-nil}
use Prim.Native.Nat.{ℕ, zero, suc, ◌+◌, ◌*◌, ◌≤◌, ◌<◌}
use native.Mathlib.Omega.{arith}
use native.Mathlib.Nat.{add-zero, zero-add, suc-add, zero-mul, suc-mul}
use lib.ListN.{length, take, get_or, length-append}
use Rattle.laws.specs.Lists.{◌∈◌, Distinct, none, more, row, repeated, beginning}

-- the first place, by a test of the head
abbrev here : {P : Type 0} → Dec P → ℕ → ℕ
here (yes e) n = zero
here (no d) n = suc n

module _ {A : Type 0} where
  -- ---- One more element

  pub from_back : (P : List A → Type 0) → P [] → ((l : List A) (a : A) → P l → P (l ++ (a ∷ []))) → (l : List A) → P l
  from_back P p step l = go [] l p
    where
      go : (l r : List A) → P l → P (l ++ r)
      go l [] p = rw append-nil p
      go l (a ∷ r) p = subst P (append_assoc l (a ∷ []) r) (go (l ++ (a ∷ [])) r (step l a p))

  pub length_more : (l : List A) (m : A) → length (l ++ (m ∷ [])) ≡ length l + 1
  length_more l m = length-append l (m ∷ [])

  -- ---- Rows

  pub row_length : (f : ℕ → A) (i n : ℕ) → length (row f i n) ≡ n
  unfolding row
  row_length f i zero = refl
  row_length f i (suc n) = ap suc (row_length f (suc i) n)

  pub row_at : (f : ℕ → A) (i n : ℕ) (d : A) (j : ℕ) → j < n → get_or (row f i n) j d ≡ f (i + j)
  unfolding row
  row_at f i zero d j h = absurd (omega arith)
  row_at f i (suc n) d zero h = ap f (sym (add-zero i))
  row_at f i (suc n) d (suc j) h = row_at f (suc i) n d j (omega arith) ∙ ap f (omega arith)

  pub row_same : (f g : ℕ → A) (i n : ℕ) → ((j : ℕ) → i ≤ j → j < i + n → f j ≡ g j) → row f i n ≡ row g i n
  unfolding row
  row_same f g i zero e = refl
  row_same f g i (suc n) e = rw (e i (omega arith) (omega arith), row_same f g (suc i) n (λ j h k. e j (omega arith) (omega arith)))

  pub row_add : (f : ℕ → A) (i m n : ℕ) → row f i (m + n) ≡ row f i m ++ row f (i + m) n
  unfolding row
  row_add f i zero n = rw (zero-add, add-zero)
  row_add f i (suc m) n =
      let e : suc i + m ≡ i + suc m = omega arith in
      rw suc-add (ap (λ (l : List A). f i ∷ l) (row_add f (suc i) m n ∙ ap (λ (k : ℕ). row f (suc i) m ++ row f k n) e))

  row_more : (f : ℕ → A) (i n : ℕ) → row f i (n + 1) ≡ row f i n ++ (f (i + n) ∷ [])
  unfolding row
  row_more f i n = row_add f i n 1

  take_row : (f : ℕ → A) (i k n : ℕ) → k ≤ n → take k (row f i n) ≡ row f i k
  unfolding row
  take_row f i zero n h = refl
  take_row f i (suc k) zero h = absurd (omega arith)
  take_row f i (suc k) (suc n) h = ap (λ (l : List A). f i ∷ l) (take_row f (suc i) k n (omega arith))

  pub row_list : (f : ℕ → A) (i : ℕ) (l : List A) (d : A) → ((j : ℕ) → j < length l → f (i + j) ≡ get_or l j d) → row f i (length l) ≡ l
  unfolding row
  row_list f i [] d e = refl
  row_list f i (x ∷ l) d e =
      let a : f i ≡ x = ap f (sym (add-zero i)) ∙ e 0 (omega arith) in
      let b = row_list f (suc i) l d (λ j h. let q : suc i + j ≡ i + suc j = omega arith in ap f q ∙ e (suc j) (omega arith)) in
      rw (a, b)

  -- ---- Beginnings

  pub beginning_length : (s : ℕ → A) (n : ℕ) → length (beginning s n) ≡ n
  unfolding beginning
  beginning_length s n = row_length s 0 n

  pub beginning_at : (s : ℕ → A) (n : ℕ) (d : A) (j : ℕ) → j < n → get_or (beginning s n) j d ≡ s j
  unfolding beginning
  beginning_at s n d j h = row_at s 0 n d j h ∙ ap s (zero-add j)

  pub beginning_same : (s t : ℕ → A) (n : ℕ) → ((j : ℕ) → j < n → s j ≡ t j) → beginning s n ≡ beginning t n
  unfolding beginning
  beginning_same s t n e = row_same s t 0 n (λ j h k. e j (omega arith))

  pub take_beginning : (s : ℕ → A) (k n : ℕ) → k ≤ n → take k (beginning s n) ≡ beginning s k
  unfolding beginning
  take_beginning s k n h = take_row s 0 k n h

  pub beginning_more : (s : ℕ → A) (n : ℕ) → beginning s (n + 1) ≡ beginning s n ++ (s n ∷ [])
  unfolding beginning
  beginning_more s n = row_more s 0 n ∙ ap (λ (i : ℕ). row s 0 n ++ (s i ∷ [])) (zero-add n)

  -- ---- Repetition

  repeated_add : (m n : ℕ) (l : List A) → repeated (m + n) l ≡ repeated m l ++ repeated n l
  unfolding repeated
  repeated_add zero n l = rw zero-add
  repeated_add (suc m) n l = rw suc-add (ap (λ (k : List A). l ++ k) (repeated_add m n l) ∙ sym (append_assoc l (repeated m l) (repeated n l)))

  pub repeated_more : (n : ℕ) (l : List A) → repeated (n + 1) l ≡ repeated n l ++ l
  unfolding repeated
  repeated_more n l = repeated_add n 1 l ∙ ap (λ (k : List A). repeated n l ++ k) (append-nil l)

  pub length_repeated : (n : ℕ) (l : List A) → length (repeated n l) ≡ n * length l
  unfolding repeated
  length_repeated zero l = sym (zero-mul (length l))
  length_repeated (suc n) l = length-append l (repeated n l) ∙ (omega (arith, length_repeated n l, suc-mul n (length l)))

  -- ---- The pigeonhole

  -- l without the place p
  abbrev without : {x : A} (l : List A) → x ∈ l → List A
  without l (Memᴰ.head {xs = t} e) = t
  without l (Memᴰ.tail {x = a} {xs = t} p) = a ∷ without t p

  length_without : {x : A} (l : List A) (p : x ∈ l) → suc (length (without l p)) ≡ length l
  length_without l (Memᴰ.head e) = refl
  length_without l (Memᴰ.tail {xs = t} p) = ap suc (length_without t p)

  -- a member other than the one at p is still there
  kept : {x y : A} (l : List A) (p : x ∈ l) → y ≢ x → y ∈ l → y ∈ without l p
  kept l (Memᴰ.head e) n q = ⊎_elim (λ d. absurd (n (d ∙ sym e))) (λ r. r) (Memᴰ.cases_cons q)
  kept l (Memᴰ.tail {xs = t} p) n q = ⊎_elim (λ e. Memᴰ.head e) (λ r. Memᴰ.tail (kept t p n r)) (Memᴰ.cases_cons q)

  pub pigeonhole : {xs : List A} (ys : List A) → Distinct xs → ((x : A) → x ∈ xs → x ∈ ys) → length xs ≤ length ys
  pigeonhole ys none h = omega arith
  pigeonhole ys (more {x} {l} n d) h =
      let p = h x (Memᴰ.head refl) in
      let r = pigeonhole (without ys p) d (λ y q. kept ys p (λ e. n (Memᴰ.cast (sym e) q)) (h y (Memᴰ.tail q))) in
      omega (arith, length_without ys p)

  pub same_length : {xs ys : List A} → Distinct xs → Distinct ys → ((x : A) → (x ∈ xs) ↔ (x ∈ ys)) → length xs ≡ length ys
  same_length {xs} {ys} d e h =
      let a = pigeonhole ys d (λ x. (h x).0) in
      let b = pigeonhole xs e (λ x. (h x).1) in
      omega arith

  pub too_many : (P : A → Type 0) (w : ℕ) {xs : List A} → Distinct xs → ((x : A) → x ∈ xs → P x) → w < length xs
      → (ys : List A) → length ys ≤ w → ¬ ((x : A) → P x → x ∈ ys)
  too_many P w d p long ys short every = let a = pigeonhole ys d (λ x q. every x (p x q)) in omega arith

  -- ---- Members

  pub in_last : (l : List A) (x : A) → x ∈ l ++ (x ∷ [])
  in_last l x = Memᴰ.append_right l (Memᴰ.head refl)

  pub in_snoc : {x : A} (l : List A) (y : A) → x ∈ l ++ (y ∷ []) → (x ∈ l) ⊎ (x ≡ y)
  in_snoc l y p = ⊎_map (λ q. q) Memᴰ.eq_of_singleton (Memᴰ.append_cases l p)

  pub distinct_snoc : {l : List A} (y : A) → Distinct l → ¬ (y ∈ l) → Distinct (l ++ (y ∷ []))
  distinct_snoc y none h = more (λ p. Memᴰ.not-nil p) none
  distinct_snoc y (more {x} {l} n d) h =
      more (λ p. ⊎_elim n (λ e. h (Memᴰ.head (sym e))) (in_snoc l y p)) (distinct_snoc y d (λ p. h (Memᴰ.tail p)))

  -- In the laws by place, d stands for what lies beyond the end.

  pub at_in : (l : List A) (d : A) (i : ℕ) → i < length l → get_or l i d ∈ l
  at_in [] d i h = absurd (omega arith)
  at_in (x ∷ l) d zero h = Memᴰ.head refl
  at_in (x ∷ l) d (suc i) h = Memᴰ.tail (at_in l d i (omega arith))

  in_at : {x : A} (l : List A) (d : A) → x ∈ l → (i : ℕ) × (i < length l) × (get_or l i d ≡ x)
  in_at l d (Memᴰ.head e) = (zero, omega arith, sym e)
  in_at l d (Memᴰ.tail {xs = t} p) = let r = in_at t d p in (suc r.0, omega arith, r.2)

  pub at_in_beginning : (s : ℕ → A) (n i : ℕ) → i < n → s i ∈ beginning s n
  at_in_beginning s n i h =
      let k : i < length (beginning s n) = omega (arith, beginning_length s n) in
      Memᴰ.cast (sym (beginning_at s n (s 0) i h)) (at_in (beginning s n) (s 0) i k)

  pub in_beginning_at : {x : A} (s : ℕ → A) (n : ℕ) → x ∈ beginning s n → (i : ℕ) × (i < n) × (s i ≡ x)
  in_beginning_at s n p =
      let r = in_at (beginning s n) (s 0) p in
      let h : r.0 < n = omega (arith, beginning_length s n) in
      (r.0, h, sym (beginning_at s n (s 0) r.0 h) ∙ r.2)

  distinct_at : (l : List A) (d : A) → Distinct l → (i j : ℕ) → i < length l → j < length l → get_or l i d ≡ get_or l j d → i ≡ j
  distinct_at l d none i j hi hj e = absurd (omega arith)
  distinct_at l d (more n s) zero zero hi hj e = refl
  distinct_at l d (more {l = t} n s) zero (suc j) hi hj e = absurd (n (Memᴰ.cast e (at_in t d j (omega arith))))
  distinct_at l d (more {l = t} n s) (suc i) zero hi hj e = absurd (n (Memᴰ.cast (sym e) (at_in t d i (omega arith))))
  distinct_at l d (more {l = t} n s) (suc i) (suc j) hi hj e = ap suc (distinct_at t d s i j (omega arith) (omega arith) e)

  pub at_distinct : (l : List A) (d : A) → ((i j : ℕ) → i < j → j < length l → get_or l i d ≢ get_or l j d) → Distinct l
  at_distinct [] d h = none
  at_distinct (x ∷ l) d h =
      more (λ p. let r = in_at l d p in h zero (suc r.0) (omega arith) (omega arith) (sym r.2))
      (at_distinct l d (λ i j a b. h (suc i) (suc j) (omega arith) (omega arith)))

  -- ---- The first place, where equality is decided

  module _ (eq? : Discrete A) where
    pub in? : (x : A) (l : List A) → Dec (x ∈ l)
    in? x [] = no Memᴰ.not-nil
    in? x (y ∷ l) = go (eq? x y) (in? x l)
      where
        go : Dec (x ≡ y) → Dec (x ∈ l) → Dec (x ∈ y ∷ l)
        go (yes e) r = yes (Memᴰ.head e)
        go (no n) (yes p) = yes (Memᴰ.tail p)
        go (no n) (no k) = no (λ p. ⊎_elim n k (Memᴰ.cases_cons p))

    unfoldable pub place : A → List A → ℕ
    place x [] = zero
    place x (y ∷ l) = here (eq? x y) (place x l)

    place_in : {x : A} (l : List A) (d : A) → x ∈ l → (place x l < length l) × (get_or l (place x l) d ≡ x)
    unfolding place
    place_in [] d p = absurd (Memᴰ.not-nil p)
    place_in {x} (y ∷ l) d p = go (eq? x y) (λ q. place_in l d q)
      where
        go : (t : Dec (x ≡ y)) → (x ∈ l → (place x l < length l) × (get_or l (place x l) d ≡ x))
            → (here t (place x l) < suc (length l)) × (get_or (y ∷ l) (here t (place x l)) d ≡ x)
        go (yes e) r = (omega arith, sym e)
        go (no n) r = let s = r (⊎_elim (λ e. absurd (n e)) (λ q. q) (Memᴰ.cases_cons p)) in (omega arith, s.1)

    pub place_at : (l : List A) (d : A) → Distinct l → (i : ℕ) → i < length l → place (get_or l i d) l ≡ i
    place_at l d s i h =
        let r = place_in l d (at_in l d i h) in
        distinct_at l d s (place (get_or l i d) l) i r.0 h r.1

-- ---- Every list of n numbers below b

pub in_flat_map : {A B : Type 0} (f : A → List B) {a : A} {b : B} (l : List A) → a ∈ l → b ∈ f a → b ∈ flat_map f l
unfolding flat_map
in_flat_map f [] p q = elim p [ ]
in_flat_map f {b = b} (x ∷ l) (Memᴰ.head e) q = Memᴰ.append_left (flat_map f l) (subst (λ y. b ∈ f y) e q)
in_flat_map f (x ∷ l) (Memᴰ.tail p) q = Memᴰ.append_right (f x) (in_flat_map f l p q)

unfoldable pub numbers : ℕ → ℕ → List (List ℕ)
numbers b zero = [] ∷ []
numbers b (suc n) = flat_map (λ x. map (λ (l : List ℕ). x ∷ l) (numbers b n)) (beginning (λ i. i) b)

pub in_numbers : (b n : ℕ) (l : List ℕ) → length l ≡ n → ((i : ℕ) → i < n → get_or l i 0 < b) → l ∈ numbers b n
unfolding numbers
in_numbers b zero [] e h = Memᴰ.head refl
in_numbers b zero (x ∷ l) e h = absurd (omega arith)
in_numbers b (suc n) [] e h = absurd (omega arith)
in_numbers b (suc n) (x ∷ l) e h =
    in_flat_map _ (beginning (λ i. i) b) (at_in_beginning (λ i. i) b x (h 0 (omega arith)))
    (Memᴰ.map (λ (k : List ℕ). x ∷ k) (in_numbers b n l (omega arith) (λ i g. h (suc i) (omega arith))))
