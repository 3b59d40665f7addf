-- A room in 228 bytes. Byte k of a room belongs to one count or entry, which k divided gives; back, each entry read at its place has the bytes found there.
--   from_fn_same                        what `from_fn` gives
--   handed_is                           the room that reading hands back
--   job_byte, section_byte, link_byte   byte k of a room, by the part it lies in
--   bytes_one                           a room has one row of bytes
--   chunk_at                            the parts of a list
--   jobs_are, sections_are, links_are   the entries that have the bytes of their parts
--   room_held                           the room in 228 bytes has them as its bytes: reading and writing share one layout
use Prim.Native.Nat.{ℕ, zero, suc, ◌+◌, ◌-◌, ◌*◌, ◌≤◌, ◌<◌, ◌/◌, ◌%◌}
use native.Mathlib.Omega.{arith}
use native.Mathlib.Nat.{zero-add}
use mathlib.Core.Path.{◌≡◌, refl, sym, ap, ◌∙◌, subst}
use mathlib.Core.Logic.{⊎_elim}
use mathlib.Core.List.{List, [], ◌∷◌}
use lib.ListN.{length, take, drop, get_or}
use lib.Seq.{drop-drop, get_or-take, get_or-drop}
use lib.Dec.{lit<}
use denote.Param.Members.{Mut, Called}
use Rattle.std.specs.Array.{IsFromFnResult, IsFromFnResultFrom}
use Rattle.std.specs.Simd.{first_chunks}
use Rattle.std.specs.Prelude.{Ok, Err}
use Rattle.std.specs.Result.{ResultUnwrapsOrElse}
use Rattle.laws.specs.Lists.{row}
use Rattle.laws.proofs.Lists.{row_at, row_list}
use Rattle.laws.proofs.Tests.{lt_or_le}
use Rattle.paper.specs.declared.Room.{Room}
use Rattle.paper.specs.declared.Job.{Job}
use Rattle.paper.specs.declared.Section.{Section}
use Rattle.paper.specs.declared.Link.{Link}
use Rattle.paper.specs.Room.{no_job, no_section, no_link, job, section, link}
use Rattle.paper.specs.Reply.{ReadAnswer}
use Rattle.text.proofs.Reader.{IsDefault, default_room}
use Rattle.text.specs.Parts.{job_bytes, section_bytes, link_bytes}
use Rattle.export.specs.Bytes.{size, count_bytes, ByteAt, Holds, job_at, section_at, link_at, room_of, handed}

-- ---- An array from a function

-- what `from_fn` gives of a closure that changes no capture
calls_same : {F B : Type 0} (g : Mut F (ℕ × Unit {0}) B) (P : ℕ → B → Type 0) (f : F)
    → ((i : ℕ) (y : B) (f' : F) → Called g f (i, tt) y f' → P i y × (f' ≡ f))
    → (ys : List B) (i n : ℕ) → IsFromFnResultFrom g f ys i n → (k : ℕ) (d : B) → k < n → P (i + k) (get_or ys (i + k) d)
calls_same g P f h ys i zero e k d l = absurd (omega arith)
calls_same g P f h ys i (suc n) (q, y, e, call, rest) zero d l =
    let z : i ≡ i + 0 = omega arith in
    subst (λ (j : ℕ). P j (get_or ys j d)) z (subst (P i) (sym (e.1 d)) (h i y q call).0)
calls_same g P f h ys i (suc n) (q, y, e, call, rest) (suc k) d l =
    let z : i + 1 + k ≡ i + suc k = omega arith in
    let r = subst (λ (j : _). IsFromFnResultFrom g j ys (i + 1) n) (h i y q call).1 rest in
    subst (λ (j : ℕ). P j (get_or ys j d)) z (calls_same g P f h ys (i + 1) n r k d (omega arith))

pub from_fn_same : {F B : Type 0} {g : Mut F (ℕ × Unit {0}) B} {f : F} {ys : List B} {n : ℕ} (P : ℕ → B → Type 0) → IsFromFnResult g f ys n
    → ((i : ℕ) (y : B) (f' : F) → Called g f (i, tt) y f' → P i y × (f' ≡ f)) → (k : ℕ) (d : B) → k < n → P k (get_or ys k d)
from_fn_same {g = g} {f = f} {ys = ys} {n = n} P r h k d l =
    subst (λ (j : ℕ). P j (get_or ys j d)) (zero-add k) (calls_same g P f h ys 0 n r.each k d l)

-- ---- The room that reading hands back

pub handed_is : (r : ReadAnswer) {room : Room} → ResultUnwrapsOrElse r IsDefault room → room ≡ handed r
handed_is (Ok x) u = u
handed_is (Err b) u = default_room _ u

-- ---- Byte k

entry_same : (bytes : ℕ → List ℕ) (n i m d : ℕ) → n ≡ i → m ≡ d → get_or (bytes n) m 0 ≡ get_or (bytes i) d 0
entry_same bytes n i m d e f = ap (λ (k : ℕ). get_or (bytes k) m 0) e ∙ ap (λ (k : ℕ). get_or (bytes i) k 0) f

module _ (room : Room) (k : ℕ) {x : ℕ} where
  pub job_byte : 4 ≤ k → k < 68 → x ≡ get_or (job_bytes (job room ((k - 4) / 4))) ((k - 4) % 4) 0 → ByteAt room k x
  job_byte l h w = record {
    count = λ z. absurd (omega arith);
    job = λ i d a b e. w ∙ entry_same (λ n. job_bytes (job room n)) ((k - 4) / 4) i ((k - 4) % 4) d (omega arith) (omega arith);
    section = λ q d a b e. absurd (omega arith);
    link = λ q d a b e. absurd (omega arith);
  }

  pub section_byte : 68 ≤ k → k < 196 → x ≡ get_or (section_bytes (section room ((k - 68) / 4))) ((k - 68) % 4) 0 → ByteAt room k x
  section_byte l h w = record {
    count = λ z. absurd (omega arith);
    job = λ i d a b e. absurd (omega arith);
    section = λ q d a b e. w ∙ entry_same (λ n. section_bytes (section room n)) ((k - 68) / 4) q ((k - 68) % 4) d (omega arith) (omega arith);
    link = λ q d a b e. absurd (omega arith);
  }

  pub link_byte : 196 ≤ k → x ≡ get_or (link_bytes (link room ((k - 196) / 2))) ((k - 196) % 2) 0 → ByteAt room k x
  link_byte l w = record {
    count = λ z. absurd (omega arith);
    job = λ i d a b e. absurd (omega arith);
    section = λ q d a b e. absurd (omega arith);
    link = λ q d a b e. w ∙ entry_same (λ n. link_bytes (link room n)) ((k - 196) / 2) q ((k - 196) % 2) d (omega arith) (omega arith);
  }

-- ---- One row of bytes

module _ {room : Room} {k x y : ℕ} (a : ByteAt room k x) (b : ByteAt room k y) where
  byte_one : k < size → x ≡ y
  byte_one h =
      ⊎_elim (λ (c : k < 4). a.count c ∙ sym (b.count c))
      (λ (c : 4 ≤ k).
      ⊎_elim (λ (d : k < 68). same_job (k / 4 - 1) (k % 4) (omega arith) (omega arith) (omega arith))
      (λ (d : 68 ≤ k).
      ⊎_elim (λ (e : k < 196). same_section (k / 4 - 17) (k % 4) (omega arith) (omega arith) (omega arith))
      (λ (e : 196 ≤ k). same_link (k / 2 - 98) (k % 2) (omega arith) (omega arith) (omega arith))
      (lt_or_le k 196))
      (lt_or_le k 68))
      (lt_or_le k 4)
    where
      same_job : (i d : ℕ) → i < 16 → d < 4 → k ≡ 4 + 4 * i + d → x ≡ y
      same_job i d p q e = a.job i d p q e ∙ sym (b.job i d p q e)

      same_section : (i d : ℕ) → i < 32 → d < 4 → k ≡ 68 + 4 * i + d → x ≡ y
      same_section i d p q e = a.section i d p q e ∙ sym (b.section i d p q e)

      same_link : (i d : ℕ) → i < 16 → d < 2 → k ≡ 196 + 2 * i + d → x ≡ y
      same_link i d p q e = a.link i d p q e ∙ sym (b.link i d p q e)

-- a list of n entries is the row of them
list_row : {A : Type 0} (f : ℕ → A) (n : ℕ) (d : A) (l : List A) → length l ≡ n → ((k : ℕ) → k < n → get_or l k d ≡ f k) → l ≡ row f 0 n
list_row f n d l h e =
    sym (row_list f 0 l d (λ (j : ℕ) (z : j < length l). ap f (zero-add j) ∙ sym (e j (omega arith)))) ∙ ap (row f 0) h

pub bytes_one : {room : Room} {bytes bytes' : List ℕ} → Holds bytes room → Holds bytes' room → bytes ≡ bytes'
bytes_one {bytes = bytes} {bytes' = bytes'} x y =
    list_row (λ k. get_or bytes' k 0) size 0 bytes x.long (λ k h. byte_one (x.byte k h) (y.byte k h) h)
    ∙ sym (list_row (λ k. get_or bytes' k 0) size 0 bytes' y.long (λ k h. refl))

-- ---- Reading a room

-- the parts of a list, n elements each
pub chunk_at : {A : Type 0} (n k : ℕ) (xs : List A) (i : ℕ) (d : List A) → i < k → get_or (first_chunks n k xs) i d ≡ take n (drop (n * i) xs)
chunk_at n zero xs i d h = absurd (omega arith)
chunk_at n (suc k) xs zero d h = let z : 0 ≡ n * 0 = omega arith in ap (λ (j : ℕ). take n (drop j xs)) z
chunk_at n (suc k) xs (suc i) d h =
    let z : n + n * i ≡ n * suc i = omega arith in
    chunk_at n k (drop n xs) i d (omega arith) ∙ ap (take n) (drop-drop (n * i) n xs ∙ ap (λ (j : ℕ). drop j xs) z)

below_two : (P : ℕ → Type 0) → P 0 → P 1 → (d : ℕ) → d < 2 → P d
below_two P x₀ x₁ zero h = x₀
below_two P x₀ x₁ (suc zero) h = x₁
below_two P x₀ x₁ (suc (suc d)) h = absurd (omega arith)

below_four : (P : ℕ → Type 0) → P 0 → P 1 → P 2 → P 3 → (d : ℕ) → d < 4 → P d
below_four P x₀ x₁ x₂ x₃ zero h = x₀
below_four P x₀ x₁ x₂ x₃ (suc zero) h = x₁
below_four P x₀ x₁ x₂ x₃ (suc (suc zero)) h = x₂
below_four P x₀ x₁ x₂ x₃ (suc (suc (suc zero))) h = x₃
below_four P x₀ x₁ x₂ x₃ (suc (suc (suc (suc d)))) h = absurd (omega arith)

module _ (bytes : List ℕ) where
  abbrev byte : ℕ → ℕ
  byte k = get_or bytes k 0

  at_start : (at : ℕ) → byte (at + 0) ≡ byte at
  at_start at = let e : at + 0 ≡ at = omega arith in ap byte e

  two_at : (at d : ℕ) → d < 2 → byte (at + d) ≡ get_or (byte at ∷ byte (at + 1) ∷ []) d 0
  two_at at = below_two (λ d. byte (at + d) ≡ get_or (byte at ∷ byte (at + 1) ∷ []) d 0) (at_start at) refl

  four_at : (at d : ℕ) → d < 4 → byte (at + d) ≡ get_or (byte at ∷ byte (at + 1) ∷ byte (at + 2) ∷ byte (at + 3) ∷ []) d 0
  four_at at = below_four (λ d. byte (at + d) ≡ get_or (byte at ∷ byte (at + 1) ∷ byte (at + 2) ∷ byte (at + 3) ∷ []) d 0) (at_start at) refl refl refl

  -- the bytes of entry i of a part of the bytes
  part_at : {entry : List ℕ} (n i k from : ℕ) → n * i + n ≤ k → entry ≡ take n (drop (n * i) (take k (drop from bytes)))
      → (j : ℕ) → j < n → get_or entry j 0 ≡ byte (from + n * i + j)
  part_at {entry} n i k from h e j l =
      let z : from + (n * i + j) ≡ from + n * i + j = omega arith in
      ap (λ (p : List ℕ). get_or p j 0) e
      ∙ get_or-take n (drop (n * i) (take k (drop from bytes))) j 0 l
      ∙ get_or-drop (n * i) (take k (drop from bytes)) j 0
      ∙ get_or-take k (drop from bytes) (n * i + j) 0 (omega arith)
      ∙ get_or-drop from bytes (n * i + j) 0
      ∙ ap byte z

  pub jobs_are : {l : List Job} → length l ≡ 16
      → ((d : Job) (i : ℕ) → i < 16 → job_bytes (get_or l i d) ≡ take 4 (drop (4 * i) (take 64 (drop 4 bytes))))
      → l ≡ row (λ i. job_at bytes (4 + 4 * i)) 0 16
  jobs_are {l} h e = list_row (λ i. job_at bytes (4 + 4 * i)) 16 no_job l h (λ i g.
      let b = part_at 4 i 64 4 (omega arith) (e no_job i g) in
      λ t. record { first = (b 0 (lit< tt) ∙ at_start (4 + 4 * i)) t; load = b 1 (lit< tt) t; deadline = b 2 (lit< tt) t; period = b 3 (lit< tt) t })

  pub sections_are : {l : List Section} → length l ≡ 32
      → ((d : Section) (i : ℕ) → i < 32 → section_bytes (get_or l i d) ≡ take 4 (drop (4 * i) (take 128 (drop 68 bytes))))
      → l ≡ row (λ q. section_at bytes (68 + 4 * q)) 0 32
  sections_are {l} h e = list_row (λ q. section_at bytes (68 + 4 * q)) 32 no_section l h (λ q g.
      let b = part_at 4 q 128 68 (omega arith) (e no_section q g) in
      λ t. record { job = (b 0 (lit< tt) ∙ at_start (68 + 4 * q)) t; block = b 1 (lit< tt) t; first = b 2 (lit< tt) t; after = b 3 (lit< tt) t })

  pub links_are : {l : List Link} → length l ≡ 16
      → ((d : Link) (i : ℕ) → i < 16 → link_bytes (get_or l i d) ≡ take 2 (drop (2 * i) (take 32 (drop 196 bytes))))
      → l ≡ row (λ q. link_at bytes (196 + 2 * q)) 0 16
  links_are {l} h e = list_row (λ q. link_at bytes (196 + 2 * q)) 16 no_link l h (λ q g.
      let b = part_at 2 q 32 196 (omega arith) (e no_link q g) in
      λ t. record { sender = (b 0 (lit< tt) ∙ at_start (196 + 2 * q)) t; receiver = b 1 (lit< tt) t })

  -- the entry x is y, which was read at its place
  entry_byte : {A : Type 0} (entry : A → List ℕ) {x y : A} {k : ℕ} (at d : ℕ) → x ≡ y → k ≡ at + d → byte (at + d) ≡ get_or (entry y) d 0
      → byte k ≡ get_or (entry x) d 0
  entry_byte {A} entry at d e f g = ap byte f ∙ g ∙ sym (ap (λ (z : A). get_or (entry z) d 0) e)

  pub room_held : length bytes ≡ size → Holds bytes (room_of bytes)
  room_held h = record {
    long = h;
    byte = λ k _. record {
      count = below_four (λ d. byte d ≡ get_or (count_bytes (room_of bytes)) d 0) refl refl refl refl k;
      job = λ i d a b e. entry_byte job_bytes (4 + 4 * i) d (row_at (λ i. job_at bytes (4 + 4 * i)) 0 16 no_job i a ∙ job_here i) e (four_at (4 + 4 * i) d b);
      section =
          λ q d a b e. entry_byte section_bytes (68 + 4 * q) d (row_at (λ q. section_at bytes (68 + 4 * q)) 0 32 no_section q a ∙ section_here q) e
          (four_at (68 + 4 * q) d b);
      link = λ q d a b e. entry_byte link_bytes (196 + 2 * q) d (row_at (λ q. link_at bytes (196 + 2 * q)) 0 16 no_link q a ∙ link_here q) e (two_at (196 + 2 * q) d b);
    };
  }
    where
      job_here : (i : ℕ) → job_at bytes (4 + 4 * (0 + i)) ≡ job_at bytes (4 + 4 * i)
      job_here i = ap (λ (k : ℕ). job_at bytes (4 + 4 * k)) (zero-add i)

      section_here : (q : ℕ) → section_at bytes (68 + 4 * (0 + q)) ≡ section_at bytes (68 + 4 * q)
      section_here q = ap (λ (k : ℕ). section_at bytes (68 + 4 * k)) (zero-add q)

      link_here : (q : ℕ) → link_at bytes (196 + 2 * (0 + q)) ≡ link_at bytes (196 + 2 * q)
      link_here q = ap (λ (k : ℕ). link_at bytes (196 + 2 * k)) (zero-add q)
