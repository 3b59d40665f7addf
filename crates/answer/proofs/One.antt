-- One answer: a room text, the memory lent and what is promised leave one reply, one table, one plan buffer and one text printed.
--   of_answer_one   the numbers of an answer, where one answer keeps the promise
--   text_one        the reply to a text, where one is given to the room read
--   check_one, plan_one, judge_one   the replies to checking, planning and judging the room of a text
--   answer_one      the answer to a text
use Prim.Native.Nat.{ℕ}
use native.Mathlib.Omega.{arith}
use mathlib.Core.Path.{◌≡◌, refl, sym, ap, ◌∙◌, subst}
use mathlib.Core.List.{List}
use Rattle.std.specs.Prelude.{Option, Some, None, Ok, Err}
use Rattle.paper.specs.declared.Room.{Room}
use Rattle.paper.specs.declared.Numbers.{Numbers}
use Rattle.paper.specs.Reply.{reading_numbers}
use Rattle.paper.proofs.Replies.{read_reply_one, check_reply_one, plan_reply_one, judge_reply_one}
use Rattle.answer.specs.Calls.{OfAnswer, OfText, CheckOfText, PlanOfText, JudgeOfText, broken, good}
use Rattle.answer.specs.Lines.{printed, Prints, Answered}

-- ---- The reply to a text

-- Same is what two calls share beside their numbers
pub of_answer_one : {A : Type 0} {numbers : A → Numbers} {P P' : A → Type 0} {Same : Type 0} {N N' : Numbers}
    → ((r r' : A) → P r → P' r' → (r ≡ r') × Same) → OfAnswer numbers P N → OfAnswer numbers P' N' → (N ≡ N') × Same
of_answer_one {numbers = numbers} one x y =
    let d = one x.answer y.answer x.promised y.promised in
    (x.told ∙ ap numbers d.0 ∙ sym y.told, d.1)

module _ {text : List ℕ} {Of Of' : Room → Numbers → Type 0} {Found Found' Same : Type 0} {N N' : Numbers} (found : Found → Found' → Same)
    (one : (room : Room) → Of room N → Of' room N' → (N ≡ N') × Same) where
  pub text_one : OfText text Of Found N → OfText text Of' Found' N' → (N ≡ N') × Same
  text_one (broken b x e f) (broken b' x' e' f') = (e ∙ ap reading_numbers (read_reply_one text (Err b) (Err b') x x') ∙ sym e', found f f')
  text_one (broken b x e f) (good room' x' y') = let d = read_reply_one text (Err b) (Ok room') x x' in absurd (cc)
  text_one (good room x y) (broken b' x' e' f') = let d = read_reply_one text (Ok room) (Err b') x x' in absurd (cc)
  text_one (good room x y) (good room' x' y') =
      let d : room ≡ room' = let e = read_reply_one text (Ok room) (Ok room') x x' in cc in
      one room' (subst (λ (q : Room). Of q N) d y) y'

module _ (text : List ℕ) {N N' : Numbers} where
  pub check_one : CheckOfText text N → CheckOfText text N' → N ≡ N'
  check_one x y = (text_one {Same = Unit {0}} (λ _ _. tt) (λ room. of_answer_one (λ r r' p q. (check_reply_one room r r' p q, tt))) x y).0

  pub plan_one : (table₀ plan₀ : List ℕ) {table plan table' plan' : List ℕ} → PlanOfText text table₀ plan₀ table plan N
      → PlanOfText text table₀ plan₀ table' plan' N' → (N ≡ N') × (table ≡ table') × (plan ≡ plan')
  plan_one table₀ plan₀ {table} {plan} {table'} {plan'} x y =
      let d = text_one {Same = (table ≡ table') × (plan ≡ plan')} (λ f f'. (f.0 ∙ sym f'.0, f.1 ∙ sym f'.1))
      (λ room. of_answer_one (λ r r' p q. let e = plan_reply_one room table₀ plan₀ r r' table table' plan plan' p q in (e.0, (e.1, e.2)))) x y
      in
      (d.0, d.1.0, d.1.1)

  pub judge_one : (past table₀ : List ℕ) {table table' : List ℕ} → JudgeOfText text past table₀ table N
      → JudgeOfText text past table₀ table' N' → (N ≡ N') × (table ≡ table')
  judge_one past table₀ {table} {table'} =
      text_one (λ f f'. f ∙ sym f') (λ room. of_answer_one (λ r r' p q. judge_reply_one room past table₀ r r' table table' p q))

-- ---- The lines

prints_one : (lines buffer₀ : List ℕ) {buffer buffer' : List ℕ} (n n' : Option ℕ) → Prints lines buffer₀ n buffer → Prints lines buffer₀ n' buffer'
    → (n ≡ n') × (buffer ≡ buffer')
prints_one _ _ (Some n) (Some n') p q = (ap Some (p.1 ∙ sym q.1), p.2 ∙ sym q.2)
prints_one _ _ (Some n) None p q = absurd (omega arith)
prints_one _ _ None (Some n') p q = absurd (omega arith)
prints_one _ _ None None p q = (refl, p.1 ∙ sym q.1)

pub answer_one : {text table₀ plan₀ lines₀ table plan lines table' plan' lines' : List ℕ} {n n' : Option ℕ}
    → Answered text table₀ plan₀ lines₀ n table plan lines → Answered text table₀ plan₀ lines₀ n' table' plan' lines'
    → (n ≡ n') × (table ≡ table') × (plan ≡ plan') × (lines ≡ lines')
answer_one {text} {table₀} {plan₀} {lines₀} {lines = lines} {n = n} {n' = n'} a b =
    let e = plan_one text table₀ plan₀ a.says b.says in
    let l : printed a.numbers _ ≡ printed b.numbers _ = λ i. printed (e.0 i) (e.2 i) in
    let p = prints_one _ lines₀ n n' (subst (λ (k : List ℕ). Prints k lines₀ n lines) l a.prints) b.prints in
    (p.0, e.1, e.2, p.1)
