-- One reply of each exported call: two codes, rows of numbers and lent buffers that meet its relation for the same arguments are equal.
--   told_one          where what is promised leaves one reply
--   check_told_one, plan_told_one, judge_told_one, read_told_one, write_told_one   the five calls
use Prim.Native.Nat.{ℕ}
use mathlib.Core.Path.{◌≡◌, sym, ap, ◌∙◌, subst}
use mathlib.Core.List.{List}
use Rattle.paper.specs.declared.Numbers.{Numbers}
use Rattle.paper.specs.Reply.{ReadAnswer}
use Rattle.paper.proofs.Replies.{read_reply_one, write_reply_one}
use Rattle.answer.specs.Calls.{CheckOfText, PlanOfText, JudgeOfText}
use Rattle.answer.proofs.One.{of_answer_one, check_one, plan_one, judge_one}
use Rattle.export.specs.Calls.{five, Told}
use Rattle.export.specs.Bytes.{Holds, room_of, handed, ReadOfText, WriteOfBytes}
use Rattle.export.proofs.Bytes.{bytes_one}

-- Same is what two calls share beside their numbers
pub told_one : {P P' : Numbers → Type 0} {Same : Type 0} {code code' : ℕ} {numbers numbers' : List ℕ}
    → ((N N' : Numbers) → P N → P' N' → (N ≡ N') × Same) → Told P code numbers → Told P' code' numbers'
    → (code ≡ code') × (numbers ≡ numbers') × Same
told_one one x y =
    let d = one x.reply y.reply x.promised y.promised in (
      x.tells.code_is ∙ ap (λ (N : Numbers). N.code) d.0 ∙ sym y.tells.code_is,
      x.tells.numbers_are ∙ ap five d.0 ∙ sym y.tells.numbers_are,
      d.1,
    )

-- the reader's reply and the bytes of the room handed back
read_one : (text : List ℕ) {bytes bytes' : List ℕ} {N N' : Numbers} → ReadOfText text bytes N → ReadOfText text bytes' N' → (N ≡ N') × (bytes ≡ bytes')
read_one text {bytes} =
    of_answer_one (λ r r' p q.
    let e = read_reply_one text r r' p.0 q.0 in
    (e, bytes_one (subst (λ (s : ReadAnswer). Holds bytes (handed s)) e p.1) q.1))

module _ (text : List ℕ) {code code' : ℕ} {numbers numbers' : List ℕ} where
  pub check_told_one : Told (CheckOfText text) code numbers → Told (CheckOfText text) code' numbers' → (code ≡ code') × (numbers ≡ numbers')
  check_told_one x y = let d = told_one {Same = Unit {0}} (λ _ _ p q. (check_one text p q, tt)) x y in (d.0, d.1)

  pub plan_told_one : (table₀ plan₀ : List ℕ) {table plan table' plan' : List ℕ} → Told (PlanOfText text table₀ plan₀ table plan) code numbers
      → Told (PlanOfText text table₀ plan₀ table' plan') code' numbers'
      → (code ≡ code') × (numbers ≡ numbers') × (table ≡ table') × (plan ≡ plan')
  plan_told_one table₀ plan₀ {table} {plan} {table'} {plan'} x y =
      let d = told_one {Same = (table ≡ table') × (plan ≡ plan')} (λ _ _ p q. let e = plan_one text table₀ plan₀ p q in (e.0, (e.1, e.2))) x y in
      (d.0, d.1, d.2.0, d.2.1)

  pub judge_told_one : (past table₀ : List ℕ) {table table' : List ℕ} → Told (JudgeOfText text past table₀ table) code numbers
      → Told (JudgeOfText text past table₀ table') code' numbers' → (code ≡ code') × (numbers ≡ numbers') × (table ≡ table')
  judge_told_one past table₀ x y = told_one (λ _ _ p q. judge_one text past table₀ p q) x y

  pub read_told_one : {bytes bytes' : List ℕ} → Told (ReadOfText text bytes) code numbers → Told (ReadOfText text bytes') code' numbers'
      → (code ≡ code') × (numbers ≡ numbers') × (bytes ≡ bytes')
  read_told_one x y = told_one (λ _ _ p q. read_one text p q) x y

pub write_told_one : (bytes text₀ : List ℕ) {text text' numbers numbers' : List ℕ} {code code' : ℕ}
    → Told (WriteOfBytes bytes text₀ text) code numbers → Told (WriteOfBytes bytes text₀ text') code' numbers'
    → (code ≡ code') × (numbers ≡ numbers') × (text ≡ text')
write_told_one bytes text₀ {text} {text'} x y =
    told_one (λ _ _ p q. of_answer_one (λ r r' a b. write_reply_one (room_of bytes) text₀ r r' text text' a b) p q) x y
