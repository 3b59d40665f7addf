-- How much of an input matters: the first 649 bytes, since no good text is longer than 648.
--   read_near      the reading of the first 649 bytes is that of the whole text
--   answer_near    and so is the answer
--   text_near      in buffers of the program's sizes too
use Prim.Native.Nat.{ℕ, ◌≤◌, ◌<◌}
use native.Mathlib.Omega.{arith}
use mathlib.Core.Path.{◌≡◌, subst}
use mathlib.Core.Logic.{⊎_elim}
use mathlib.Core.List.{List}
use lib.ListN.{length, take, length-take}
use lib.Seq.{take_all}
use Rattle.std.specs.Prelude.{Option, Ok, Err}
use Rattle.laws.proofs.Tests.{lt_or_le}
use Rattle.paper.specs.declared.Room.{Room}
use Rattle.paper.specs.declared.Numbers.{Numbers}
use Rattle.paper.specs.Text.{FirstBadLine, Read}
use Rattle.paper.specs.Reply.{ReadAnswer, ReadReply}
use Rattle.paper.proofs.Texts.{good_short}
use Rattle.paper.proofs.BadLines.{bad_line_near}
use Rattle.answer.specs.Calls.{OfText, broken, good}
use Rattle.answer.specs.Lines.{Answered, TextAnswered}

module _ (text : List ℕ) where
  whole : length text ≤ 649 → take 649 text ≡ text
  whole h = take_all 649 text h

  good_near : (room : Room) → Read (take 649 text) room → Read text room
  good_near room x =
      let s = good_short (record { room = room; carried = x.carried; same = x.same }) in
      subst (λ (l : List ℕ). Read l room) (whole (omega (arith, length-take 649 text))) x

  bad_near : (k : ℕ) → FirstBadLine (take 649 text) k → FirstBadLine text k
  bad_near k b =
      ⊎_elim
      (λ (h : 648 < length text). (bad_line_near text k 649 h (omega arith)).1 b)
      (λ (h : length text ≤ 648). subst (λ (l : List ℕ). FirstBadLine l k) (whole (omega arith)) b)
      (lt_or_le 648 (length text))

  pub read_near : (r : ReadAnswer) → ReadReply (take 649 text) r → ReadReply text r
  read_near (Ok room) x = good_near room x
  read_near (Err b) x = bad_near b.place x

  of_near : {Of : Room → Numbers → Type 0} {Found : Type 0} {N : Numbers} → OfText (take 649 text) Of Found N → OfText text Of Found N
  of_near (broken b x e f) = broken b (read_near (Err b) x) e f
  of_near (good room x y) = good room (read_near (Ok room) x) y

  pub answer_near : {table₀ plan₀ lines₀ : List ℕ} {n : Option ℕ} {table plan lines : List ℕ}
      → Answered (take 649 text) table₀ plan₀ lines₀ n table plan lines → Answered text table₀ plan₀ lines₀ n table plan lines
  answer_near a = record { numbers = a.numbers; says = of_near a.says; prints = a.prints }

  pub text_near : {lines₀ lines : List ℕ} {n : ℕ} → TextAnswered (take 649 text) lines₀ n lines → TextAnswered text lines₀ n lines
  text_near a = record { numbers = a.numbers; table = a.table; plan = a.plan; says = of_near a.says; place = a.place; same = a.same }
