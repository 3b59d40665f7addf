use native.Mathlib.Nat.{mul-mod_right}
use native.Mathlib.Omega.{arith}
use mathlib.Core.Path.{refl}
use Rattle.room.proofs.least_multiple.Goals as goal

pub returns : goal.returns
returns c = λ p. rw (c.from-t.ensures, c.from-h.ensures) (record {
  times = c.args.t;
  some = p;
  same = refl;
  divided = mul-mod_right c.args.t c.args.h;
  least = λ s q l. c.loop-times.invariant s q (omega arith);
})
