-- `highest` meets its contract: a mask from 2 ^ i to below its double has bit i, and none above it.
use Rattle.std.proofs.Common.{◌≡◌, ◌^◌, ◌/◌, ◌%◌, suc, arith, ap}
use native.Mathlib.Nat.{div-eq_of_lt-le, pow-suc}
use Rattle.laws.specs.Bits.{bit}
use Rattle.laws.proofs.Bits.{bit_beyond}
use Rattle.masks.proofs.highest.Goals as goal

pub returns : goal.returns
unfolding bit
returns c =
    let i = c.ilog2.result in
    let one : c.args.m / 2 ^ i ≡ 1 = div-eq_of_lt-le {k = 1} (2 ^ i) (omega arith) (omega arith) in (
      c.ilog2.ensures.bound,
      record { set = ap (λ x. x % 2) one; above = λ j l. bit_beyond c.args.m (suc i) j (omega (arith, pow-suc 2 i)) l },
    )
