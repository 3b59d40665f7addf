-- `without` meets its contract, bit by bit: below 16, `!b` has the bits that b has not.
use Rattle.std.proofs.Common.{ℕ, ◌≡◌, ◌-◌, ◌<◌, arith, w16}
use Rattle.std.proofs.lemmas.Nat.Bits.{bit_at_not}
use Rattle.laws.specs.Bits.{bit}
use Rattle.laws.proofs.Words.{bit_place, and_one, one_and}
use Rattle.masks.proofs.without.Goals as goal

not_bit : (b i : ℕ) → b < 65536 → i < 16 → bit (65535 - b) i ≡ 1 - bit b i
unfolding bit
not_bit b i = bit_at_not w16 b i

pub returns : goal.returns
returns c =
    let a = c.args.a in
    let b = c.args.b in
    let e : (i : ℕ) → i < 16 → bit (65535 - b) i ≡ 1 - bit b i = λ i. not_bit b i c.ranges.b.fits in
    record {
      first = λ i o. (one_and a (65535 - b) i o).0;
      second = λ i o. let n = (one_and a (65535 - b) i o).1 in omega (arith, e i (bit_place (65535 - b) 16 i (omega arith) n));
      all = λ i o z. and_one a (65535 - b) i o (omega (arith, e i (bit_place a 16 i c.ranges.a.fits o)));
    }
