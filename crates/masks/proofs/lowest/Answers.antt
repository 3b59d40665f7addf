-- `lowest` meets its contract: the trailing zeros are the place of the lowest bit.
use Rattle.laws.proofs.Words.{trailing_lowest, bit_place}
use Rattle.masks.proofs.lowest.Goals as goal

pub returns : goal.returns
returns c =
    let low = trailing_lowest 16 c.args.m c.requires c.ranges.m.fits in
    (bit_place c.args.m 16 _ c.ranges.m.fits low.set, low)
