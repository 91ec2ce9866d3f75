use Rattle.std.proofs.Common.{◌∙◌, ap, drop, take, nat_lt, nat_eq}
use mathlib.Core.Bool.{◌||◌, ◌&&◌}
use Rattle.std.specs.Ordering.{is_lt}
use Rattle.std.specs.Slice.Scan.{big_endian}
use Rattle.casa_filing.proofs.Numbers.{two_numbers, pair_before}
use Rattle.casa_filing.proofs.name.are_before.Goals as goal

pub returns : goal.returns
returns c =
    (λ i. nat_lt (c.head-head_of_one.ensures i) (c.head-head_of_other.ensures i)
    || (nat_eq (c.head-head_of_one.ensures i) (c.head-head_of_other.ensures i) && nat_lt (c.tail.ensures i) (c.tail-2.ensures i)))
    ∙ pair_before (big_endian 0 (take 8 c.args.one.now)) (big_endian 0 (take 8 c.args.other.now)) (big_endian 0 (drop 8 c.args.one.now)) (big_endian 0 (drop 8 c.args.other.now))
    ∙ ap is_lt (two_numbers c.args.one.now c.args.other.now c.told-one c.told-other c.fits-one c.fits-other)
