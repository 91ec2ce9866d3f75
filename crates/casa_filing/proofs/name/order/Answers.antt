use Rattle.std.proofs.Common.{◌∙◌, ap, drop}
use Rattle.std.specs.Ordering.{nat_cmp, ordering_then}
use Rattle.std.specs.Slice.Scan.{big_endian}
use Rattle.casa_filing.proofs.Numbers.{two_numbers, by_first}
use Rattle.casa_filing.proofs.name.order.Goals as goal

pub returns-in-Equal : goal.returns-in-Equal
returns-in-Equal c =
    let last = nat_cmp (big_endian 0 (drop 8 c.args.one.now)) (big_endian 0 (drop 8 c.args.other.now)) in
    c.cmp-in-Equal.ensures
    ∙ (λ i. nat_cmp (c.tail.ensures i) (c.tail-in-Equal.ensures i))
    ∙ ap (λ r. ordering_then r last) (c.in-Equal.ensures ∙ (λ i. nat_cmp (c.head.ensures i) (c.head-2.ensures i)))
    ∙ two_numbers c.args.one.now c.args.other.now c.told-one c.told-other c.fits-one c.fits-other

pub returns-in_default : goal.returns-in_default
returns-in_default c =
    let last = nat_cmp (big_endian 0 (drop 8 c.args.one.now)) (big_endian 0 (drop 8 c.args.other.now)) in
    by_first c.cmp.result last _ c.in_default.not-Equal
    (ap (λ r. ordering_then r last) (c.cmp.ensures ∙ (λ i. nat_cmp (c.head.ensures i) (c.head-2.ensures i)))
    ∙ two_numbers c.args.one.now c.args.other.now c.told-one c.told-other c.fits-one c.fits-other)
