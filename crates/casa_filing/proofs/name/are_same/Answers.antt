use Rattle.std.proofs.Common.{◌∙◌, sym, nat_eq}
use Rattle.casa_filing.proofs.Numbers.{same_by_second}
use Rattle.casa_filing.proofs.name.are_same.Goals as goal

pub returns-then-head : goal.returns-then-head
returns-then-head c =
    (λ i. nat_eq (c.tail.ensures i) (c.tail-then-head.ensures i))
    ∙ same_by_second c.args.one.now c.args.other.now c.told-one c.told-other c.fits-one c.fits-other (sym c.head.ensures ∙ c.if-head.true ∙ c.head-2.ensures)
