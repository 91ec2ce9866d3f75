use Rattle.std.proofs.Common.{subst}
use Rattle.casa_traffic.specs.Gives.{GivesAs}
use Rattle.casa_traffic.specs.Titles.{pairs}
use Rattle.casa_traffic.proofs.Pairs.{nothing_before}
use Rattle.casa_traffic.proofs.titles.pairs.Goals as goal

pub returns : goal.returns
returns c =
    subst (GivesAs (λ all. all.items) c.with_pairs.result) (nothing_before (pairs c.args.header.now 1 32))
    (rw c.new.ensures.items at c.with_pairs.ensures)
