use Rattle.casa_item.proofs.Crossed.{added}
use Rattle.casa_item.proofs.catalogue.add.Goals as goal

pub returns : goal.returns
returns c =
    let new = c.in_ok-new.ensures in
    added _ _ _ _ c.args.regulation.now _ _ c.remove-there.ensures.value new c.remove-there.ensures.entries
    c.in_ok-insert.ensures.entries
