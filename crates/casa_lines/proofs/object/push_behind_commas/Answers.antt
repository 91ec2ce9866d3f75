use Rattle.casa_wire.proofs.Behind.{both, cut_after}
use Rattle.casa_lines.proofs.Joined.{behind_commas-next}
use Rattle.casa_lines.proofs.object.push_behind_commas.Goals as goal

pub loop-item-preserved : goal.loop-item-preserved
loop-item-preserved g c =
    rw (behind_commas-next g.T.Texts.text c.args.items.now c.loop-item.item-index c.item-item.result c.loop-item-test.true c.item-item.is)
    (both c.args.out.now.items c.loop-item.out.items c.push_behind_comma.new.out.items _ _ c.loop-item.invariant c.in_ok-push_behind_comma.ensures)

pub returns-in_err-push_behind_comma : goal.returns-in_err-push_behind_comma
returns-in_err-push_behind_comma g c =
    cut_after c.from_residual.result c.args.out.now.items c.loop-item.out.items c.push_behind_comma.new.out.items _ _ c.from_residual.ensures.0 c.loop-item.invariant c.in_err-push_behind_comma.ensures
