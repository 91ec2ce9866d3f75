use Rattle.casa_wire.proofs.Behind.{both, more_text-next}
use Rattle.casa_json.proofs.values.push_more.Goals as goal

pub loop-item-preserved : goal.loop-item-preserved
loop-item-preserved g c =
    rw (more_text-next g.T.Json.value c.args.items.now c.loop-item.item-index c.item-item.result c.loop-item-test.true c.item-item.is)
    (both c.args.out.now.items c.loop-item.out.items c.push_behind_comma.new.out.items _ _ c.loop-item.invariant c.in_ok-push_behind_comma.ensures)
