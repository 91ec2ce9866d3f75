use Rattle.casa_wire.proofs.Behind.{both, more_text-next}
use Rattle.casa_compare.specs.CompareJson.{difference_data}
use Rattle.casa_compare.proofs.figures_json.push_more.Goals as goal

pub loop-flight-preserved : goal.loop-flight-preserved
loop-flight-preserved c =
    rw (more_text-next difference_data c.args.flights.now c.loop-flight.flight-index c.flight-item.result c.loop-flight-test.true c.flight-item.is)
    (both c.args.out.now.items c.loop-flight.out.items c.push_behind_comma.new.out.items _ _ c.loop-flight.invariant c.in_ok-push_behind_comma.ensures)
