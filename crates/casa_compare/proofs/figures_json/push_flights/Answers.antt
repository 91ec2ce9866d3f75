use Rattle.casa_wire.proofs.Behind.{both, list_text}
use Rattle.casa_compare.specs.CompareJson.{difference_data}
use Rattle.casa_compare.proofs.figures_json.push_flights.Goals as goal

pub returns : goal.returns
returns c =
    rw (c.in-Some.ensures.cases.0, ← list_text difference_data c.in-Some.first.now c.in-Some.rest.now)
    (both c.args.out.now.items c.push_flight.new.out.items c.push_text-3.new.out.items _ _
    (both c.args.out.now.items c.push_text-2.new.out.items c.push_flight.new.out.items _ _ c.in_ok-push_text-2.ensures c.in_ok-push_flight.ensures)
    (both c.push_flight.new.out.items c.push_more.new.out.items c.push_text-3.new.out.items _ _ c.in_ok-push_more.ensures c.in_ok-push_text-3.ensures))
