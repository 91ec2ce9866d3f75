use Rattle.casa_wire.proofs.Behind.{both}
use Rattle.casa_look.proofs.Written.{planned_text}
use Rattle.casa_look.proofs.day.PlannedFlightJson.push_json.Goals as goal

pub returns : goal.returns
returns c =
    let end = c.push_text-3.new.out.items in
    rw (← planned_text c.args.self.now)
    (both c.args.out.now.items c.push_text.new.out.items end _ _ c.in_ok-push_text.ensures
    (both c.push_text.new.out.items c.push_flight.new.out.items end _ _ c.in_ok-push_flight.ensures
    (both c.push_flight.new.out.items c.push_text-2.new.out.items end _ _ c.in_ok-push_text-2.ensures
    (both c.push_text-2.new.out.items c.push_plan.new.out.items end _ _ c.in_ok-push_plan.ensures c.in_ok-push_text-3.ensures))))
