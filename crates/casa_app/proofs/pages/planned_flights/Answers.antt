use Rattle.std.proofs.Common.{◌∙◌, ◌++◌, List, ap}
use Rattle.std.specs.List.{filter_map}
use Rattle.casa_look.specs.declared.day.PlannedFlight.{PlannedFlight}
use Rattle.casa_session.specs.Played.{state_after_calls}
use Rattle.casa_app.proofs.LastReply.{good_after}
use Rattle.casa_app.proofs.Paged.{planned_all, planned_under}
use Rattle.casa_app.proofs.pages.planned_flights.Goals as goal

pub loop-key-init : goal.loop-key-init
loop-key-init c =
    let calls = c.args.lone.now in
    let planned = planned_under (state_after_calls calls) in
    ap (λ (flights : List PlannedFlight). flights ++ filter_map planned c.into_iter-key-iterator.result) c.in_ok-flights.ensures.items
    ∙ ap (filter_map planned) (c.into_iter-key-iterator.ensures.into_iter_gives.0 ∙ c.in_ok-keys.ensures)
    ∙ planned_all (state_after_calls calls) (good_after calls)
