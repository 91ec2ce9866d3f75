use Rattle.std.proofs.Common.{◌≡◌, ◌<◌, ◌≤◌, ◌+◌, List, [], ◌∷◌, ◌++◌, take, length, sym, ap, subst, ◌∙◌, rules}
use Rattle.std.proofs.lemmas.List.{take_more, take_all}
use Rattle.casa_flight.specs.declared.call.Call.{Call}
use Rattle.casa_interleavings.specs.declared.event.Event.{Event}
use Rattle.casa_interleavings.specs.Scenes.{IsRun}
use Rattle.casa_interleavings.specs.Board.{sequential_reply, HasSameStamps}
use Rattle.casa_interleavings.specs.Runs.{run_events, run_history, run_outcomes}
use Rattle.casa_interleavings.proofs.playing.play.Goals as goal

pub loop-event-preserved : goal.loop-event-preserved
loop-event-preserved g c =
    let i = c.loop-event.event-index in
    let es = c.args.events.now in
    let e = c.event-item.result in
    let within : i < length es = search rules in
    let more : take (i + 1) es ≡ take i es ++ e ∷ [] =
    take_more es i e within ∙ ap (λ x. take i es ++ x ∷ []) (sym c.event-item.is) in
    let next = c.in_ok-run-2.ensures in
    record {
      events = next.events ∙ ap (λ xs. xs ++ e ∷ []) c.loop-event.invariant.events ∙ sym more;
      run = next.run;
      stands = next.stands;
    }

pub returns-clause-run : goal.returns-clause-run
returns-clause-run g c =
    let run = c.loop-event.run in
    let inv = c.loop-event.invariant in
    let es = c.args.events.now in
    let past : length es ≤ c.loop-event.event-index = search rules in
    let all : run_events run ≡ es = inv.events ∙ take_all c.loop-event.event-index es past in
    subst (λ (xs : List (Event Call)). IsRun sequential_reply HasSameStamps xs (run_history run) (run_outcomes run)) all inv.run
