use Rattle.std.proofs.Common.{length, refl, sym, ap, ◌∙◌}
use Rattle.std.specs.Prelude.{option_map}
use Rattle.std.specs.List.{slice_get}
use Rattle.std.proofs.lemmas.Option.{slice_get_read, slice_get_past, slice_get-map}
use Rattle.casa_interleavings.specs.Runs.{outcome_found, run_outcomes}
use Rattle.casa_interleavings.proofs.playing.Run+Board+K.done_of.Goals as goal

pub returns-in-Some : goal.returns-in-Some
returns-in-Some g c =
    let desks = c.deref.result.now in
    let worker = c.args.worker in
    let found = slice_get_read desks (length desks) worker c.in-Some.desk.now refl c.in-Some.ensures.lookup.3.0 c.in-Some.ensures.lookup.1 in
    ap (λ d. outcome_found (option_map (λ d. d.outcome) d)) (sym found ∙ ap (λ ds. slice_get ds worker) c.deref.ensures.value)
    ∙ ap outcome_found (sym (slice_get-map (λ d. d.outcome) c.self.inside.desks.items worker))
    ∙ ap (λ run. run_outcomes run worker) c.self.view_is

pub returns-in-None : goal.returns-in-None
returns-in-None g c =
    let desks = c.deref.result.now in
    let worker = c.args.worker in
    let past = slice_get_past desks worker c.in-None.ensures.lookup.3 in
    ap (λ d. outcome_found (option_map (λ d. d.outcome) d)) (sym past ∙ ap (λ ds. slice_get ds worker) c.deref.ensures.value)
    ∙ ap outcome_found (sym (slice_get-map (λ d. d.outcome) c.self.inside.desks.items worker))
    ∙ ap (λ run. run_outcomes run worker) c.self.view_is
