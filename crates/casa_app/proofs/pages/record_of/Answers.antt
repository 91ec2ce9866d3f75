use Rattle.std.proofs.Common.{◌∙◌, ap, length, refl}
use Rattle.casa_flight.specs.declared.state.State.{State}
use Rattle.casa_flight.specs.State.{empty}
use Rattle.casa_look.specs.StateText.{open_regulations}
use Rattle.casa_app.proofs.Paged.{day_made, length-history}
use Rattle.casa_app.proofs.pages.record_of.Goals as goal

pub returns-clause-told : goal.returns-clause-told
returns-clause-told c =
    let calls = c.args.lone.now in
    let stays = c.in_ok-lists.ensures.stays in
    day_made c.args.day calls _ refl (c.len-calls.ensures ∙ c.in_ok-entries.entries.ok.0 ∙ ap length c.in_ok-entries.ensures ∙ length-history empty calls)
    (c.clock.ensures ∙ ap (λ (m : State). m.clock) stays)
    (c.in_ok-from_vec.ensures ∙ c.in_ok-regulations.ensures ∙ ap open_regulations stays)
    (c.in_ok-from_vec-2.ensures ∙ c.in_ok-lists.ensures.told) (c.in_ok-from_vec-3.ensures ∙ c.in_ok-flights.ensures) refl
    (c.in_ok-from_vec-4.ensures ∙ c.in_ok-entries.ensures)
