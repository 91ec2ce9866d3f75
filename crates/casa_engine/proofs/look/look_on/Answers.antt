use Rattle.std.proofs.Common.{ap, ◌∙◌}
use Rattle.casa_flight.specs.declared.state.State.{State}
use Rattle.casa_flight.specs.State.{catalogue}
use Rattle.casa_engine.proofs.look.look_on.Goals as goal

pub returns : goal.returns
returns g c history stands counted = record {
  calls = counted;
  clock = c.clock.ensures ∙ ap (λ (m : State). m.clock) stands.state;
  regulations = c.in_ok-regulations.ensures.items ∙ c.catalogue.ensures ∙ stands.catalogue_is ∙ ap catalogue stands.state;
  lists = c.in_ok-lists.ensures history stands;
}
