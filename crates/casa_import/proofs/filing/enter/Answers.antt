use Rattle.std.proofs.Common.{◌≡◌, ◌∙◌, ap, sym, Some, None, set}
use Rattle.std.specs.List.{position}
use Rattle.casa_filing.specs.declared.plan.Crossing.{Crossing}
use Rattle.casa_import.proofs.Entering.{earlier, enter-apart, enter-there, is_there}
use Rattle.casa_import.proofs.filing.enter.Goals as goal

pub returns-in-Some : goal.returns-in-Some
returns-in-Some c =
    let via = c.args.via.now.items in
    let there : Crossing = c.index_mut-crossing.result.now in
    let place : position (is_there c.args.entry.loc) via ≡ Some c.in-Some.place =
    ap (position (is_there c.args.entry.loc)) (sym c.deref.ensures.value) ∙ sym c.place_of.ensures.value ∙ c.in-Some.is in
    ap (λ t. set via c.in-Some.place (record { loc = there.loc; eto = t })) c.earlier-crossing.ensures
    ∙ ap (λ (x : Crossing). set via c.in-Some.place (earlier c.args.entry x)) c.index_mut-crossing.ensures.value
    ∙ enter-there via c.in-Some.place c.args.entry there place

pub returns-in_ok-push-in-None : goal.returns-in_ok-push-in-None
returns-in_ok-push-in-None c =
    let none : position (is_there c.args.entry.loc) c.args.via.now.items ≡ None =
    ap (position (is_there c.args.entry.loc)) (sym c.deref.ensures.value) ∙ sym c.place_of.ensures.value ∙ c.in-None.is in
    c.in_ok-push-in-None.ensures.items ∙ enter-apart c.args.via.now.items c.args.entry none
