use Rattle.std.proofs.Common.{◌≡◌, false, ap, sym, ◌∙◌, Option}
use Rattle.std.specs.Option.{option_map_or}
use Rattle.casa_filing.specs.Subject.{is_gone}
use Rattle.casa_flight.specs.State.{is_exempt}
use Rattle.casa_flight.specs.Entry.{Offer, governed}
use Rattle.casa_plan.proofs.Entered.{entered_as}
use Rattle.casa_plan.proofs.entering.row_after_entry.Goals as goal

pub returns-in-Some : goal.returns-in-Some
returns-in-Some g c =
    let plain : is_exempt c.args.row ≡ false = sym c.is_exempt.ensures ∙ c.if-is_exempt.false in
    let here : is_gone c.args.clock c.args.row.plan ≡ false = sym c.is_gone.ensures ∙ c.if-is_gone.false in
    c.governed.ensures ∙ ap (λ (o : Option Offer). option_map_or (governed c.args.clock c.args.row) o c.args.row) (sym c.in-Some.is)
    ∙ entered_as c.args.clock c.args._catalogue.now c.args.view.now c.args.draft.now c.args.key c.args.row c.args.over.now c.best_offer.result plain here c.requires c.best_offer.ensures

pub returns-in-None : goal.returns-in-None
returns-in-None g c =
    let plain : is_exempt c.args.row ≡ false = sym c.is_exempt.ensures ∙ c.if-is_exempt.false in
    let here : is_gone c.args.clock c.args.row.plan ≡ false = sym c.is_gone.ensures ∙ c.if-is_gone.false in
    ap (λ (o : Option Offer). option_map_or (governed c.args.clock c.args.row) o c.args.row) (sym c.in-None.is)
    ∙ entered_as c.args.clock c.args._catalogue.now c.args.view.now c.args.draft.now c.args.key c.args.row c.args.over.now c.best_offer.result plain here c.requires c.best_offer.ensures
