use Rattle.std.proofs.Common.{◌∙◌, refl, sym, ap, inr}
use Rattle.std.specs.Option.{option_copied, option_map}
use Rattle.casa_flight.specs.Listing.{Listing}
use Rattle.casa_app.proofs.demand.slots_of.Goals as goal

pub returns-in-None-clause-untold : goal.returns-in-None-clause-untold
returns-in-None-clause-untold c =
    inr (refl, ap (option_map (λ (kept : Listing). kept.profile)) (sym c.list.ensures ∙ ap option_copied c.in-None.is))
