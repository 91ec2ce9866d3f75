use Rattle.std.proofs.Common.{rules, ◌≡◌, ℕ, Option, ap, ◌∙◌, unwrap_or}
use Rattle.casa_footprint.specs.Items.{the_clock}
use Rattle.casa_view.proofs.Reading.{clock-is}
use Rattle.casa_live.proofs.all_seen.AllSeenShown.clock.Goals as goal

pub returns-in-Some : goal.returns-in-Some
returns-in-Some g c m all =
    ap (λ (at : Option ℕ). unwrap_or at 0) c.in-Some.ensures
    ∙ clock-is g.V.Version.item_of c.args.self.now.view.now m.clock (all the_clock)

pub returns-in-None : goal.returns-in-None
returns-in-None g c m all =
    let midnight : c.unwrap.result ≡ 0 = search rules in
    midnight ∙ ap (λ (at : Option ℕ). unwrap_or at 0) c.in-None.ensures
    ∙ clock-is g.V.Version.item_of c.args.self.now.view.now m.clock (all the_clock)
