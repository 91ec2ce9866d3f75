use Rattle.std.proofs.Common.{Bool, true, false, sym, ap, ◌∙◌}
use Rattle.casa_filing.specs.Text.{same_text}
use Rattle.casa_item.specs.declared.item.Item.{Item}
use Rattle.casa_item.specs.Versions.{regulations_of}
use Rattle.casa_view.specs.Board.{versions}
use Rattle.casa_view.specs.Taking.{name_test, extends_in, read_by_rates}
use Rattle.casa_view.proofs.WhatIsRead.{taken_same, all_by_rates, list_by_rates}
use Rattle.casa_view.proofs.items.Items.rates_view.Goals as goal

pub returns-then-extends : goal.returns-then-extends
returns-then-extends g c =
    let vs = versions c.args.self.now in
    let id = c.args.id.now in
    let extends : Item → Bool = λ item. extends_in (regulations_of item) id c.args.profile.now in
    let later : Bool = extends (g.V.Version.item_of vs.catalogue) in
    taken_same vs (λ i. true) (read_by_rates id later) c.whole_view.result
    (all_by_rates id later (ap extends (sym c.item.ensures) ∙ sym c.extends.ensures ∙ c.if-extends.true))
    c.whole_view.ensures

pub returns-else-extends : goal.returns-else-extends
returns-else-extends g c =
    let vs = versions c.args.self.now in
    let id = c.args.id.now in
    let extends : Item → Bool = λ item. extends_in (regulations_of item) id c.args.profile.now in
    let later : Bool = extends (g.V.Version.item_of vs.catalogue) in
    taken_same vs (name_test false true (λ q. false) (same_text id)) (read_by_rates id later) c.regulation_view.result
    (list_by_rates id later (ap extends (sym c.item.ensures) ∙ sym c.extends.ensures ∙ c.if-extends.false))
    c.regulation_view.ensures
