use Rattle.std.proofs.Common.{◌≡◌, rules, ap, ◌∙◌}
use Rattle.casa_item.specs.declared.item.Item.TheVariants.{Clock, Catalogue}
use Rattle.casa_view.proofs.Opening.{opened}
use Rattle.casa_view.proofs.board.Board.new.Goals as goal

pub returns : goal.returns
returns g c =
    let version = g.K.Version.Version in
    let at_midnight : c.unwrap.result ≡ 0 = search rules in
    opened version.item_of version.stamp_of _
    (c.in_ok-clock.ensures.item ∙ c.in_ok-new.ensures.ok ∙ ap Clock at_midnight)
    (c.in_ok-catalogue.ensures.item ∙ c.in_ok-new-2.ensures.ok ∙ ap Catalogue c.new-3.ensures)
    c.in_ok-clock.ensures.number c.in_ok-catalogue.ensures.number c.in_ok-new-3.ensures c.in_ok-new-4.ensures
