use Rattle.std.proofs.Common.{sym, refl, ◌∙◌, subst}
use Rattle.casa_item.specs.Stood.{AreStood}
use Rattle.casa_view.proofs.Stood.{stood_listed, done_weaker}
use Rattle.casa_view.proofs.staging.stand_in_place.Goals as goal

pub returns-clause-stood : goal.returns-clause-stood
returns-clause-stood g c =
    let version = g.K.Version.Version in
    let before = c.args.lists.now.entries in
    let after = c.stand.new.self.entries in
    done_weaker _ _ _ c.stand.result
    (λ all. stood_listed version.item_of version.stamp_of c.args.position c.args.change.now before after
    (sym c.lists.ensures ∙ c.if-not-is_empty.ensures.0 refl)
    (subst (λ ss. AreStood version.item_of version.stamp_of c.args.position ss before after) (c.as_slice.ensures.entries ∙ c.stands-2.ensures) all))
    c.stand.ensures.stood
