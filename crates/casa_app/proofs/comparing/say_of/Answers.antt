use Rattle.std.proofs.Common.{inl, inr, refl, subst, ap, ◌∙◌}
use Rattle.casa_app.proofs.Compared.{is_sent}
use Rattle.casa_app.specs.Remarked.{IsSaid}
use Rattle.casa_app.proofs.comparing.say_of.Goals as goal

pub returns : goal.returns
returns g c =
    inr (subst (IsSaid (g.E.Write.contents c.args.errors.now) (g.E.Write.contents c.send.new.writer)) (c.deref.ensures.value ∙ c.in-Ok.ensures)
    (is_sent c.send.result _ _ c.deref.result.now 0 c.send.ensures.ok c.send.ensures.err))
