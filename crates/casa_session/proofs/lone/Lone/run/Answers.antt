use Rattle.casa_session.proofs.lone.Lone.run.Goals as goal

pub returns : goal.returns
returns g c = c.run.ensures.ends
