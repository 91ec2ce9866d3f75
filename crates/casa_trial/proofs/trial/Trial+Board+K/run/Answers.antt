use Rattle.casa_trial.proofs.trial.Trial+Board+K.run.Goals as goal

pub returns : goal.returns
returns g c = c.run.ensures.ends
