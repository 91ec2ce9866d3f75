use Rattle.casa_look.proofs.state.OpenRegulation.of_list.Goals as goal

pub returns : goal.returns
returns c = λ m r i. record { id = c.args.id; measure = c.args.measure; cost = c.of_list.ensures m r i }
