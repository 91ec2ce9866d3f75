use Rattle.casa_server.proofs.staying.stay.Goals as goal

pub returns : goal.returns
returns g c = (c.stay_seen-stayed.result.1, c.stay_seen-stayed.ensures)
