use Rattle.casa_interleavings.specs.Board.{sequential_reply, HasSameStamps}
use Rattle.casa_interleavings.proofs.One.{leads_one}
use Rattle.casa_interleavings.proofs.laws.events_lead_to_one_scene.Goals as goal

pub returns : goal.returns
returns c = leads_one sequential_reply HasSameStamps
