use Rattle.casa_footprint.proofs.EachCall.{spares}
use Rattle.casa_footprint.proofs.laws.other_items_stay.Goals as goal

pub returns : goal.returns
returns c = λ m call. spares call m
