use Rattle.casa_footprint.proofs.EachCall.{reads_same}
use Rattle.casa_footprint.proofs.laws.reads_decide_reads.Goals as goal

pub returns : goal.returns
returns c = λ m n call. reads_same call m n
