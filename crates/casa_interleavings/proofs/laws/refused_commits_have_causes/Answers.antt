use Rattle.casa_interleavings.proofs.OneThread.{refusals_caused}
use Rattle.casa_interleavings.proofs.laws.refused_commits_have_causes.Goals as goal

pub returns : goal.returns
returns c = refusals_caused
