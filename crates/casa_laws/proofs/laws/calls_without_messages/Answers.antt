use Rattle.casa_laws.proofs.RegMessages.{call_silent, refused_silent}
use Rattle.casa_laws.proofs.laws.calls_without_messages.Goals as goal

pub returns-clause-refusals : goal.returns-clause-refusals
returns-clause-refusals c = refused_silent

pub returns-clause-silent : goal.returns-clause-silent
returns-clause-silent c = call_silent
