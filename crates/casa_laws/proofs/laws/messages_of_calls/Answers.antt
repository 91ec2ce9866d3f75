use Rattle.casa_laws.proofs.CallMessages.{call_comes, call_tells, call_sorted}
use Rattle.casa_laws.proofs.RegMessages.{call_kinds}
use Rattle.casa_laws.proofs.laws.messages_of_calls.Goals as goal

pub returns-clause-kinds : goal.returns-clause-kinds
returns-clause-kinds c = call_kinds

pub returns-clause-comes : goal.returns-clause-comes
returns-clause-comes c = call_comes

pub returns-clause-tells : goal.returns-clause-tells
returns-clause-tells c = call_tells

pub returns-clause-order : goal.returns-clause-order
returns-clause-order c = call_sorted
