use Rattle.casa_import.proofs.Calls.{in_order, sorted}
use Rattle.casa_import.proofs.laws.filings_are_taken.Goals as goal

pub returns-clause-in_order : goal.returns-clause-in_order
returns-clause-in_order c = in_order

pub returns-clause-sorted : goal.returns-clause-sorted
returns-clause-sorted c = sorted
