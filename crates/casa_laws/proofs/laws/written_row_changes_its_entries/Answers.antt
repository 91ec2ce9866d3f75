use Rattle.std.proofs.Common.{None, Some}
use Rattle.casa_laws.proofs.Lists.{list_puts, list_removes, list_spares, list_cancelled, stance_is}
use Rattle.casa_laws.proofs.laws.written_row_changes_its_entries.Goals as goal

pub returns-clause-puts : goal.returns-clause-puts
returns-clause-puts c = list_puts

pub returns-clause-removes : goal.returns-clause-removes
returns-clause-removes c = list_removes

pub returns-clause-spares : goal.returns-clause-spares
returns-clause-spares c = list_spares

pub returns-clause-cancelled : goal.returns-clause-cancelled
returns-clause-cancelled c = list_cancelled

pub returns-clause-found : goal.returns-clause-found
returns-clause-found c = λ m key id row measure l. stance_is m key id measure l (Some row)

pub returns-clause-absent : goal.returns-clause-absent
returns-clause-absent c = λ m key id measure l. stance_is m key id measure l None
