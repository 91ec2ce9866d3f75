use Rattle.casa_script.proofs.Entries.{entry_read, call_there, no_call_elsewhere}
use Rattle.casa_script.proofs.laws.entries_are_read_again.Goals as goal

pub returns-clause-line : goal.returns-clause-line
returns-clause-line c = λ position entry at by is. entry_read position entry at by is

pub returns-clause-call : goal.returns-clause-call
returns-clause-call c = λ position entry at by is. call_there position entry at by is

pub returns-clause-nowhere_else : goal.returns-clause-nowhere_else
returns-clause-nowhere_else c = λ position other entry at by is apart. no_call_elsewhere position entry at by is other apart
