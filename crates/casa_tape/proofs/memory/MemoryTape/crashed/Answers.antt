use Rattle.std.proofs.Common.{take, rules}
use Rattle.casa_tape.specs.Standings.{torn_take}
use Rattle.casa_tape.proofs.memory.MemoryTape.crashed.Goals as goal

pub returns-clause-left : goal.returns-clause-left
returns-clause-left c =
    let loose = c.args.self.now.state.loose.items in
    (take c.min-kept.result loose, torn_take c.min-kept.result loose, search rules)
