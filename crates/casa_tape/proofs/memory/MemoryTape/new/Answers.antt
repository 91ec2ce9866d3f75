use Rattle.casa_tape.proofs.Standings.{new_synced}
use Rattle.casa_tape.proofs.memory.MemoryTape.new.Goals as goal

pub returns-clause-synced : goal.returns-clause-synced
returns-clause-synced c = λ f left. new_synced (record { solid = c.args.bytes; loose = c.new.result; shown = 0 }) c.new.ensures.items f left
