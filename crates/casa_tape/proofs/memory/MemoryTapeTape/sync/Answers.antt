use Rattle.std.proofs.Common.{◌≡◌, [], refl, rules}
use Rattle.casa_tape.specs.Memory.{shown_bytes}
use Rattle.casa_tape.proofs.Kept.{elapses_to}
use Rattle.casa_tape.proofs.Standings.{synced, sync_leaves}
use Rattle.casa_tape.proofs.memory.MemoryTapeTape.sync.Goals as goal

pub returns-clause-durable : goal.returns-clause-durable
returns-clause-durable c =
    let none : c.change.new.self.state.loose.items ≡ [] = search rules in
    λ f left. synced c.change.new.self.state f none left

pub returns-clause-crash : goal.returns-clause-crash
returns-clause-crash c =
    let none : c.change.new.self.state.loose.items ≡ [] = search rules in
    let solid : c.change.new.self.state.solid.items ≡ shown_bytes c.args.self.now.state = search rules in
    λ f left. sync_leaves c.args.self.now.state c.change.new.self.state f none solid left

pub returns-clause-time : goal.returns-clause-time
returns-clause-time c =
    elapses_to c.args.self.now.past.items c.change.new.self.past.items c.args.self.now.state c.change.new.self.state c.change.new.self.state refl c.in_ok-change.ensures.ok.1
