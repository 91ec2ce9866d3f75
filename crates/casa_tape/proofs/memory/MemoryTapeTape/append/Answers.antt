use Rattle.std.proofs.Common.{◌≡◌, refl, rules}
use Rattle.casa_tape.specs.Memory.{shown_bytes}
use Rattle.casa_tape.proofs.Kept.{elapses_to}
use Rattle.casa_tape.proofs.Standings.{append_not, appended}
use Rattle.casa_tape.proofs.memory.MemoryTapeTape.append.Goals as goal

pub returns-in_err-solid-clause-crash : goal.returns-in_err-solid-clause-crash
returns-in_err-solid-clause-crash c = λ f left. append_not c.args.self.now.state c.args.self.now.state c.args.bytes.now f refl left

pub returns-in_err-loose-clause-crash : goal.returns-in_err-loose-clause-crash
returns-in_err-loose-clause-crash c = λ f left. append_not c.args.self.now.state c.args.self.now.state c.args.bytes.now f refl left

pub returns-in_err-change-clause-crash : goal.returns-in_err-change-clause-crash
returns-in_err-change-clause-crash c = λ f left. append_not c.args.self.now.state c.change.new.self.state c.args.bytes.now f c.in_err-change.ensures.err.0 left

pub returns-clause-crash : goal.returns-clause-crash
returns-clause-crash c =
    let solid : c.change.new.self.state.solid.items ≡ shown_bytes c.args.self.now.state = search rules in
    let loose : c.change.new.self.state.loose.items ≡ c.args.bytes.now = search rules in
    λ f left. appended c.args.self.now.state c.change.new.self.state c.args.bytes.now f solid loose left

pub returns-clause-time : goal.returns-clause-time
returns-clause-time c =
    elapses_to c.args.self.now.past.items c.change.new.self.past.items c.args.self.now.state c.change.new.self.state c.change.new.self.state refl c.in_ok-change.ensures.ok.1
