use Rattle.std.proofs.Common.{◌≡◌, List, ℕ, length, ◌-◌, take, drop, refl, ◌∙◌, ap, rules}
use Rattle.casa_tape.specs.Memory.{shown_bytes}
use Rattle.casa_tape.proofs.Kept.{elapses_to}
use Rattle.casa_tape.proofs.Standings.{cut_not, cut_done, rest_of}
use Rattle.casa_tape.proofs.memory.MemoryTapeTape.cut.Goals as goal

pub returns-in_err-solid-clause-crash : goal.returns-in_err-solid-clause-crash
returns-in_err-solid-clause-crash c = λ f left. cut_not c.args.self.now.state c.args.self.now.state c.args.len f refl left

pub returns-in_err-loose-clause-crash : goal.returns-in_err-loose-clause-crash
returns-in_err-loose-clause-crash c = λ f left. cut_not c.args.self.now.state c.args.self.now.state c.args.len f refl left

pub returns-in_err-change-clause-crash : goal.returns-in_err-change-clause-crash
returns-in_err-change-clause-crash c = λ f left. cut_not c.args.self.now.state c.change.new.self.state c.args.len f c.in_err-change.ensures.err.0 left

pub returns-clause-crash : goal.returns-clause-crash
returns-clause-crash c =
    let solid : c.change.new.self.state.solid.items ≡ take c.args.len (shown_bytes c.args.self.now.state) = search rules in
    let moved : c.change.new.self.state.loose.items ≡ c.in_ok-loose.loose.items = ap (λ s. s.loose.items) c.in_ok-change.ensures.ok.0 in
    let copied : c.in_ok-loose.loose.items ≡ take (length c.deref.result.now - c.args.len) (drop c.args.len c.deref.result.now) = search rules in
    let shown : c.deref.result.now ≡ shown_bytes c.args.self.now.state = c.deref.ensures.value ∙ c.in_ok-solid.ensures in
    let loose : c.change.new.self.state.loose.items ≡ drop c.args.len (shown_bytes c.args.self.now.state) =
    moved ∙ copied ∙ rest_of c.args.len c.deref.result.now ∙ ap (λ (l : List ℕ). drop c.args.len l) shown in
    λ f left. cut_done c.args.self.now.state c.change.new.self.state c.args.len f solid loose left

pub returns-clause-time : goal.returns-clause-time
returns-clause-time c =
    elapses_to c.args.self.now.past.items c.change.new.self.past.items c.args.self.now.state c.change.new.self.state c.change.new.self.state refl c.in_ok-change.ensures.ok.1
