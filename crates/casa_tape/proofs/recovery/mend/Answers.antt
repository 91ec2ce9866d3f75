use Rattle.std.proofs.Common.{◌≡◌, List, ℕ, take, sym, ◌∙◌, ap}
use Rattle.casa_tape.specs.Lines.{journal_of, StandsAs}
use Rattle.casa_tape.specs.Recovery.{lines_found}
use Rattle.casa_tape.proofs.Moments.{call_more}
use Rattle.casa_tape.proofs.Runs.{cut}
use Rattle.casa_tape.proofs.WholeLines.{parts}
use Rattle.casa_tape.proofs.recovery.mend.Goals as goal

pub returns-in_err-cut-clause-any_moment : goal.returns-in_err-cut-clause-any_moment
returns-in_err-cut-clause-any_moment g c =
    let found = c.args.found.now in
    (cut g.T.Tape c.args.tape.now c.cut.new.self (g.met.T.Tape.only_now c.args.tape.now) c.cut.ensures.time found.bytes.items found.end found.ends c.requires.found c.requires.synced c.cut.ensures.crash).leaves

pub returns-in_err-sync-clause-any_moment : goal.returns-in_err-sync-clause-any_moment
returns-in_err-sync-clause-any_moment g c =
    let found = c.args.found.now in
    let run = cut g.T.Tape c.args.tape.now c.cut.new.self (g.met.T.Tape.only_now c.args.tape.now) c.cut.ensures.time found.bytes.items found.end found.ends c.requires.found c.requires.synced c.cut.ensures.crash in
    call_more g.T.Tape c.args.tape.now c.cut.new.self c.sync.new.self (StandsAs (g.T.Tape.may_leave c.args.tape.now)) run.leaves c.sync.ensures.time (λ f now. run.now f (c.sync.ensures.crash f now))

pub returns-clause-any_moment : goal.returns-clause-any_moment
returns-clause-any_moment g c =
    let found = c.args.found.now in
    let run = cut g.T.Tape c.args.tape.now c.cut.new.self (g.met.T.Tape.only_now c.args.tape.now) c.cut.ensures.time found.bytes.items found.end found.ends c.requires.found c.requires.synced c.cut.ensures.crash in
    call_more g.T.Tape c.args.tape.now c.cut.new.self c.sync.new.self (StandsAs (g.T.Tape.may_leave c.args.tape.now)) run.leaves c.sync.ensures.time (λ f now. run.now f (c.sync.ensures.crash f now))

pub returns-clause-settled : goal.returns-clause-settled
returns-clause-settled g c =
    let T = g.T.Tape in
    let found = c.args.found.now in
    let held : (ys : List ℕ) → T.holds c.sync.new.self ys → journal_of (lines_found found) ≡ ys = λ ys held.
    let from = c.in_ok-cut.ensures.cut ys ((c.sync.ensures.held ys).0 held) in
    sym found.ends.lines ∙ ap (λ (x : List ℕ). take found.end x) (c.requires.found from.0 from.1) ∙ sym from.2 in
    record {
      are = (parts found.bytes.items).are;
      synced = c.in_ok-sync.ensures.durable;
      held = held;
    }
