use Rattle.std.proofs.Common.{◌≡◌, ◌++◌, List, ℕ, sym, ◌∙◌, ap}
use Rattle.casa_tape.specs.Lines.{journal_of, IsBetween}
use Rattle.casa_tape.proofs.Moments.{call_more}
use Rattle.casa_tape.proofs.Runs.{written}
use Rattle.casa_tape.proofs.Torn.{journal_append, lines_append}
use Rattle.casa_tape.proofs.journal.append.Goals as goal

pub returns-in_err-append-clause-any_moment : goal.returns-in_err-append-clause-any_moment
returns-in_err-append-clause-any_moment g c lines added news is settled =
    (written g.T.Tape c.args.tape.now c.append.new.self (g.met.T.Tape.only_now c.args.tape.now) c.append.ensures.time lines added c.args.text.now news is settled c.append.ensures.crash).leaves

pub returns-in_err-sync-clause-any_moment : goal.returns-in_err-sync-clause-any_moment
returns-in_err-sync-clause-any_moment g c lines added news is settled =
    let run = written g.T.Tape c.args.tape.now c.append.new.self (g.met.T.Tape.only_now c.args.tape.now) c.append.ensures.time lines added c.args.text.now news is settled c.append.ensures.crash in
    call_more g.T.Tape c.args.tape.now c.append.new.self c.sync.new.self (IsBetween lines added) run.leaves c.sync.ensures.time (λ f now. run.now f (c.sync.ensures.crash f now))

pub returns-clause-any_moment : goal.returns-clause-any_moment
returns-clause-any_moment g c lines added news is settled =
    let run = written g.T.Tape c.args.tape.now c.append.new.self (g.met.T.Tape.only_now c.args.tape.now) c.append.ensures.time lines added c.args.text.now news is settled c.append.ensures.crash in
    call_more g.T.Tape c.args.tape.now c.append.new.self c.sync.new.self (IsBetween lines added) run.leaves c.sync.ensures.time (λ f now. run.now f (c.sync.ensures.crash f now))

pub returns-clause-settled : goal.returns-clause-settled
returns-clause-settled g c lines added news is settled =
    let T = g.T.Tape in
    let held : (ys : List ℕ) → T.holds c.sync.new.self ys → journal_of (lines ++ added) ≡ ys = λ ys held.
    let from = c.in_ok-append.ensures.written ys ((c.sync.ensures.held ys).0 held) in
    journal_append lines added ∙ sym (from.2 ∙ ap (λ (x : List ℕ). x ++ c.args.text.now) (sym (settled.held from.0 from.1)) ∙ ap (λ (x : List ℕ). journal_of lines ++ x) is) in
    record {
      are = lines_append lines added settled.are news;
      synced = c.in_ok-sync.ensures.durable;
      held = held;
    }
