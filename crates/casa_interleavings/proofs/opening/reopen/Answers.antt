use Rattle.std.proofs.Common.{◌≡◌, Err, ap, rules}
use Rattle.casa_tape.specs.Lines.{whole_lines}
use Rattle.casa_tape.specs.Recovery.{lines_found}
use Rattle.casa_tape.proofs.WholeLines.{parts}
use Rattle.casa_day.specs.Faults.{open_fault}
use Rattle.casa_day.proofs.Restoring.{if_err, refused_same, stands_on}
use Rattle.casa_interleavings.proofs.Refusing.{not_of_lines, passed_on, cause_of}
use Rattle.casa_interleavings.proofs.opening.reopen.Goals as goal

pub returns-in_err-run-clause-refused : goal.returns-in_err-run-clause-refused
returns-in_err-run-clause-refused g c =
    let fault = c.in_err-run.field-0.0 in
    let found = c.in_ok-found.found in
    let is : c.from_residual-in_err-run.result ≡ Err fault = search rules in
    if_err _ c.from_residual-in_err-run.result fault is
    (λ of xs held.
    refused_same found.bytes.items xs (c.in_ok-found.ensures.found xs ((c.look.ensures.held xs).1 held))
    (c.in_err-run.ensures.refused (lines_found found) (parts found.bytes.items).are c.lines.ensures))

pub returns-in_err-mend-clause-refused : goal.returns-in_err-mend-clause-refused
returns-in_err-mend-clause-refused g c =
    let e = c.in_err-mend.field-0.0 in
    let residual = c.from_residual-in_err-mend in
    if_err _ residual.result (open_fault e) (passed_on residual.result residual.ensures.1) (λ of. absurd (not_of_lines e of))

pub returns-in_err-mend-clause-untouched : goal.returns-in_err-mend-clause-untouched
returns-in_err-mend-clause-untouched g c =
    let e = c.in_err-mend.field-0.0 in
    let residual = c.from_residual-in_err-mend in
    if_err _ residual.result (open_fault e) (passed_on residual.result residual.ensures.1) (λ of. absurd (not_of_lines e of))

pub returns-in_err-mend-clause-cause : goal.returns-in_err-mend-clause-cause
returns-in_err-mend-clause-cause g c =
    let residual = c.from_residual-in_err-mend in
    cause_of c.in_err-mend.was (passed_on residual.result residual.ensures.1) c.mend.ensures.cause.failed

pub returns-in_err-mend-clause-any_moment : goal.returns-in_err-mend-clause-any_moment
returns-in_err-mend-clause-any_moment g c =
    stands_on g.T.Tape c.args.tape.now c.look.new.tape c.mend.new.tape (g.met.T.Tape.counts_now c.look.new.tape)
    c.look.ensures.any_moment c.mend.ensures.any_moment

pub returns-clause-any_moment : goal.returns-clause-any_moment
returns-clause-any_moment g c =
    stands_on g.T.Tape c.args.tape.now c.look.new.tape c.mend.new.tape (g.met.T.Tape.counts_now c.look.new.tape)
    c.look.ensures.any_moment c.mend.ensures.any_moment

pub returns-clause-reopened : goal.returns-clause-reopened
returns-clause-reopened g c =
    let found = c.in_ok-found.found in
    record {
      answered = c.in_ok-run.ensures.answered;
      lines = lines_found found;
      found = λ xs held. ap (λ ys. whole_lines ys) (c.in_ok-found.ensures.found xs ((c.look.ensures.held xs).1 held));
      settled = c.in_ok-mend.ensures.settled;
      said = c.in_ok-run.ensures.said (lines_found found) (parts found.bytes.items).are c.lines.ensures;
    }
