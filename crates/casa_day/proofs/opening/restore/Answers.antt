use Rattle.std.proofs.Common.{◌≡◌, List, ℕ, Err, sym, subst, rules}
use Rattle.std.specs.Prelude.{IfErr}
use Rattle.casa_tape.specs.Lines.{whole_lines}
use Rattle.casa_tape.specs.Recovery.{lines_found}
use Rattle.casa_tape.proofs.WholeLines.{parts}
use Rattle.casa_day.specs.Refusals.{IsOfLines, IsRefused}
use Rattle.casa_day.proofs.Restoring.{stands_on}
use Rattle.casa_day.proofs.opening.restore.Goals as goal

pub returns-in_err-count-clause-refused : goal.returns-in_err-count-clause-refused
returns-in_err-count-clause-refused g c =
    let fault = c.in_err-count.field-0.0 in
    let found = c.in_ok-found.found in
    let is : c.from_residual-in_err-count.result ≡ Err fault = search rules in
    subst (λ r. IfErr r (λ f. IsOfLines f → (xs : List ℕ) → g.T.Tape.holds c.args.tape.now xs → IsRefused g.S.Script g.W.World (whole_lines xs) f)) (sym is)
    (λ of xs held.
    subst (λ (ys : List ℕ). IsRefused g.S.Script g.W.World (whole_lines ys) fault) (c.in_ok-found.ensures.found xs ((c.look.ensures.held xs).1 held))
    (c.in_err-count.ensures.refused (lines_found found) (parts found.bytes.items).are c.lines.ensures))

pub returns-in_err-mend-clause-any_moment : goal.returns-in_err-mend-clause-any_moment
returns-in_err-mend-clause-any_moment g c =
    stands_on g.T.Tape c.args.tape.now c.look.new.tape c.mend.new.tape (g.met.T.Tape.counts_now c.look.new.tape) c.look.ensures.any_moment c.mend.ensures.any_moment

pub returns-clause-any_moment : goal.returns-clause-any_moment
returns-clause-any_moment g c =
    stands_on g.T.Tape c.args.tape.now c.look.new.tape c.mend.new.tape (g.met.T.Tape.counts_now c.look.new.tape) c.look.ensures.any_moment c.mend.ensures.any_moment
