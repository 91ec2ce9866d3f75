use Rattle.std.proofs.Common.{◌≡◌, ◌++◌, false, length, Err, refl, sym, ◌∙◌, ap, rules}
use Rattle.casa_tape.specs.Lines.{journal_of, whole_lines}
use Rattle.casa_tape.specs.Recovery.{lines_found}
use Rattle.casa_tape.proofs.WholeLines.{parts}
use Rattle.casa_day.proofs.Restoring.{if_err, refused_same, stands_on}
use Rattle.casa_day.proofs.Saying.{say_length}
use Rattle.casa_engine.specs.Fronts.{front_of}
use Rattle.casa_keeper.specs.Torn.{IsTornLine}
use Rattle.casa_keeper.proofs.Answered.{refused_for}
use Rattle.casa_keeper.proofs.opening.restore.Goals as goal

pub returns-in_err-count-clause-refused : goal.returns-in_err-count-clause-refused
returns-in_err-count-clause-refused g c =
    let fault = c.in_err-count.field-0.0 in
    let found = c.in_ok-found.found in
    let is : c.from_residual-in_err-count.result ≡ Err fault = search rules in
    if_err _ c.from_residual-in_err-count.result fault is
    (refused_for _ _ fault
    (λ why refused of xs held.
    refused_same found.bytes.items xs (c.in_ok-found.ensures.found xs ((c.look.ensures.held xs).1 held))
    (refused (lines_found found) (parts found.bytes.items).are c.lines.ensures))
    c.in_err-count.ensures.refused)

pub returns-in_err-mend-clause-any_moment : goal.returns-in_err-mend-clause-any_moment
returns-in_err-mend-clause-any_moment g c =
    stands_on g.T.Tape c.args.tape.now c.look.new.tape c.mend.new.tape (g.met.T.Tape.counts_now c.look.new.tape) c.look.ensures.any_moment c.mend.ensures.any_moment

pub returns-clause-any_moment : goal.returns-clause-any_moment
returns-clause-any_moment g c =
    stands_on g.T.Tape c.args.tape.now c.look.new.tape c.mend.new.tape (g.met.T.Tape.counts_now c.look.new.tape) c.look.ensures.any_moment c.mend.ensures.any_moment

pub returns-clause-restored : goal.returns-clause-restored
returns-clause-restored g c =
    let found = c.in_ok-found.found in
    let said = c.in_ok-count.ensures.said (lines_found found) (parts found.bytes.items).are c.lines.ensures in
    record {
      lines = lines_found found;
      found = λ xs held. ap (λ ys. whole_lines ys) (c.in_ok-found.ensures.found xs ((c.look.ensures.held xs).1 held));
      settled = c.in_ok-mend.ensures.settled;
      said = said.0;
      all = said.1;
    }

pub returns-then-not-is_torn_line-clause-more_than_torn : goal.returns-then-not-is_torn_line-clause-more_than_torn
returns-then-not-is_torn_line-clause-more_than_torn g c =
    let found = c.in_ok-found.found in
    let torn = c.torn-torn.result.now in
    let unforced : c.args.force ≡ false = search rules in
    let more : IsTornLine torn → ⊥ = search rules in
    let said = c.in_ok-count.ensures.said (lines_found found) (parts found.bytes.items).are c.lines.ensures in (
      unforced,
      λ xs held.
          let is : found.bytes.items ≡ xs = c.in_ok-found.ensures.found xs ((c.look.ensures.held xs).1 held) in
          record {
            torn = torn;
            is = sym is ∙ sym c.torn-torn.ensures ∙ ap (λ ys. journal_of (whole_lines ys) ++ torn) is;
            lines_are = ap (λ ys. length (whole_lines ys)) (sym is) ∙ say_length g.S.Script 1 (lines_found found) (front_of c.replay.new.desk) said.0 ∙ sym said.1;
            bytes_are = refl;
            more = more;
          },
    )
