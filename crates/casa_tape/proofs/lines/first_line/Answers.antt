use Rattle.std.proofs.Common.{◌≡◌, None, subst, rules, ◌+◌, ◌-◌, ◌++◌, ◌∷◌, List, ℕ, length, take, drop, sym, ◌∙◌, ap, arith, length-drop}
use Rattle.std.specs.Prelude.{Contains, IfNone}
use Rattle.std.proofs.lemmas.List.{take_all}
use Rattle.casa_tape.proofs.Places.{first_place, lacks, lacks_before}
use Rattle.casa_tape.proofs.WholeLines.{first_at, first_split}
use Rattle.casa_tape.proofs.lines.first_line.Goals as goal

pub returns-in_err-end-clause-none : goal.returns-in_err-end-clause-none
returns-in_err-end-clause-none c =
    let is : c.from_residual.result ≡ None = search rules in
    subst (λ r. IfNone r (¬ (Contains c.args.text.now 10))) (sym is) (lacks 10 c.args.text.now c.in_err-end.ensures)

pub returns-clause-first : goal.returns-clause-first
returns-clause-first c = lacks_before 10 c.args.text.now c.in_ok-end.end c.in_ok-end.ensures

pub returns-clause-split : goal.returns-clause-split
returns-clause-split c =
    let text = c.args.text.now in
    let end = c.in_ok-end.end in
    let at = first_at text end (sym (first_place 10 text end c.in_ok-end.ensures)) c.in_ok-end.ensures.0.high in
    at ∙ ap (λ (l : List ℕ). take end text ++ 10 ∷ l) (sym (take_all (length text - (end + 1)) (drop (end + 1) text) (omega (arith, length-drop (end + 1) text))))

pub returns-clause-line : goal.returns-clause-line
returns-clause-line c line behind is whole =
    first_split c.args.text.now line behind c.in_ok-end.end is whole (sym (first_place 10 c.args.text.now c.in_ok-end.end c.in_ok-end.ensures))
