use Rattle.std.proofs.Common.{◌≡◌, ◌∙◌, ap}
use Rattle.casa_import.specs.Regulations.{judged, judged_rows, openings, rows_left_out}
use Rattle.casa_import.proofs.regulations.regulations_of.Goals as goal

pub returns-clause-left_out : goal.returns-clause-left_out
returns-clause-left_out c =
    let rows = judged_rows c.args.day c.args.columns.now c.args.rows.now in
    let is_judged : c.in_ok-judged.judged.items ≡ rows = c.in_ok-judged.ensures ∙ ap judged (c.deref.ensures.value ∙ c.in_ok-said.ensures) in
    let opened : c.in_ok-openings.openings.items ≡ openings rows = c.in_ok-openings.ensures ∙ ap openings (c.deref-3.ensures.value ∙ is_judged) in
    let of_rows = c.deref-5.ensures.value ∙ is_judged in
    let of_openings = c.deref-7.ensures.value ∙ opened in
    c.in_ok-left_out.ensures ∙ (λ i. rows_left_out (of_rows i) (of_openings i))
