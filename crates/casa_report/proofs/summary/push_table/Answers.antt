use Rattle.std.proofs.Common.{◌≡◌, ◌∙◌, [], ◌++◌, ◌+◌, ap, drop, arith}
use Rattle.std.proofs.Math.ListN.{drop_of_length-le}
use Rattle.std.specs.List.{flat_map}
use Rattle.casa_inquiry.specs.Summary.{cost_of_all}
use Rattle.casa_report.specs.SummaryTable.{regulation_line, summary_table, totals_line}
use Rattle.casa_report.proofs.Lines.{next_line_before}
use Rattle.casa_report.proofs.summary.push_table.Goals as goal

pub loop-list-preserved : goal.loop-list-preserved
loop-list-preserved c =
    let lists = c.args.lists.now in
    let i = c.loop-list.list-index in
    let list = c.list-item.result in
    let text = c.loop-list.text.items in
    let totals = totals_line (cost_of_all lists) in
    ap (λ t. t ++ (flat_map regulation_line (drop (i + 1) lists) ++ totals)) (c.in_ok-extend_from_slice-2.ensures.items ∙ ap (λ t. text ++ t) (c.as_slice.ensures.value ∙ c.regulation_line.ensures))
    ∙ next_line_before regulation_line lists i list text totals (c.args.text.now.items ++ summary_table lists) c.loop-list-test.true c.list-item.is c.loop-list.invariant

pub returns : goal.returns
returns c =
    let lists = c.args.lists.now in
    let text = c.loop-list.text.items in
    let totals = totals_line (cost_of_all lists) in
    let no : drop c.loop-list.list-index lists ≡ [] = drop_of_length-le lists (omega (arith, c.loop-list-test.false)) in
    let line = c.as_slice-2.ensures.value ∙ (c.totals_line.ensures ∙ ap totals_line c.in-Some.ensures.some) in
    let whole : text ++ (flat_map regulation_line [] ++ totals) ≡ c.args.text.now.items ++ summary_table lists = rw no at c.loop-list.invariant in
    c.in_ok-extend_from_slice-3.ensures.items ∙ ap (λ t. text ++ t) line ∙ whole
