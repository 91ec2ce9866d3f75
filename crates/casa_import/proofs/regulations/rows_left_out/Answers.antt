use Rattle.std.proofs.Common.{◌∙◌, ◌++◌, take, ap, sym}
use Rattle.std.specs.Prelude.{option_to_list}
use Rattle.std.specs.List.{filter_map}
use Rattle.casa_import.specs.Regulations.{left_out, left_out_for}
use Rattle.casa_import.proofs.More.{filter_map_more}
use Rattle.casa_import.proofs.regulations.rows_left_out.Goals as goal

pub loop-row-preserved : goal.loop-row-preserved
loop-row-preserved c =
    let item = c.row-item.result in
    let made = left_out c.args.rows.now c.args.openings.now in
    let more = filter_map_more made c.args.rows.now c.loop-row.row-index item c.loop-row-test.true c.row-item.is in
    let why = ap (λ reason. option_to_list (left_out_for item.line reason)) c.in_ok-reason.ensures in
    let before = filter_map made (take c.loop-row.row-index c.args.rows.now) in
    c.in_ok-push_left_out.ensures ∙ ap (λ all. all ++ option_to_list (left_out_for item.line c.in_ok-reason.reason)) c.loop-row.invariant ∙ ap (λ some. before ++ some) why ∙ sym more
