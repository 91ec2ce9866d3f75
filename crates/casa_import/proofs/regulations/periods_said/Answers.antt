use Rattle.std.proofs.Common.{◌∙◌, ◌++◌, ap, sym}
use Rattle.std.specs.Prelude.{option_to_list}
use Rattle.casa_import.specs.declared.periods.RegulationRow.{RegulationRow}
use Rattle.casa_import.specs.Crossings.{made_of}
use Rattle.casa_import.proofs.More.{filter_map_more}
use Rattle.casa_import.proofs.regulations.periods_said.Goals as goal

pub loop-row-preserved : goal.loop-row-preserved
loop-row-preserved c =
    let more = filter_map_more (λ (row : RegulationRow). made_of row.said) c.args.rows.now c.loop-row.row-index c.row-item.result c.loop-row-test.true c.row-item.is in
    c.in_ok-push_said.ensures ∙ ap (λ ps. ps ++ option_to_list (made_of c.row-item.result.said)) c.loop-row.invariant ∙ sym more
