use Rattle.std.proofs.Common.{◌≡◌, ◌++◌, drop}
use Rattle.std.specs.Prelude.{map}
use Rattle.serde_json.specs.View.{view}
use Rattle.casa_wire.specs.LineTexts.{row_data}
use Rattle.casa_wire.proofs.reply_values.rows_value.Given as goal

abbrev pub invariant-loop-row : goal.invariant-loop-row
invariant-loop-row l =
    map view l.items.items ++ map row_data (drop l.row-index l.rows) ≡ map row_data l.rows
