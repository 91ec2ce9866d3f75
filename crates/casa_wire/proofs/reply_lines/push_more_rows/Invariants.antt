use Rattle.std.proofs.Common.{◌≡◌, ◌++◌, take}
use Rattle.casa_wire.specs.LineTexts.{row_data}
use Rattle.casa_wire.specs.Parts.{more_text}
use Rattle.casa_wire.proofs.reply_lines.push_more_rows.Given as goal

abbrev pub invariant-loop-row : goal.invariant-loop-row
invariant-loop-row l = l.out.items ≡ l.fn.out.items ++ more_text row_data (take l.row-index l.rows)
