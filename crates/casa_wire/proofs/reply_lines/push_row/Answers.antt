use Rattle.serde_json.proofs.OnLiterals.{serde_json_on_literals}
use Rattle.casa_wire.proofs.Behind.{row_text}
use Rattle.casa_wire.proofs.reply_lines.push_row.Goals as goal
use Rattle.casa_wire.proofs.reply_lines.push_row.Goals.{then-is_first, else-is_first}

pub returns : goal.returns
unfolding serde_json_on_literals
returns c =
    elim c.if-is_first.branch [
      | then-is_first w ↦
          rw (← row_text c.args.is_first c.args.row.now, w.if-is_first.true)
          (rw (w.opening-is, c.secs.ensures.value, c.as_bytes.ensures, c.kind_text.ensures, c.number_or_null.ensures, c.get.ensures) at c.push_parts.ensures)
      | else-is_first w ↦
          rw (← row_text c.args.is_first c.args.row.now, w.if-is_first.false)
          (rw (w.opening-is, c.secs.ensures.value, c.as_bytes.ensures, c.kind_text.ensures, c.number_or_null.ensures, c.get.ensures) at c.push_parts.ensures)
    ]
