use Rattle.serde_json.proofs.OnLiterals.{serde_json_on_literals}
use Rattle.casa_wire.proofs.Behind.{flight_text}
use Rattle.casa_wire.proofs.reply_lines.push_flight.Goals as goal

pub returns : goal.returns
unfolding serde_json_on_literals
returns c =
    rw (← flight_text c.args.flight.now)
    (rw (c.secs.ensures.value, c.standing_text.ensures, c.as_bytes.ensures, c.name_or_null.ensures) at c.push_parts.ensures)
