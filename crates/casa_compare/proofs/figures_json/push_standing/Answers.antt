use Rattle.casa_compare.proofs.Texts.{standing_text}
use Rattle.casa_compare.proofs.figures_json.push_standing.Goals as goal

pub returns : goal.returns
returns c =
    rw (c.in-Some.is, ← standing_text c.in-Some.standing)
    (rw (c.time_or_null.ensures, c.name_or_null.ensures) at c.in_ok-push_parts.ensures)
