use Rattle.casa_traffic.proofs.telling.push_regulation_figures.Goals as goal

pub returns : goal.returns
returns c =
    rw c.in-Some.is (rw (c.as_bytes.ensures.value, c.rows_of.ensures, c.opened.ensures, c.not_opened.ensures) at c.push_parts.ensures)
