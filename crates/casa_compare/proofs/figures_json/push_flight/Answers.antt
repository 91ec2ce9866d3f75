use Rattle.casa_wire.proofs.Behind.{both}
use Rattle.casa_compare.proofs.Texts.{difference_text}
use Rattle.casa_compare.proofs.figures_json.push_flight.Goals as goal

pub returns : goal.returns
returns c =
    let end = c.push_text-2.new.out.items in
    rw (← difference_text c.args.flight.now)
    (both c.args.out.now.items c.push_text.new.out.items end _ _ c.in_ok-push_text.ensures
    (both c.push_text.new.out.items c.push_standing.new.out.items end _ _ c.in_ok-push_standing.ensures
    (both c.push_standing.new.out.items c.push_parts.new.out.items end _ _ (rw c.as_bytes.ensures at c.in_ok-push_parts.ensures)
    (both c.push_parts.new.out.items c.push_standing-2.new.out.items end _ _ c.in_ok-push_standing-2.ensures c.in_ok-push_text-2.ensures))))
