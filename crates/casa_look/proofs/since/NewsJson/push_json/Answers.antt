use Rattle.casa_wire.proofs.Behind.{both}
use Rattle.casa_look.proofs.Written.{news_text}
use Rattle.casa_look.proofs.since.NewsJson.push_json.Goals as goal

pub returns : goal.returns
returns c =
    rw (← news_text c.args.self.now)
    (both c.args.out.now.items c.push_parts.new.out.items c.push_parts-2.new.out.items _ _
    (rw c.time_or_null.ensures at c.in_ok-push_parts.ensures)
    (both c.push_parts.new.out.items c.push_messages.new.out.items c.push_parts-2.new.out.items _ _
    (rw c.as_slice.ensures at c.in_ok-push_messages.ensures) c.in_ok-push_parts-2.ensures))
