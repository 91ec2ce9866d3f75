use Rattle.casa_wire.proofs.Behind.{both}
use Rattle.casa_look.proofs.Written.{all_news_text}
use Rattle.casa_look.proofs.since.push_since.Goals as goal

pub returns : goal.returns
returns c =
    rw (← all_news_text c.args.position c.args.entries.now)
    (both c.args.out.now.items c.push_parts.new.out.items c.push_text.new.out.items _ _
    c.in_ok-push_parts.ensures
    (both c.push_parts.new.out.items c.push_array.new.out.items c.push_text.new.out.items _ _
    (rw (c.as_slice.ensures.value, c.in_ok-news.ensures) at c.in_ok-push_array.ensures) c.in_ok-push_text.ensures))
