use Rattle.casa_live.proofs.Written.{gauge_behind, on_ok}
use Rattle.casa_live.proofs.metrics.push_gauge.Goals as goal

pub returns : goal.returns
returns c =
    on_ok c.push_value.result
    (gauge_behind c.args.name.now c.args.help.now c.args.value c.args.out.now.items c.push_heading.new.out.items c.push_text.new.out.items _
    c.in_ok-push_heading.ensures c.in_ok-push_text.ensures) c.push_value.ensures
