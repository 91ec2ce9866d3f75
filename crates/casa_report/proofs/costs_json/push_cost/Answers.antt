use Rattle.casa_wire.proofs.Behind.{both}
use Rattle.casa_report.proofs.Written.{cost_text}
use Rattle.casa_report.proofs.costs_json.push_cost.Goals as goal

pub returns : goal.returns
returns c =
    let end = c.push_text.new.out.items in
    rw (← cost_text c.args.list.now)
    (both c.args.out.now.items c.push_figure.new.out.items end _ _ (rw c.of-cost.ensures at c.in_ok-push_figure.ensures)
    (both c.push_figure.new.out.items c.push_figure-2.new.out.items end _ _ (rw c.of-cost.ensures at c.in_ok-push_figure-2.ensures)
    (both c.push_figure-2.new.out.items c.push_figure-3.new.out.items end _ _ (rw c.secs.ensures.value at c.in_ok-push_figure-3.ensures)
    (both c.push_figure-3.new.out.items c.push_figure-4.new.out.items end _ _ (rw c.of-cost.ensures at c.in_ok-push_figure-4.ensures)
    (both c.push_figure-4.new.out.items c.push_figure-5.new.out.items end _ _ (rw c.of-cost.ensures at c.in_ok-push_figure-5.ensures)
    (both c.push_figure-5.new.out.items c.push_name.new.out.items end _ _ (rw c.as_bytes.ensures at c.in_ok-push_name.ensures)
    (both c.push_name.new.out.items c.push_figure-6.new.out.items end _ _ (rw c.of-cost.ensures at c.in_ok-push_figure-6.ensures)
    (both c.push_figure-6.new.out.items c.push_mean.new.out.items end _ _ (rw (c.mean.ensures, c.of-cost.ensures) at c.in_ok-push_mean.ensures)
    (both c.push_mean.new.out.items c.push_figure-7.new.out.items end _ _ (rw c.of-cost.ensures at c.in_ok-push_figure-7.ensures)
    (both c.push_figure-7.new.out.items c.push_name-2.new.out.items end _ _ (rw c.as_bytes-2.ensures at c.in_ok-push_name-2.ensures)
    (both c.push_name-2.new.out.items c.push_figure-8.new.out.items end _ _ (rw c.of-cost.ensures at c.in_ok-push_figure-8.ensures)
    (both c.push_figure-8.new.out.items c.push_figure-9.new.out.items end _ _ (rw c.secs-2.ensures.value at c.in_ok-push_figure-9.ensures) c.in_ok-push_text.ensures))))))))))))
