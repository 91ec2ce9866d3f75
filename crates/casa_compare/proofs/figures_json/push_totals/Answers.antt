use Rattle.casa_wire.proofs.Behind.{both}
use Rattle.casa_compare.proofs.Texts.{totals_text}
use Rattle.casa_compare.proofs.figures_json.push_totals.Goals as goal

pub returns : goal.returns
returns c =
    let end = c.push_text.new.out.items in
    rw (← totals_text c.args.totals.now)
    (both c.args.out.now.items c.push_figure.new.out.items end _ _ c.in_ok-push_figure.ensures
    (both c.push_figure.new.out.items c.push_figure-2.new.out.items end _ _ c.in_ok-push_figure-2.ensures
    (both c.push_figure-2.new.out.items c.push_figure-3.new.out.items end _ _ c.in_ok-push_figure-3.ensures
    (both c.push_figure-3.new.out.items c.push_figure-4.new.out.items end _ _ c.in_ok-push_figure-4.ensures
    (both c.push_figure-4.new.out.items c.push_figure-5.new.out.items end _ _ c.in_ok-push_figure-5.ensures
    (both c.push_figure-5.new.out.items c.push_mean.new.out.items end _ _ (rw c.mean.ensures at c.in_ok-push_mean.ensures)
    (both c.push_mean.new.out.items c.push_figure-6.new.out.items end _ _ c.in_ok-push_figure-6.ensures
    (both c.push_figure-6.new.out.items c.push_figure-7.new.out.items end _ _ c.in_ok-push_figure-7.ensures
    (both c.push_figure-7.new.out.items c.push_figure-8.new.out.items end _ _ c.in_ok-push_figure-8.ensures c.in_ok-push_text.ensures)))))))))
