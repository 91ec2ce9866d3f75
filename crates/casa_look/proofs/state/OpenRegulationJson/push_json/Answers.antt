use Rattle.casa_wire.proofs.Behind.{both}
use Rattle.casa_look.proofs.Written.{regulation_text}
use Rattle.casa_look.proofs.state.OpenRegulationJson.push_json.Goals as goal

pub returns : goal.returns
returns c =
    let end = c.push_text-2.new.out.items in
    rw (← regulation_text c.args.self.now)
    (both c.args.out.now.items c.push_figure.new.out.items end _ _ c.in_ok-push_figure.ensures
    (both c.push_figure.new.out.items c.push_figure-2.new.out.items end _ _ c.in_ok-push_figure-2.ensures
    (both c.push_figure-2.new.out.items c.push_figure-3.new.out.items end _ _ c.in_ok-push_figure-3.ensures
    (both c.push_figure-3.new.out.items c.push_figure-4.new.out.items end _ _ c.in_ok-push_figure-4.ensures
    (both c.push_figure-4.new.out.items c.push_name.new.out.items end _ _ (rw c.as_bytes.ensures at c.in_ok-push_name.ensures)
    (both c.push_name.new.out.items c.push_figure-5.new.out.items end _ _ c.in_ok-push_figure-5.ensures
    (both c.push_figure-5.new.out.items c.push_figure-6.new.out.items end _ _ c.in_ok-push_figure-6.ensures
    (both c.push_figure-6.new.out.items c.push_text.new.out.items end _ _ c.in_ok-push_text.ensures
    (both c.push_text.new.out.items c.push_array.new.out.items end _ _ (rw c.periods.ensures.value at c.in_ok-push_array.ensures)
    (both c.push_array.new.out.items c.push_name-2.new.out.items end _ _ (rw c.as_bytes-2.ensures at c.in_ok-push_name-2.ensures)
    (both c.push_name-2.new.out.items c.push_figure-7.new.out.items end _ _ c.in_ok-push_figure-7.ensures c.in_ok-push_text-2.ensures)))))))))))
