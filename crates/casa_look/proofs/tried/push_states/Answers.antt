use Rattle.casa_wire.proofs.Behind.{both}
use Rattle.casa_look.proofs.Written.{two_states_text}
use Rattle.casa_look.specs.TriedText.{shown_data}
use Rattle.casa_look.proofs.tried.push_states.Goals as goal

pub returns : goal.returns
returns c m n of_before of_after =
    let end = c.push_text-3.new.out.items in
    rw (← two_states_text (shown_data c.args.calls_before m) (shown_data c.args.calls_after n))
    (both c.args.out.now.items c.push_text.new.out.items end _ _ c.in_ok-push_text.ensures
    (both c.push_text.new.out.items c.push_shown.new.out.items end _ _ (c.in_ok-push_shown.ensures n of_after)
    (both c.push_shown.new.out.items c.push_text-2.new.out.items end _ _ c.in_ok-push_text-2.ensures
    (both c.push_text-2.new.out.items c.push_shown-2.new.out.items end _ _ (c.in_ok-push_shown-2.ensures m of_before) c.in_ok-push_text-3.ensures))))
