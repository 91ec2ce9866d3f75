use Rattle.std.proofs.Common.{sym, ◌∙◌}
use Rattle.casa_interleavings.proofs.whole_life.live_in_memory.Goals as goal

pub returns-in-Ok-clause-lived : goal.returns-in-Ok-clause-lived
returns-in-Ok-clause-lived g c =
    let shown = sym c.new-tape.ensures.shown in
    (c.new-tape.result, shown, λ left may_be. c.new-tape.ensures.synced left may_be ∙ c.new-tape.ensures.shown, c.in-Ok.ensures.lived c.args.found.items shown)

pub returns-in-Ok-clause-never_fails_on : goal.returns-in-Ok-clause-never_fails_on
returns-in-Ok-clause-never_fails_on g c = (c.in-Ok.ensures.lived c.args.found.items (sym c.new-tape.ensures.shown)).went_on.cause

pub returns-clause-accepted : goal.returns-clause-accepted
returns-clause-accepted g c history least is keeps of =
    c.in-Err.ensures.accepted history least c.args.found.items is (sym c.new-tape.ensures.shown) keeps of
