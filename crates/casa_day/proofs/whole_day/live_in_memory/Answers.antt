use Rattle.std.proofs.Common.{sym, ◌∙◌}
use Rattle.casa_day.proofs.whole_day.live_in_memory.Goals as goal

pub returns-in-Err-clause-accepted : goal.returns-in-Err-clause-accepted
returns-in-Err-clause-accepted g c history least legal keeps of =
    c.in-Err.ensures.accepted history least c.args.found.items legal (sym c.new-tape.ensures.shown) keeps of

pub returns-clause-passed : goal.returns-clause-passed
returns-clause-passed g c =
    let shown = sym c.new-tape.ensures.shown in
    let opened = c.in-Ok.ensures in (
      c.new-tape.result,
      shown,
      λ left may_be. c.new-tape.ensures.synced left may_be ∙ c.new-tape.ensures.shown,
      record {
        opened = c.in-Ok.day;
        said = opened.said c.args.found.items shown;
        settled = opened.settled c.args.found.items shown;
        begun = opened.begun;
        any_moment = opened.any_moment;
        went_on = c.live-lived.ensures.went_on;
        happened = c.live-lived.ensures.course;
      },
    )
