use Rattle.std.proofs.Common.{◌∙◌, subst}
use Rattle.casa_lines.specs.Sayable.{IsSayable}
use Rattle.casa_lines.proofs.Ordered.{written_alone}
use Rattle.casa_lines.proofs.Readings.{call_read, call_seen, on_ok}
use Rattle.casa_lines.proofs.writing.push_call.Goals as goal

pub returns-clause-ok : goal.returns-clause-ok
returns-clause-ok c =
    written_alone c.push_call_beside.result c.args.call.now c.sayable-call.result c.args.out.now.items c.push_call_beside.new.out.items (c.sayable-call.ensures.same ∙ c.in_ok-try_clone.ensures) c.push_call_beside.ensures.ok

pub returns-clause-characters : goal.returns-clause-characters
returns-clause-characters c = on_ok c.push_call_beside.result (call_seen c.args.call.now (subst IsSayable c.in_ok-try_clone.ensures c.sayable-call.ensures.sayable))

pub returns-clause-again : goal.returns-clause-again
returns-clause-again c = on_ok c.push_call_beside.result (call_read c.args.call.now (subst IsSayable c.in_ok-try_clone.ensures c.sayable-call.ensures.sayable))
