use Rattle.std.proofs.Common.{◌∙◌, subst}
use Rattle.casa_lines.specs.Sayable.{IsSayable}
use Rattle.casa_lines.proofs.Readings.{on_ok}
use Rattle.casa_script.proofs.Ordered.{written}
use Rattle.casa_script.proofs.Readings.{line_read, line_seen}
use Rattle.casa_script.proofs.writing.push_line.Goals as goal

pub returns-clause-ok : goal.returns-clause-ok
returns-clause-ok c =
    written c.push_call_beside.result c.args.label c.in_range-label.result c.args.call.now c.sayable-call.result c.args.out.now.items c.push_call_beside.new.out.items
    c.desk_member.result c.position_member.result c.rules_member.result c.sum_member.result
    c.in_range-label.ensures.same (c.sayable-call.ensures.same ∙ c.in_ok-try_clone.ensures)
    c.desk_member.ensures c.position_member.ensures c.rules_member.ensures c.sum_member.ensures c.push_call_beside.ensures.ok

pub returns-clause-characters : goal.returns-clause-characters
returns-clause-characters c =
    on_ok c.push_call_beside.result (line_seen c.args.label c.in_range-label.ensures.in_range c.args.call.now (subst IsSayable c.in_ok-try_clone.ensures c.sayable-call.ensures.sayable))

pub returns-clause-again : goal.returns-clause-again
returns-clause-again c =
    on_ok c.push_call_beside.result (line_read c.args.label c.in_range-label.ensures.in_range c.args.call.now (subst IsSayable c.in_ok-try_clone.ensures c.sayable-call.ensures.sayable))
