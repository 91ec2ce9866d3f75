use Rattle.std.proofs.Common.{[]}
use Rattle.casa_wire.proofs.Behind.{both}
use Rattle.casa_report.proofs.reasons_json.why_json.Goals as goal

pub returns : goal.returns
returns c =
    both [] c.push_reasons.new.out.items c.push_text.new.out.items _ _
    (rw c.new-text.ensures.items at c.in_ok-push_reasons.ensures) c.in_ok-push_text.ensures
