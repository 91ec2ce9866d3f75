use Rattle.std.proofs.Common.{refl, sym, ◌∙◌}
use Rattle.casa_server.specs.Requests.{request_beginnings}
use Rattle.casa_server.proofs.Beginnings.{any_stays, none_later, any_is_short}
use Rattle.casa_server.proofs.guard.told_by.Goals as goal

pub returns-then-begins_by : goal.returns-then-begins_by
returns-then-begins_by c rest = any_stays request_beginnings c.args.bytes.now rest (sym c.begins_by.ensures ∙ c.if-begins_by.true)

pub returns-then-is_begun : goal.returns-then-is_begun
returns-then-is_begun c = record {
  few = any_is_short request_beginnings c.args.bytes.now 8 refl (sym c.begins_by.ensures ∙ c.if-begins_by.false) (sym c.is_begun.ensures ∙ c.if-is_begun.true);
  none = sym c.begins_by.ensures ∙ c.if-begins_by.false;
}

pub returns-else-is_begun : goal.returns-else-is_begun
returns-else-is_begun c rest =
    none_later request_beginnings c.args.bytes.now rest (sym c.begins_by.ensures ∙ c.if-begins_by.false) (sym c.is_begun.ensures ∙ c.if-is_begun.false)
