use Rattle.std.proofs.Common.{refl}
use Rattle.casa_wire.proofs.Fields.{field_text_is}
use Rattle.casa_wire.proofs.reply_values.field_text.Goals as goal

pub returns : goal.returns
returns c =
    rw (field_text_is c.args.field, c.in_ok-push_str-2.ensures.bytes, c.in_ok-push_str.ensures.bytes, c.in_ok-text.ensures.ok, c.name.ensures) refl
