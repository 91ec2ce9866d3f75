use Rattle.std.proofs.Common.{◌≡◌, ◌∷◌, [], sym, ◌∙◌, true}
use Rattle.std.specs.List.{list_all}
use Rattle.casa_wire.specs.Parts.{is_plain_byte}
use Rattle.casa_wire.proofs.Behind.{both}
use Rattle.casa_wire.proofs.Plain.{plain_name}
use Rattle.casa_lines.proofs.object.push_name.Goals as goal

pub returns : goal.returns
returns c =
    let name = c.args.name.now in
    let quoted = c.push.new.self.items in
    let plain : list_all is_plain_byte name ≡ true = sym c.is_word.ensures ∙ c.if-not-is_word.false in
    let rest = both quoted _ c.push-2.new.self.items name (34 ∷ []) c.in_ok-extend_from_slice.ensures.items c.in_ok-push-2.ensures.items in
    rw (plain_name name plain) (both c.args.out.now.items quoted _ (34 ∷ []) _ c.in_ok-push.ensures.items rest)
