use Rattle.std.proofs.Common.{◌≡◌, ◌≢◌, ◌<◌, ◌≤◌, ◌∙◌, length, sym, refl, arith}
use Rattle.std.proofs.lemmas.Bool.{eqb-false, eqb-true, ne_eqb}
use Rattle.casa_app.proofs.FirstBytes.{first_full, first_more}
use Rattle.casa_app.proofs.Noted.{byte_noted}
use Rattle.casa_app.proofs.notes.Notes.take_byte.Goals as goal

pub returns-then-not-is_full : goal.returns-then-not-is_full
returns-then-not-is_full c =
    let old = c.args.self.now in
    let some : length old.head.items ≢ 80 = eqb-false (length old.head.items) 80 (sym c.is_full.ensures.value ∙ c.if-not-is_full.true) in
    let fits : length old.head.items ≤ 80 = c.is_full.ensures.fits in
    let room : length old.head.items < 80 = omega arith in
    λ before h. byte_noted old _ before c.args.byte (ne_eqb c.args.byte 10 c.if-byte-eq10.false) (c.push.ensures.items ∙ first_more 80 old.head.items _ c.args.byte h.head_is room) refl refl refl refl h

pub returns-else-not-is_full : goal.returns-else-not-is_full
returns-else-not-is_full c =
    let old = c.args.self.now in
    let full : length old.head.items ≡ 80 = eqb-true (length old.head.items) 80 (sym c.is_full.ensures.value ∙ c.if-not-is_full.false) in
    λ before h. byte_noted old old before c.args.byte (ne_eqb c.args.byte 10 c.if-byte-eq10.false) (first_full 80 old.head.items _ c.args.byte h.head_is (omega arith)) refl refl refl refl h
