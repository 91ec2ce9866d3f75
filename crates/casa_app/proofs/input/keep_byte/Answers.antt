use Rattle.std.proofs.Common.{◌≡◌, ◌≢◌, ◌<◌, ◌≤◌, ◌∙◌, length, sym, arith}
use Rattle.std.proofs.lemmas.Bool.{eqb-false, eqb-true}
use Rattle.casa_app.proofs.FirstBytes.{first_full, first_more}
use Rattle.casa_app.proofs.input.keep_byte.Goals as goal

pub returns-then-not-is_full : goal.returns-then-not-is_full
returns-then-not-is_full c =
    let first = c.args.first.now.items in
    let some : length first ≢ 3 = eqb-false (length first) 3 (sym c.is_full.ensures.value ∙ c.if-not-is_full.true) in
    let fits : length first ≤ 3 = c.is_full.ensures.fits in
    let room : length first < 3 = omega arith in
    λ before e. c.push.ensures.items ∙ first_more 3 first before c.args.byte e room

pub returns-else-not-is_full : goal.returns-else-not-is_full
returns-else-not-is_full c =
    let first = c.args.first.now.items in
    let full : length first ≡ 3 = eqb-true (length first) 3 (sym c.is_full.ensures.value ∙ c.if-not-is_full.false) in
    λ before e. first_full 3 first before c.args.byte e (omega arith)
