use Rattle.std.proofs.Common.{◌≡◌, Some, ◌∙◌, ap, subst, rules}
use Rattle.casa_commit.specs.Rooms.{next_entry}
use Rattle.casa_day.proofs.opening.answer_again.Goals as goal

pub returns-clause-said : goal.returns-clause-said
returns-clause-said g c =
    let script = g.S.Script in
    let line = c.args.line.now in
    let e = next_entry c.args.room.now 0 c.in-Some.call in
    let extended = c.in_ok-receipt.ensures.accepted.1 in
    let call : script.says c.args.position line ≡ Some e.call = search rules in
    let vouched : script.vouches_for c.args.position line c.deref.result.now.reply = search rules in
    let is : c.deref.result.now ≡ e = c.deref.ensures ∙ ap (λ r. r.entry) extended.receipt_is in
    (e, record { call = call; reply = subst (λ x. script.vouches_for c.args.position line x.reply) is vouched }, extended.history)
