use Rattle.std.proofs.Common.{◌≡◌, Some, refl, sym, subst, ap, ◌∙◌, rules}
use Rattle.casa_engine.specs.Fronts.{front_of}
use Rattle.casa_keeper.proofs.Answered.{one_more, otherwise}
use Rattle.casa_keeper.proofs.recovery.answer_again.Goals as goal

pub returns-then-not-vouches-clause-refused : goal.returns-then-not-vouches-clause-refused
returns-then-not-vouches-clause-refused g c =
    let script = g.S.Script in
    let position = c.args.position in
    let line = c.args.line.now in
    let at : c.in-Ok.receipt.position ≡ position = search rules in
    let not : script.vouches_for position line c.deref.result.now.reply → ⊥ = search rules in
    let said : script.says position line ≡ Some c.in-Some.call = search rules in (
      refl,
      otherwise _ (front_of c.args.desk.now) (front_of c.call.new.desk) c.in-Ok.receipt position c.in-Ok.ensures.seen at c.requires
          script line c.in-Some.call c.deref.result.now said c.in-Ok.ensures.stands.called c.deref.ensures not,
    )

pub returns-clause-said : goal.returns-clause-said
returns-clause-said g c =
    let script = g.S.Script in
    let position = c.args.position in
    let line = c.args.line.now in
    let receipt = c.in-Ok.receipt in
    let at : receipt.position ≡ position = search rules in
    let vouched : script.vouches_for position line c.deref.result.now.reply = search rules in
    let said : script.says position line ≡ Some c.in-Some.call = search rules in
    let call : receipt.entry.call ≡ c.in-Some.call = c.in-Ok.ensures.stands.called in (
      receipt.entry,
      record { call = said ∙ ap Some (sym call); reply = subst (λ x. script.vouches_for position line x.reply) c.deref.ensures vouched },
      one_more _ (front_of c.args.desk.now) (front_of c.call.new.desk) receipt position c.in-Ok.ensures.seen at c.requires,
    )
