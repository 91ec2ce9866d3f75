use Rattle.std.proofs.Common.{◌≡◌, Some, None, refl, sym, ◌∙◌, ap, subst, rules}
use Rattle.std.specs.Option.{option_copied}
use Rattle.casa_flight.specs.declared.call.Call.{Call}
use Rattle.casa_flight.specs.declared.reply.Reply.{Reply}
use Rattle.casa_history.specs.declared.entry.Entry.{Entry}
use Rattle.casa_history.specs.Entries.{entries, entry_at}
use Rattle.casa_commit.specs.Legal.{entry}
use Rattle.casa_interleavings.specs.Board.{sequential_reply}
use Rattle.casa_interleavings.specs.Runs.{run_history}
use Rattle.casa_interleavings.proofs.Answering.{next_entry_at, entry_found, not_vouched}
use Rattle.casa_interleavings.proofs.opening.answer_line.Goals as goal

pub unreachable-requires : goal.unreachable-requires
unreachable-requires g c =
    let h = run_history c.args.run in
    let e = entry 0 c.in-Some.call (sequential_reply h c.in-Some.call) in
    let at = next_entry_at h e c.requires.position (c.history.ensures.same ∙ c.in_ok-next.ensures.history) in
    let none : entry_at c.args.position (entries c.history.result.now) ≡ None =
    sym c.entry.ensures ∙ ap option_copied c.in_default-entry.is in
    absurd (cc (sym none ∙ at))

pub returns-then-not-branch-clause-refused : goal.returns-then-not-branch-clause-refused
returns-then-not-branch-clause-refused g c =
    let script = g.S.Script in
    let line = c.args.line.now in
    let h = run_history c.args.run in
    let e : Entry Call Reply = entry 0 c.in-Some.call (sequential_reply h c.in-Some.call) in
    let is = entry_found h e c.requires.position (c.history.ensures.same ∙ c.in_ok-next.ensures.history)
    (sym (ap option_copied c.in-Some-entry.is) ∙ c.entry.ensures) in
    let not : script.vouches_for c.args.position line c.in-Some-entry.entry.now.reply → ⊥ = search rules in
    let said : script.says c.args.position line ≡ Some c.in-Some.call = sym c.in_ok-call.ensures ∙ c.in-Some.is in
    let other = subst (λ x. script.vouches_for c.args.position line x.reply → ⊥) is not in (
      refl,
      record { call = c.in-Some.call; said = said; other = not_vouched script h c.in-Some.call c.args.position line other },
    )

pub returns-clause-said : goal.returns-clause-said
returns-clause-said g c =
    let script = g.S.Script in
    let line = c.args.line.now in
    let h = run_history c.args.run in
    let e : Entry Call Reply = entry 0 c.in-Some.call (sequential_reply h c.in-Some.call) in
    let is = entry_found h e c.requires.position (c.history.ensures.same ∙ c.in_ok-next.ensures.history)
    (sym (ap option_copied c.in-Some-entry.is) ∙ c.entry.ensures) in
    let vouched : script.vouches_for c.args.position line c.in-Some-entry.entry.now.reply = search rules in
    let said : script.says c.args.position line ≡ Some c.in-Some.call = sym c.in_ok-call.ensures ∙ c.in-Some.is in
    let reply = subst (λ x. script.vouches_for c.args.position line x.reply) is vouched in
    (e, record { call = said; reply = reply }, c.in_ok-next.ensures.history)
