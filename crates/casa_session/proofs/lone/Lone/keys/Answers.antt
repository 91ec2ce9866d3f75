use Rattle.std.proofs.Common.{◌≡◌, ◌∙◌, ◌+◌, ◌||◌, List, ap, option_map, subst, sym, take}
use Rattle.std.proofs.lemmas.List.{take_all}
use Rattle.std.proofs.lemmas.List.Folds.{list_any_more}
use Rattle.casa_filing.specs.Text.{Text}
use Rattle.casa_flight.specs.declared.call.Call.{Call}
use Rattle.casa_flight.specs.declared.reply.Reply.{Reply}
use Rattle.casa_flight.specs.declared.row.Row.{Row}
use Rattle.casa_history.specs.declared.entry.Entry.{Entry}
use Rattle.casa_session.specs.Filed.{filed_by}
use Rattle.casa_session.specs.Played.{state_after_calls}
use Rattle.casa_session.proofs.Filed.{AreKeys, files, is_filed, keys-kept, keys-none, keys-put, keys-whole}
use Rattle.casa_session.proofs.lone.Lone.keys.Goals as goal
use Rattle.casa_session.proofs.lone.Lone.keys.Goals.{in-Some+in_ok-insert, in_default}

pub loop-entry-init : goal.loop-entry-init
loop-entry-init c = keys-none (state_after_calls c.args.self.now) c.new-keys.result.keys c.new-keys.ensures.empty

pub loop-entry-preserved : goal.loop-entry-preserved
loop-entry-preserved c =
    let m = state_after_calls c.args.self.now in
    let items = c.entries-entry-items.result.now in
    let i = c.loop-entry.entry-index in
    let e = c.entry-item.result in
    let grown : (q : Text) → is_filed q (take (i + 1) items) ≡ (is_filed q (take i items) || files q e.call) = λ q.
    list_any_more (λ (x : Entry Call Reply). files q x.call) items i e c.loop-entry-test.true
    ∙ ap (λ (x : Entry Call Reply). is_filed q (take i items) || files q x.call) (sym c.entry-item.is) in
    let asked : c.filed_by.result ≡ option_map (λ (flight : Text × Row). flight.0) (filed_by m e.call) =
    c.filed_by.ensures ∙ ap (λ (x : Entry Call Reply). option_map (λ (flight : Text × Row). flight.0) (filed_by m x.call)) c.deref.ensures in
    elim c.match-filed_by.branch [
      | in-Some+in_ok-insert w ↦
          keys-put m (take i items) (take (i + 1) items) e c.loop-entry.keys.keys grown c.loop-entry.invariant
          w.in-Some.key c.match-filed_by.keys.keys (sym asked ∙ w.in-Some.is) (ap (λ keys. keys.keys) w.keys-is ∙ w.in_ok-insert.ensures.keys)
      | in_default w ↦
          subst (AreKeys m (take (i + 1) items)) (sym (ap (λ keys. keys.keys) w.keys-is))
          (keys-kept m (take i items) (take (i + 1) items) e c.loop-entry.keys.keys grown c.loop-entry.invariant
          (sym asked ∙ w.in_default.is))
    ]

pub returns : goal.returns
returns c =
    let items = c.entries-entry-items.result.now in
    let whole = take_all c.loop-entry.entry-index items c.loop-entry-test.false ∙ c.entries-entry-items.ensures in
    keys-whole c.args.self.now c.loop-entry.keys.keys
    (subst (λ (es : List (Entry Call Reply)). AreKeys (state_after_calls c.args.self.now) es c.loop-entry.keys.keys) whole c.loop-entry.invariant)
