use Rattle.std.proofs.Common.{◌≡◌, ◌+◌, ◌<◌, ◌^◌, ◌++◌, ◌∷◌, [], List, length, take, ap, sym, ◌∙◌, subst, arith, append_assoc, length-append}
use Rattle.std.proofs.lemmas.List.{length-take-le, take_all, take_more}
use Rattle.casa_flight.specs.declared.call.Call.{Call}
use Rattle.casa_flight.specs.declared.reply.Reply.{Reply}
use Rattle.casa_history.specs.declared.entry.Entry.{Entry}
use Rattle.casa_live.specs.Tallies.{IsTallyOf}
use Rattle.casa_live.proofs.tally.Tally.add_all.Goals as goal

pub loop-entry-preserved : goal.loop-entry-preserved
loop-entry-preserved c = λ history fits is.
    let es : List (Entry Call Reply) = c.args.entries.now in
    let k = c.loop-entry.entry-index in
    let e : Entry Call Reply = c.entry-item.result in
    let within : k < length es = c.loop-entry-test.true in
    let here : c.deref.result.now ≡ e = c.deref.ensures in
    let next : take (k + 1) es ≡ take k es ++ e ∷ [] =
    take_more es k e within ∙ ap (λ (x : Entry Call Reply). take k es ++ x ∷ []) (sym c.entry-item.is) in
    let all : (history ++ take k es) ++ c.deref.result.now ∷ [] ≡ history ++ take (k + 1) es =
    ap (λ (x : Entry Call Reply). (history ++ take k es) ++ x ∷ []) here ∙ append_assoc history (take k es) (e ∷ [])
    ∙ ap (λ (xs : List (Entry Call Reply)). history ++ xs) (sym next) in
    let room : length (history ++ take k es) + 1 < 2 ^ 64 =
    omega (arith, fits, within, length-append history (take k es), length-take-le k es (omega arith)) in
    subst (λ (xs : List (Entry Call Reply)). IsTallyOf xs c.add.new.self) all
    (c.add.ensures (history ++ take k es) room (c.loop-entry.invariant history fits is))

pub returns : goal.returns
returns c = λ history fits is.
    let es : List (Entry Call Reply) = c.args.entries.now in
    subst (λ (xs : List (Entry Call Reply)). IsTallyOf (history ++ xs) c.loop-entry.self) (take_all c.loop-entry.entry-index es c.loop-entry-test.false)
    (c.loop-entry.invariant history fits is)
