use Rattle.std.proofs.Common.{◌≡◌, ℕ, ◌+◌, ◌<◌, ◌++◌, ◌∷◌, [], List, length, take, Some, sym, ◌∙◌, ap, subst, arith, rules, length-take}
use Rattle.std.proofs.lemmas.List.{append_assoc, take_all, take_more}
use Rattle.casa_tape.specs.Lines.{IsLine}
use Rattle.casa_day.specs.Scripts.{IsTextOf, Says}
use Rattle.casa_day.proofs.Saying.{text_none, text_more}
use Rattle.casa_day.proofs.text.text_of.Goals as goal

pub loop-entry-init : goal.loop-entry-init
loop-entry-init g c = record {
  position = search rules;
  text = subst (IsTextOf g.S.Script (c.args.before + 1) []) (sym c.new-text.ensures.items) (text_none g.S.Script (c.args.before + 1));
}

pub loop-entry-preserved : goal.loop-entry-preserved
loop-entry-preserved g c =
    let script = g.S.Script in
    let es = c.args.entries.now in
    let i = c.loop-entry.entry-index in
    let e = c.entry-item.result in
    let before = c.loop-entry.invariant in
    let text = c.loop-entry.text.items in
    let pushed : (line : List ℕ) × (c.push.new.out.items ≡ text ++ line) × IsLine line × (script.says (c.loop-entry.position + 1) line ≡ Some c.deref.result.now.call)
    × script.vouches_for (c.loop-entry.position + 1) line c.deref.result.now.reply = c.in_ok-push.ensures in
    let line = pushed.0 in
    let says : Says script (c.loop-entry.position + 1) line e =
    subst (Says script (c.loop-entry.position + 1) line) c.deref.ensures (record { call = pushed.3; reply = pushed.4 }) in
    let within : i < length es = search rules in
    let behind : c.push-in-loop-entry.new.self.items ≡ text ++ (line ++ 10 ∷ []) =
    c.in_ok-push-2.ensures.items ∙ ap (λ x. x ++ 10 ∷ []) pushed.1 ∙ append_assoc text line (10 ∷ []) in
    record {
      position = omega (arith, before.position);
      text = subst (λ fs. IsTextOf script (c.args.before + 1) fs c.push-in-loop-entry.new.self.items) (sym (take_more es i e within ∙ ap (λ x. take i es ++ x ∷ []) (sym c.entry-item.is)))
          (text_more script (c.args.before + 1) (c.loop-entry.position + 1) (take i es) e text line c.push-in-loop-entry.new.self.items
          (omega (arith, before.position, length-take i es, c.loop-entry.auto.entry-index-end)) before.text pushed.2 says behind);
    }

pub returns : goal.returns
returns g c =
    let es = c.args.entries.now in
    subst (λ fs. IsTextOf g.S.Script (c.args.before + 1) fs c.loop-entry.text.items) (take_all c.loop-entry.entry-index es c.loop-entry-test.false) c.loop-entry.invariant.text
