use Rattle.std.proofs.Common.{◌≡◌, ◌∙◌, ◌-◌, ◌++◌, ◌∷◌, [], ap, sym, List, Some, arith}
use Rattle.casa_inquiry.specs.declared.why.Holding.{Holding}
use Rattle.casa_inquiry.specs.Why.{held_in, slot_held, slot_with}
use Rattle.casa_inquiry.proofs.Held.{row_grows, row_items}
use Rattle.casa_inquiry.proofs.why.put_down.Goals as goal

pub returns : goal.returns
returns c =
    let at = c.in-Some.slot - c.args.from in
    let has : slot_held c.args.list.now c.args.member.now.0 ≡ Some c.in-Some.slot =
    sym (c.in-Some.ensures ∙ ap (slot_held c.args.list.now) c.key.ensures) in
    let put : c.slot_with.result ≡ slot_with c.args.list.now c.in-Some.slot (Some c.args.member.now) = c.slot_with.ensures in
    row_grows c.args.list.now c.args.member.now c.args.from c.in-Some.slot c.args.rows.now c.push.new.self (omega arith) (omega arith) has
    (c.in_ok-push.ensures.items ∙ ap (λ (row : List Holding). row ++ c.slot_with.result ∷ []) (row_items c.args.rows.now at c.index-rows-slot.result (omega arith))
    ∙ ap (λ (h : Holding). held_in c.args.rows.now at ++ h ∷ []) put)
