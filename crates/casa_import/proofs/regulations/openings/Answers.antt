use Rattle.std.proofs.Common.{◌∙◌, ◌++◌, take, ap, sym}
use Rattle.std.specs.Prelude.{option_to_list}
use Rattle.std.specs.List.{filter_map}
use Rattle.std.proofs.lemmas.List.{take_all}
use Rattle.casa_import.specs.Crossings.{made_of}
use Rattle.casa_import.specs.Regulations.{opening_of, regs_of}
use Rattle.casa_import.proofs.More.{filter_map_more}
use Rattle.casa_import.proofs.regulations.openings.Goals as goal

pub loop-reg-preserved : goal.loop-reg-preserved
loop-reg-preserved c =
    let rows = c.args.rows.now in
    let more = filter_map_more (λ reg. made_of (opening_of rows reg)) c.deref-reg-items.result.now c.loop-reg.reg-index c.reg-item.result c.loop-reg-test.true c.reg-item.is in
    c.in_ok-push_opening.ensures ∙ ap (λ os. os ++ option_to_list (made_of (opening_of rows c.reg-item.result))) c.loop-reg.invariant ∙ sym more

pub returns : goal.returns
returns c =
    let rows = c.args.rows.now in
    let all = take_all c.loop-reg.reg-index c.deref-reg-items.result.now c.loop-reg-test.false in
    let regs = all ∙ c.deref-reg-items.ensures.value ∙ c.in_ok-regs.ensures ∙ ap regs_of c.requires in
    c.truncate.ensures.items ∙ ap (take 256) (c.loop-reg.invariant ∙ ap (filter_map (λ reg. made_of (opening_of rows reg))) regs)
