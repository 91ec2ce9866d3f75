use Rattle.std.proofs.Common.{List, ap, ◌∙◌, None, Some}
use Rattle.casa_filing.specs.declared.regulation.Regulation.{Regulation}
use Rattle.casa_filing.specs.Text.{Text, put}
use Rattle.casa_plan_spec.specs.Sight.{Sight, Written}
use Rattle.casa_plan_spec.specs.Enter.{with_entries}
use Rattle.casa_plan.proofs.Closed.{closing_as}
use Rattle.casa_plan.proofs.closing.after_closing.Goals as goal

pub returns : goal.returns
returns g c =
    let v : Sight = c.args.view.now in
    let id : Text = c.args.id in
    let rs : List Regulation = c.in_ok-catalogue.catalogue in
    c.in_ok-set_catalogue.ensures.written
    ∙ ap (λ (w : Written). let x : Written = record w { catalogue = Some rs } in x)
    (c.in_ok-enter_all.ensures
    ∙ (λ i. with_entries c.clock.result rs v
    ((c.in_ok-set_list.ensures.written ∙ ap (λ (w : Written). let x : Written = record w { lists = put w.lists id None } in x) c.new-draft.ensures) i)
    (c.as_slice-comps.ensures.value i)))
    ∙ closing_as v id c.args.list.now c.clock.result rs c.in_ok-comps.comps.items c.clock.ensures c.in_ok-catalogue.ensures c.in_ok-comps.ensures
