use Rattle.std.proofs.Common.{◌≡◌, ◌++◌, ap, sym, ◌∙◌, Some, unwrap_or}
use Rattle.std.proofs.lemmas.Result.{on_ok_weaker}
use Rattle.casa_flight.specs.declared.row.Row.{Row}
use Rattle.casa_filing.specs.Text.{Text, at_name}
use Rattle.casa_filing.specs.FlightPlan.{FlightPlan}
use Rattle.casa_flight.specs.State.{ungoverned}
use Rattle.casa_flight.specs.Entry.{Situation, row_after_entry}
use Rattle.casa_laws.proofs.EnterAll.{entered_plan}
use Rattle.casa_footprint.specs.Finding.{crossed}
use Rattle.casa_plan_spec.specs.Sight.{Sight, Written}
use Rattle.casa_plan_spec.specs.Write.{stances_gone, stances_now, write_flight}
use Rattle.casa_plan_spec.specs.Enter.{situation_with, with_reentry}
use Rattle.casa_plan.proofs.entering.reenter.Goals as goal

pub returns : goal.returns
returns g c =
    let v : Sight = c.args.view.now in
    let w : Written = c.args.draft.now in
    let key : Text = c.args.key in
    let s : Situation = situation_with c.args.clock c.args.catalogue.now v w in
    let free : Row = ungoverned c.in-Some.row.now in
    let new : Row = row_after_entry s key free in
    let row_is : c.in_ok-row.row ≡ free = c.in_ok-row.ensures in
    let new_is : c.row_after_entry-new.result ≡ new = c.row_after_entry-new.ensures ∙ ap (row_after_entry s key) row_is in
    let over : c.in_ok-over.over ≡ crossed free.plan c.args.catalogue.now = c.in_ok-over.ensures ∙ ap (λ (r : Row). crossed r.plan c.args.catalogue.now) row_is in
    let over_now : c.in_ok-over.over ≡ crossed new.plan c.args.catalogue.now = over ∙ ap (λ (p : FlightPlan). crossed p c.args.catalogue.now) (sym (entered_plan s key free)) in
    on_ok_weaker c.write_again.result
    (λ h. h
    ∙ (λ i. write_flight v w key (Some (new_is i)) (stances_gone (over i) (over_now i) ++ stances_now (Some (new_is i)) (over_now i)))
    ∙ ap (with_reentry c.args.clock c.args.catalogue.now v w key)
    (c.in-Some.ensures ∙ ap (unwrap_or (at_name w.rows key)) c.requires)) c.write_again.ensures
