use Rattle.std.proofs.Common.{◌≡◌, ◌++◌, List, ℕ, Option, sym, ap, ◌∙◌}
use Rattle.std.proofs.lemmas.Result.{on_ok_weaker}
use Rattle.casa_flight.specs.declared.row.Row.{Row}
use Rattle.casa_filing.specs.Text.{Text, put}
use Rattle.casa_plan_spec.specs.Sight.{Written}
use Rattle.casa_plan_spec.specs.Write.{Stances, stances_gone, stances_now, write_stands}
use Rattle.casa_plan.proofs.Stood.{leaves_no_list}
use Rattle.casa_plan.proofs.write.write_moved.Goals as goal

pub returns : goal.returns
returns c =
    let w : Written = c.args.draft.now in
    let key : Text = c.args.key in
    let now : Option Row = c.args.now in
    let has : List (Text × ℕ) = c.args.has.now in
    let leaves : stances_gone has has ++ stances_now now has ≡ stances_now now has =
    ap (λ (gone : Stances). gone ++ stances_now now has) (leaves_no_list has c.take_lists.ensures.ordered) in
    on_ok_weaker c.set_row.result
    (λ h. h
    ∙ ap (λ (w : Written). let x : Written = record w { rows = put w.rows key now } in x) c.in_ok-take_lists.ensures.stands
    ∙ ap (write_stands w key now) (ap (λ (row : Option Row). stances_now row has) c.as_ref.ensures.value ∙ sym leaves))
    c.set_row.ensures.written
