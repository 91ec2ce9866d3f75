use Rattle.std.proofs.Common.{None, Some, subst}
use Rattle.std.proofs.lemmas.Result.{IfOk-weaker}
use Rattle.casa_filing.specs.Text.{Text, same_text}
use Rattle.casa_item.specs.Versions.{regulations_of}
use Rattle.casa_view.specs.Board.{versions}
use Rattle.casa_view.specs.Taking.{Sees, meets_either}
use Rattle.casa_view.proofs.items.Items.file_view.Goals as goal

pub returns : goal.returns
returns g c =
    let vs = versions c.args.self.now in
    let plan = c.args.plan.now in
    let row : Sees vs.rows (same_text plan.key) c.in_ok-row.row =
    subst (λ (key : Text). Sees vs.rows (same_text key) c.in_ok-row.row) c.key-key.ensures c.in_ok-row.ensures in
    IfOk-weaker c.view_of_plans.result _ _
    (λ v taken. taken (same_text plan.key)
    (meets_either (regulations_of (g.V.Version.item_of c.args.self.now.catalogue)) None (Some plan)) row
    c.in_ok-lists.ensures.seen)
    c.view_of_plans.ensures
