use Rattle.std.proofs.Common.{◌≡◌, Option, ap, subst, ◌∙◌}
use Rattle.std.specs.Option.{option_copied, option_map}
use Rattle.std.proofs.lemmas.Result.{IfOk-weaker}
use Rattle.casa_filing.specs.FlightPlan.{FlightPlan}
use Rattle.casa_filing.specs.Text.{same_text}
use Rattle.casa_flight.specs.declared.row.Row.{Row}
use Rattle.casa_item.specs.Versions.{regulations_of}
use Rattle.casa_table.specs.Flights.{row_named}
use Rattle.casa_view.specs.Board.{versions}
use Rattle.casa_view.specs.Taking.{Sees, meets_either, plan_at}
use Rattle.casa_view.proofs.items.Items.flight_view.Goals as goal

pub returns : goal.returns
returns g c =
    let vs = versions c.args.self.now in
    let item_of = g.V.Version.item_of in
    let key = c.args.key.now in
    let reads = λ (old : Option FlightPlan).
    meets_either (regulations_of (item_of vs.catalogue)) old (option_copied c.args.new) in
    let old : option_copied c.plan_of.result ≡ plan_at item_of vs key =
    c.plan_of.ensures
    ∙ ap (option_map (λ (row : Row). row.plan)) (c.row_of.ensures ∙ ap (row_named item_of) c.get-version.ensures.value) in
    IfOk-weaker c.view_of_plans.result _ _
    (λ v taken. taken (same_text key) (reads (plan_at item_of vs key)) c.in_ok-row.ensures
    (subst (λ (plan : Option FlightPlan). Sees vs.lists (reads plan) c.in_ok-lists.lists) old c.in_ok-lists.ensures.seen))
    c.view_of_plans.ensures
