use Rattle.std.proofs.Common.{◌≡◌, List, ap, subst, ◌∙◌, IfOk}
use Rattle.casa_flight.specs.declared.reply.ListRow.{ListRow}
use Rattle.casa_flight.specs.Listing.{sorted_by}
use Rattle.casa_flight.specs.Replies.{is_row_before}
use Rattle.casa_plan.proofs.Rows.{rows_alike}
use Rattle.casa_plan.proofs.list_reply.rows_shown.Goals as goal

pub returns : goal.returns
returns g c =
    let rows = rows_alike c.args.view.now c.args.list.now c.flights_shown.ensures.keys in
    subst (λ (shown : List ListRow). IfOk c.from_vec.result (λ rows. rows ≡ shown))
    (c.in_ok-sort_rows.ensures.order ∙ ap (sorted_by is_row_before) c.in_ok-rows.ensures.rows ∙ rows) c.from_vec.ensures
