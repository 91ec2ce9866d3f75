use Rattle.std.proofs.Common.{◌≡◌, ◌∙◌, ap, subst, Option}
use Rattle.std.proofs.lemmas.Result.{IfOk-weaker}
use Rattle.std.specs.Option.{option_and_then}
use Rattle.casa_filing.specs.Text.{Text, same_text}
use Rattle.casa_flight.specs.declared.row.Row.{Row}
use Rattle.casa_table.specs.Flights.{row_named}
use Rattle.casa_view.specs.Board.{versions}
use Rattle.casa_view.specs.Taking.{Sees, is_of, governing_at}
use Rattle.casa_view.proofs.items.Items.show_view.Goals as goal

pub returns : goal.returns
returns g c =
    let vs = versions c.args.self.now in
    let item_of = g.V.Version.item_of in
    let key = c.args.key.now in
    let governing : c.governing_of.result ≡ governing_at item_of vs key =
    c.governing_of.ensures
    ∙ ap (option_and_then (λ (row : Row). row.governing)) (c.row_of.ensures ∙ ap (row_named item_of) c.get-version.ensures.value) in
    IfOk-weaker c.view_with.result _ _
    (λ v taken. taken (same_text key) (is_of (governing_at item_of vs key)) c.in_ok-row.ensures
    (subst (λ (id : Option Text). Sees vs.lists (is_of id) c.in_ok-lists.lists) governing c.in_ok-lists.ensures))
    c.view_with.ensures
