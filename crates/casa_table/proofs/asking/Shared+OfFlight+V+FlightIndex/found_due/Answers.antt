use Rattle.std.proofs.Common.{◌∙◌}
use Rattle.casa_filing.specs.Text.{at_name}
use Rattle.casa_item.specs.Versions.{row_of}
use Rattle.casa_table.specs.Laid.{with_changes}
use Rattle.casa_table.specs.Waiting.{due_row}
use Rattle.casa_table.specs.Asking.{due_version}
use Rattle.casa_table.specs.Flights.{row_where}
use Rattle.casa_table.proofs.Answered.{asked-asked}
use Rattle.casa_table.proofs.Due.{row_due}
use Rattle.casa_table.proofs.LaidFound.{all_asked}
use Rattle.casa_table.proofs.asking.Shared+OfFlight+V+FlightIndex.found_due.Goals as goal

pub returns : goal.returns
returns g c =
    let item_of = g.V.Version.item_of in
    let es = c.deref-2.result.now in
    let found =
    row_due c.args.at (row_where item_of (at_name es)) c.departures.result.now.keys c.departures.ensures.waiting in
    all_asked (due_version item_of c.args.at) c.deref.result.now.entries es _ c.departures.ensures.ordered
    (λ q y h. found q y (asked-asked (due_row c.args.at) (λ v. row_of (item_of v)) (at_name es q) ∙ h))
    c.args.self.now _ _ _ ((λ i. with_changes (c.deref.ensures i).entries (c.deref-2.ensures i)) ∙ c.self.view_is)
    c.new-found.ensures.empty c.in_ok-note_changed.ensures c.in_ok-note_waiting.ensures
