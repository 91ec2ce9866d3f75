use Rattle.std.proofs.Common.{arith}
use Rattle.std.proofs.lemmas.Grind.{common_steps}
use Rattle.casa_flight.specs.declared.row.Row.{Row}
use Rattle.casa_filing.specs.Text.{Text}
use Rattle.casa_flight.specs.State.{is_governed_by}
use Rattle.casa_flight.specs.Steps.{ungoverned_if}
use Rattle.casa_plain.proofs.InOrder.{put_all-each}
use Rattle.casa_plain.proofs.flights.freed_rows.Goals as goal

pub returns : goal.returns
returns c =
    let all = put_all-each (λ (e : Text × Row). ungoverned_if (is_governed_by c.args.id e.1) e.1) c.args.rows.now.entries c.iter-key-items.ensures.ordered in
    grind (arith, common_steps, all)
