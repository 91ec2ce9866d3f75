use Rattle.std.proofs.Common.{arith}
use Rattle.std.proofs.lemmas.Grind.{common_steps}
use Rattle.casa_flight.specs.declared.row.Row.{Row}
use Rattle.casa_filing.specs.Text.{Text}
use Rattle.casa_flight.specs.Entry.{issue_if, is_to_issue}
use Rattle.casa_plain.proofs.InOrder.{put_all-each}
use Rattle.casa_plain.proofs.plain.Plain.issued_rows.Goals as goal

pub returns : goal.returns
returns c =
    let all = put_all-each (λ (e : Text × Row). issue_if (is_to_issue c.args.self.now.clock e.1) c.args.self.now e.0 e.1) c.args.rows.now.entries c.iter-key-items.ensures.ordered in
    grind (arith, common_steps, all)
