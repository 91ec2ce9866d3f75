use Rattle.std.proofs.Common.{◌≡◌, [], map}
use Rattle.casa_flight.specs.declared.row.Row.{Row}
use Rattle.casa_filing.specs.Text.{Text}
use Rattle.casa_flight.specs.Entry.{issue_if, is_to_issue}
use Rattle.casa_laws.proofs.Kept.{put_all}
use Rattle.casa_plain.proofs.plain.Plain.issued_rows.Given as goal

abbrev pub invariant-loop-key : goal.invariant-loop-key
invariant-loop-key l =
    put_all l.all.entries (map (λ (e : Text × Row). (e.0, issue_if (is_to_issue l.self.clock e.1) l.self e.0 e.1)) l.key-iterator)
    ≡ put_all [] (map (λ (e : Text × Row). (e.0, issue_if (is_to_issue l.self.clock e.1) l.self e.0 e.1)) l.rows.entries)
