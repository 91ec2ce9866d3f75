use Rattle.std.proofs.Common.{ap, ◌∙◌, None, Some}
use Rattle.std.specs.Option.{option_copied}
use Rattle.casa_view.specs.Shown.{rows_shown}
use Rattle.casa_view.proofs.RowsOf.{nth-value}
use Rattle.casa_view.proofs.view.View.nth_row.Goals as goal

pub returns-in_err-row-clause-row : goal.returns-in_err-row-clause-row
returns-in_err-row-clause-row g c =
    ap option_copied c.from_residual.ensures
    ∙ nth-value c.rows.result c.nth.new.self (rows_shown g.V.Version.item_of c.args.self.now) None c.args.number
    c.in_err-row.ensures.ran c.rows.ensures.rows

pub returns-clause-row : goal.returns-clause-row
returns-clause-row g c =
    nth-value c.rows.result c.nth.new.self (rows_shown g.V.Version.item_of c.args.self.now)
    (Some (c.in_ok-row.field-0-0, c.in_ok-row.row)) c.args.number c.in_ok-row.ensures.ran c.rows.ensures.rows
