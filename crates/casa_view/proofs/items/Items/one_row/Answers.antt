use Rattle.std.proofs.Common.{false}
use Rattle.casa_filing.specs.Text.{same_text}
use Rattle.casa_view.proofs.Noted.{sees_last, sees_nothing}
use Rattle.casa_view.proofs.items.Items.one_row.Goals as goal

pub returns : goal.returns
returns g c =
    let rows = c.args.self.now.rows.entries in
    sees_last rows (same_text c.args.key.now) _
    (c.in_ok-see_row.ensures (λ q. false) (sees_nothing rows _ c.new-noted.ensures))
