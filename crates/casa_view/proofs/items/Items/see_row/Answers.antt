use Rattle.std.proofs.Common.{◌∙◌}
use Rattle.std.proofs.lemmas.Result.{on_ok_weaker}
use Rattle.casa_view.proofs.Noted.{see}
use Rattle.casa_view.proofs.items.Items.see_row.Goals as goal

pub returns : goal.returns
returns g c =
    on_ok_weaker c.put.result
    (see c.args.key.now c.args.self.now.rows.entries _ c.args.noted.now c.put.new.self (c.in_ok-version_again.ensures ∙ c.requires))
    c.put.ensures.put
