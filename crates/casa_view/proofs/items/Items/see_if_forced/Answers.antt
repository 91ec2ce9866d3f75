use Rattle.std.proofs.Common.{◌&&◌, OnOk, sym, subst}
use Rattle.casa_flight.specs.declared.row.Stance.{Stance}
use Rattle.casa_filing.specs.Text.{same_text}
use Rattle.casa_footprint.specs.Footprint.{is_forced}
use Rattle.casa_view.specs.Board.{versions}
use Rattle.casa_view.specs.Taking.{SeesAlso, is_of, governing_at}
use Rattle.casa_view.proofs.items.Items.see_if_forced.Goals as goal

pub returns-in-Forced-clause-rows : goal.returns-in-Forced-clause-rows
returns-in-Forced-clause-rows g c =
    let key = c.args.key.now in
    subst (λ (s : Stance). OnOk c.see_flight.result
    (SeesAlso c.args.self.now.rows.entries (λ q. is_forced s && same_text key q)
    c.args.rows.now c.see_flight.new.rows))
    (sym c.in-Forced.is) c.see_flight.ensures.rows

pub returns-in-Forced-clause-lists : goal.returns-in-Forced-clause-lists
returns-in-Forced-clause-lists g c =
    let governing = governing_at g.V.Version.item_of (versions c.args.self.now) c.args.key.now in
    subst (λ (s : Stance). OnOk c.see_flight.result
    (SeesAlso c.args.self.now.lists.entries (λ q. is_forced s && is_of governing q)
    c.args.lists.now c.see_flight.new.lists))
    (sym c.in-Forced.is) c.see_flight.ensures.lists
