use Rattle.std.proofs.Common.{◌||◌, false}
use Rattle.std.proofs.lemmas.Result.{IfOk-weaker}
use Rattle.casa_filing.specs.Text.{same_text}
use Rattle.casa_view.specs.Board.{versions}
use Rattle.casa_view.specs.Taking.{Sees, is_of, governing_at}
use Rattle.casa_view.proofs.Noted.{sees_last, sees_nothing}
use Rattle.casa_view.proofs.items.Items.swap_view.Goals as goal

pub returns : goal.returns
returns g c =
    let vs = versions c.args.self.now in
    let key = c.args.key.now in
    let other = c.args.other.now in
    let governs = is_of (governing_at g.V.Version.item_of vs key) in
    let governs_other = is_of (governing_at g.V.Version.item_of vs other) in
    let rows : Sees vs.rows (same_text other) c.see_flight.new.rows =
    sees_last vs.rows _ _ (c.in_ok-see_flight.ensures.rows (λ q. false) (sees_nothing vs.rows _ c.new-rows.ensures)) in
    let lists : Sees vs.lists governs_other c.see_flight.new.lists =
    sees_last vs.lists _ _ (c.in_ok-see_flight.ensures.lists (λ q. false) (sees_nothing vs.lists _ c.new-lists.ensures)) in
    IfOk-weaker c.view_with.result _ _
    (λ v taken. taken (λ q. same_text key q || same_text other q) (λ q. governs q || governs_other q)
    (c.in_ok-see_flight-2.ensures.rows (same_text other) rows)
    (c.in_ok-see_flight-2.ensures.lists governs_other lists))
    c.view_with.ensures
