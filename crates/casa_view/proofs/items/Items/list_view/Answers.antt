use Rattle.std.proofs.Common.{◌||◌, false, Bool, Option, ap}
use Rattle.std.proofs.lemmas.Result.{IfOk-weaker}
use Rattle.casa_flight.specs.Listing.{Listing}
use Rattle.casa_filing.specs.Text.{Text, same_text}
use Rattle.casa_view.specs.Board.{versions}
use Rattle.casa_view.specs.Taking.{Sees, is_of, governing_at, has_forced, forced_at, governs_forced_at}
use Rattle.casa_view.proofs.Noted.{sees_last, sees_same, sees_nothing}
use Rattle.casa_view.proofs.items.Items.list_view.Goals as goal

pub returns : goal.returns
returns g c =
    let vs = versions c.args.self.now in
    let item_of = g.V.Version.item_of in
    let id = c.args.id.now in
    let governs = governs_forced_at item_of vs id in
    let row : Text → Text → Bool = λ q k. same_text k q in
    let list : Text → Text → Bool = λ q k. is_of (governing_at item_of vs k) q in
    let rows : Sees vs.rows (forced_at item_of vs id) c.see_forced.new.rows =
    sees_same vs.rows _ _ _ (λ q. ap (λ (l : Option Listing). has_forced (row q) l) c.list.ensures)
    (sees_last vs.rows _ _ (c.in_ok-see_forced.ensures.rows (λ q. false)
    (sees_nothing vs.rows _ c.new-rows.ensures))) in
    let lists : Sees vs.lists governs c.see_forced.new.lists =
    sees_same vs.lists _ _ _ (λ q. ap (λ (l : Option Listing). has_forced (list q) l) c.list.ensures)
    (sees_last vs.lists _ _ (c.in_ok-see_forced.ensures.lists (λ q. false)
    (sees_nothing vs.lists _ c.new-lists.ensures))) in
    IfOk-weaker c.view_with.result _ _
    (λ v taken. taken (forced_at item_of vs id) (λ q. same_text id q || governs q) rows
    (c.in_ok-see_list.ensures governs lists))
    c.view_with.ensures
