use Rattle.std.proofs.Common.{false}
use Rattle.casa_view.specs.Taking.{is_of}
use Rattle.casa_view.proofs.Noted.{sees_last, sees_nothing}
use Rattle.casa_view.proofs.items.Items.one_list.Goals as goal

pub returns : goal.returns
returns g c =
    let lists = c.args.self.now.lists.entries in
    sees_last lists (is_of c.args.id) _
    (c.in_ok-see_list_if.ensures (λ q. false) (sees_nothing lists _ c.new-noted.ensures))
