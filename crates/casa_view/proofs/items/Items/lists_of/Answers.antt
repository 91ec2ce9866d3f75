use Rattle.std.proofs.Common.{false}
use Rattle.std.specs.Option.{option_copied}
use Rattle.casa_item.specs.Versions.{regulations_of}
use Rattle.casa_view.specs.Taking.{meets_if}
use Rattle.casa_view.proofs.Noted.{sees_last, sees_nothing}
use Rattle.casa_view.proofs.items.Items.lists_of.Goals as goal

pub returns-clause-seen : goal.returns-clause-seen
returns-clause-seen g c =
    let lists = c.args.self.now.lists.entries in
    let regs = regulations_of (g.V.Version.item_of c.args.self.now.catalogue) in
    let new = meets_if regs (option_copied c.args.new) in
    c.in_ok-see_lists_of-2.ensures.seen new
    (sees_last lists new _ (c.in_ok-see_lists_of.ensures.seen (λ q. false) (sees_nothing lists _ c.new-noted.ensures)))
