use Rattle.std.proofs.Common.{◌∙◌, sym, ap}
use Rattle.std.specs.BTreeMap.{BTreeMap}
use Rattle.casa_filing.specs.Text.{Text}
use Rattle.casa_item.specs.declared.copies.Copied.{Copied}
use Rattle.casa_item.proofs.InPlace.{in_place-absent}
use Rattle.casa_item.proofs.stood.put_back.Goals as goal

pub returns-in_default : goal.returns-in_default
returns-in_default c =
    ap (λ (m : BTreeMap Text Copied). m.entries) c.get_mut.follows.holds-at-none
    ∙ sym (in_place-absent c.args.id.now c.args.version c.args.lists.now.entries (sym c.in_default.ensures.value))
