use Rattle.std.proofs.Common.{◌≡◌, ◌∙◌, Some, ap, sym, rules}
use Rattle.casa_flight.specs.declared.row.Stance.TheVariants.{Forced}
use Rattle.casa_filing.specs.Text.{put}
use Rattle.casa_list.proofs.Keeping.{stands}
use Rattle.casa_list.proofs.Forcing.{kept_reforced}
use Rattle.casa_list.proofs.list.SlotList.reforce.Goals as goal

pub invariant_of-self : goal.invariant_of-self
invariant_of-self c =
    let comp = c.args.comp in
    let was = c.in-Some-Forced.field-0-0 in
    let found = stands _ _ comp.key (Some (Forced was)) c.self.view_is (sym c.in-Some-Forced.ensures.stance ∙ ap Some c.in-Some-Forced.field-0-is) in
    let written : c.put.new.self ≡ put c.self.inside.flights comp.key (Forced comp.eto) = search rules in
    rw written (kept_reforced comp.key was comp.eto c.self.invariant found)
