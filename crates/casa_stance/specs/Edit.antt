-- inner contracts: a list as an edit of it that was made ready leaves it
use Rattle.std.specs.Prelude.{Some, None, if◌then◌else◌}
use Rattle.casa_flight.specs.declared.row.Stance.TheVariants.{Forced}
use Rattle.casa_flight.specs.Listing.{Listing}
use Rattle.casa_flight.specs.IssuedTimes.{with_issued}
use Rattle.casa_list.specs.Standings.{is_forced}
use Rattle.casa_plan_spec.specs.Sight.{with_flight}
use Rattle.casa_stance.specs.declared.edit.Edit.{Edit}
use Rattle.casa_stance.specs.declared.edit.Edit.TheVariants.{Same, PutIn, Reforced, Out, Issued, Other}

-- once it is finished
abbrev pub finished : Listing → Edit → Listing
finished l Same = l
finished l (PutIn key) = l
finished l (Reforced comp) =
    if is_forced l comp.key then with_flight l comp.key (Some (Forced comp.eto)) else l
finished l (Out key) = with_flight l key None
finished l (Issued key) = with_issued l key
finished l (Other list) = list

-- once it is undone
abbrev pub undone : Listing → Edit → Listing
undone l Same = l
undone l (PutIn key) = with_flight l key None
undone l (Reforced comp) = l
undone l (Out key) = l
undone l (Issued key) = l
undone l (Other list) = l
