-- to believe: which calls may free a flight, govern it or issue it
use Rattle.std.specs.Prelude.{◌≡◌, ℕ, List, [], ◌∷◌, Bool, true, false, ◌||◌, None, Some, is_some}
use Rattle.std.specs.Option.{option_map_or}
use Rattle.casa_flight.specs.declared.call.Call.{Call}
use Rattle.casa_flight.specs.declared.call.Call.TheVariants.{Amend, Cancel, Revise, Exempt, OpenReg, CloseReg, Rates, Tick, Swap}
use Rattle.casa_flight.specs.declared.row.Row.{Row}
use Rattle.casa_flight.specs.declared.row.Stance.{Stance}
use Rattle.casa_flight.specs.declared.state.State.{State}
use Rattle.casa_flight.specs.declared.row.Stance.TheVariants.{Competing, Issued, Forced}
use Rattle.casa_filing.specs.Text.{Text, same_text, put}
use Rattle.casa_filing.specs.Subject.{is_due}
use Rattle.casa_flight.specs.State.{is_governed_by}
use Rattle.casa_flight.specs.Listing.{Listing, cto_as, stance_of}
use Rattle.casa_flight.specs.Steps.{extends}

-- whether a call may take a flight's issued time or its governing regulation: the flight's own amendment, cancellation,
-- revision and exemption, an exchange with another flight, and the close of that regulation (manual; exchange: profile)
abbrev pub may_free : Call → Text → Row → Bool
may_free (Amend plan) key row = same_text plan.key key
may_free (Cancel other) key row = same_text other key
may_free (Revise other) key row = same_text other key
may_free (Exempt other) key row = same_text other key
may_free (CloseReg id) key row = is_governed_by id row
may_free (Swap one other) key row = same_text one key || same_text other key
may_free call key row = false

-- whether a call may govern or issue flights that were there before and that it does not free: an opened regulation, a
-- later end of one, and the clock
abbrev pub may_serve : State → Call → Bool
may_serve m (OpenReg id loc profile) = true
may_serve m (Rates id profile) = extends m id profile
may_serve m (Tick at) = true
may_serve m call = false

-- a flight that nothing governed, and that was not issued, is now governed by this regulation, and issued exactly if it is
-- due; plan and mark stay
pub record IsTakenIn (clock : ℕ) (id : Text) (old new : Row) : Type 0 where
  pub was_free : old.governing ≡ None
  pub not_issued : old.issued ≡ None
  pub now : new ≡ record old { governing = Some id; issued = new.issued }
  pub issued_if_due : is_some new.issued ≡ is_due clock old.plan

-- a governed flight that was not issued is now issued at this time; plan, mark and governing regulation stay
pub record BecomesIssued (time : ℕ) (old new : Row) : Type 0 where
  pub governed : is_some old.governing ≡ true
  pub not_issued : old.issued ≡ None
  pub now : new ≡ record old { issued = Some time }

-- a flight that stands so becomes issued at the calculated time over that it has, if it competes
abbrev pub issued_as : Listing → Text → Stance → Listing
issued_as l key (Competing eto) = record l { flights = put l.flights key (Issued eto (cto_as l key (Competing eto))) }
issued_as l key (Issued eto cto) = l
issued_as l key (Forced eto) = l

abbrev pub with_issued : Listing → Text → Listing
with_issued l key = option_map_or (issued_as l key) (stance_of l key) l

-- these flights become issued, one after the other
abbrev pub issue_in_turn : Listing → List Text → Listing
issue_in_turn l [] = l
issue_in_turn l (key ∷ keys) = issue_in_turn (with_issued l key) keys
