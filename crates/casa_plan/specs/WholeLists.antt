-- inner contracts: a change with whole lists in place of how flights are to stand in them
use Rattle.std.specs.Prelude.{◌≡◌, Option, None, Some}
use Rattle.casa_filing.specs.Text.{Text, at_name, put}
use Rattle.casa_flight.specs.Listing.{Listing}
use Rattle.casa_footprint.specs.Items.{ItemName}
use Rattle.casa_plan_spec.specs.Sight.{Sight, Stand, Written, list_in, with_flight, says}

-- a change with a flight standing so in a list: the whole list is written where there is one, and else it is said that the
-- flight is to stand so
abbrev pub settled_in : Option Listing → Written → Text → Stand → Written
settled_in None w id s = record w { stands = put w.stands id s }
settled_in (Some l) w id s = record w { lists = put w.lists id (Some (with_flight l s.0 s.1)) }

-- the lists that a view shows stand so
abbrev pub AreAsShown : Sight → (Text → Option Listing) → Type 0
AreAsShown v lists = (id : Text) (l : Listing) → list_in v id ≡ Some l → lists id ≡ Some l

-- two changes say the same of each item, wherever the lists before them stand as a view shows them
abbrev pub SayTheSame : Sight → Written → Written → Type 0
SayTheSame v w u = (lists : Text → Option Listing) → AreAsShown v lists → (i : ItemName) → says lists w i ≡ says lists u i

-- of a list that a view shows, a change does not say how a flight is to stand there
abbrev pub HasWholeLists : Sight → Written → Type 0
HasWholeLists v w = (id : Text) (l : Listing) → list_in v id ≡ Some l → at_name w.stands id ≡ None
