-- inner contracts: a regulation that closes, by what a view shows
use Rattle.std.specs.Prelude.{List, [], map, Option, None, Some}
use Rattle.std.specs.List.{filter_map}
use Rattle.casa_flight.specs.declared.call.Refusal.TheVariants.{NoRegulation}
use Rattle.casa_flight.specs.declared.comp.Comp.{Comp}
use Rattle.casa_filing.specs.declared.regulation.Regulation.{Regulation}
use Rattle.casa_flight.specs.declared.reply.Reply.{Reply}
use Rattle.casa_flight.specs.declared.row.Stance.{Stance}
use Rattle.casa_flight.specs.declared.row.Stance.TheVariants.{Competing, Issued, Forced}
use Rattle.casa_filing.specs.Text.{Text, put, without}
use Rattle.casa_flight.specs.Listing.{Listing, sorted_by, is_before}
use Rattle.casa_plan_spec.specs.Sight.{Sight, Written, nothing_written, clock_in, regulations_in, list_in}
use Rattle.casa_plan_spec.specs.Messages.{answer_done}
use Rattle.casa_plan_spec.specs.FlightCalls.{refusal}
use Rattle.casa_plan_spec.specs.Enter.{with_entries}
use Rattle.casa_footprint.specs.Finding.{by_id}

-- the regulations but for one
abbrev pub without_regulation : Text → List Regulation → List Regulation
without_regulation id rs = map (λ (e : Text × Regulation). e.1) (without (by_id rs) id)

-- the flights that a list governs, competing or issued, by time over and key
abbrev pub governed_comp : Text → Stance → Option Comp
governed_comp key (Competing eto) = Some (record { eto = eto; key = key })
governed_comp key (Issued eto cto) = Some (record { eto = eto; key = key })
governed_comp key (Forced eto) = None

abbrev pub governed_flights : Listing → List Comp
governed_flights l = sorted_by is_before (filter_map (λ (e : Text × Stance). governed_comp e.0 e.1) l.flights)

-- the catalogue without the regulation that closes, and its list
abbrev pub closing : Text → List Regulation → Written
closing id rs = record nothing_written { catalogue = Some rs; lists = put [] id None }

-- and then the flights that it governed enter anew
abbrev pub closing_with : Sight → Text → List Regulation → List Comp → Written
closing_with v id rs cs = with_entries (clock_in v) rs v (closing id rs) cs

abbrev pub after_closing : Sight → Text → Listing → Written
after_closing v id l = closing_with v id (without_regulation id (regulations_in v)) (governed_flights l)

abbrev pub close_if : Sight → Text → Option Listing → Reply × Written
close_if v id None = refusal NoRegulation
close_if v id (Some l) = answer_done v (after_closing v id l)

-- the answer to a regulation that closes
abbrev pub close_reg : Sight → Text → Reply × Written
close_reg v id = close_if v id (list_in v id)
