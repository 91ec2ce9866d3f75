-- inner contracts: the answer to the question for a list, by what a view shows
use Rattle.std.specs.Prelude.{ℕ, ◌+◌, List, [], length, map, Option, None, Some}
use Rattle.std.specs.Option.{option_map_or}
use Rattle.casa_grid.specs.Slots.{slots, window_of}
use Rattle.casa_flight.specs.declared.call.Refusal.TheVariants.{NoRegulation}
use Rattle.casa_filing.specs.declared.regulation.Regulation.{Regulation}
use Rattle.casa_flight.specs.declared.reply.Answer.TheVariants.{List as ListAnswer}
use Rattle.casa_flight.specs.declared.reply.Kind.TheVariants.{Pre, Issued as IssuedKind, Forced as ForcedKind}
use Rattle.casa_flight.specs.declared.reply.ListReply.{ListReply}
use Rattle.casa_flight.specs.declared.reply.ListRow.{ListRow}
use Rattle.casa_flight.specs.declared.reply.Reply.{Reply}
use Rattle.casa_flight.specs.declared.reply.Reply.TheVariants.{Refused, Answered}
use Rattle.casa_flight.specs.declared.row.Stance.{Stance}
use Rattle.casa_flight.specs.declared.row.Stance.TheVariants.{Competing, Issued, Forced}
use Rattle.casa_filing.specs.Text.{Text, at_name}
use Rattle.casa_flight.specs.Listing.{Listing, sorted_by, cto_as, place_of}
use Rattle.casa_flight.specs.Replies.{slot_number, is_row_before}
use Rattle.casa_plan_spec.specs.Sight.{Sight, Written, nothing_written, regulations_in, list_in, row_in}
use Rattle.casa_plan_spec.specs.Messages.{delay_by}
use Rattle.casa_footprint.specs.Finding.{by_id}

-- a forced flight passes with the delay that it is shown with in its governing list
abbrev pub forced_shown : Sight → Text → ℕ → ℕ
forced_shown v key eto = eto + option_map_or (delay_by (list_in v) key) (row_in v key) 0

-- a flight as its list shows it
abbrev pub row_shown : Sight → Listing → Text → Stance → ListRow
row_shown v l key (Competing eto) =
    record { key = key; eto = eto; cto = cto_as l key (Competing eto); kind = Pre; slot = slot_number (place_of l key) }
row_shown v l key (Issued eto cto) =
    record { key = key; eto = eto; cto = cto; kind = IssuedKind; slot = window_of (slots l.profile) cto }
row_shown v l key (Forced eto) =
    record { key = key; eto = eto; cto = forced_shown v key eto; kind = ForcedKind; slot = None }

abbrev pub rows_shown : Sight → Listing → List ListRow
rows_shown v l = sorted_by is_row_before (map (λ (e : Text × Stance). row_shown v l e.0 e.1) l.flights)

abbrev pub list_shown : Sight → Regulation → Listing → ListReply
list_shown v r l =
    let count : ℕ = length (slots l.profile) in
    record { reg = r.id; loc = r.loc; start = r.start; end = r.end; slots = count; rows = rows_shown v l }

abbrev pub list_if : Sight → Option Regulation → Option Listing → Reply × Written
list_if v None l = (Refused NoRegulation, nothing_written)
list_if v (Some r) None = (Refused NoRegulation, nothing_written)
list_if v (Some r) (Some l) = (Answered (ListAnswer (list_shown v r l)) [], nothing_written)

-- the answer to the question for a list: its regulation, as the catalogue has it, and its flights
abbrev pub list : Sight → Text → Reply × Written
list v id = list_if v (at_name (by_id (regulations_in v)) id) (list_in v id)
