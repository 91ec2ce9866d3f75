-- to believe: why a flight waits
use Rattle.std.specs.Prelude.{◌≡◌, ℕ, ◌+◌, ◌-◌, ◌<◌, List, [], ◌∷◌, length, map, slice_index_or, Bool, false, not, ◌&&◌, ◌==◌, Option, None, Some, Vec, if◌then◌else◌}
use Rattle.std.specs.declared.alloc.Global.{Global}
use Rattle.std.specs.Option.{option_and_then, option_map, option_map_or}
use Rattle.std.specs.List.{range_with_len, filter_map, flat_map, list_any}
use Rattle.casa_grid.specs.declared.slot.Window.{Window}
use Rattle.casa_grid.specs.declared.slot.Place.{Place}
use Rattle.casa_grid.specs.declared.slot.Place.TheVariants.{Slot, Over}
use Rattle.casa_grid.specs.Slots.{slots, begin_at, wanted}
use Rattle.casa_flight.specs.declared.row.Row.{Row}
use Rattle.casa_flight.specs.declared.row.Stance.{Stance}
use Rattle.casa_flight.specs.declared.state.State.{State}
use Rattle.casa_filing.specs.Text.{Text, same_text}
use Rattle.casa_filing.specs.Subject.{is_gone}
use Rattle.casa_flight.specs.State.{row_of, is_exempt}
use Rattle.casa_flight.specs.Assignment.{is_slot}
use Rattle.casa_flight.specs.Listing.{Listing, stance_of, eto_as, governing_list}
use Rattle.casa_flight.specs.Entry.{Offer, situation, offers, most_penalising}
use Rattle.casa_flight.specs.Replies.{flight_reply}
use Rattle.casa_list.specs.Standings.{governed_place, place_as}
use Rattle.casa_slots.specs.Walk.{low_after}
use Rattle.casa_inquiry.specs.declared.why.Reasons.{Reasons}
use Rattle.casa_inquiry.specs.declared.why.Holding.{Holding}
use Rattle.casa_inquiry.specs.declared.why.Rule.{Rule}
use Rattle.casa_inquiry.specs.declared.why.Rule.TheVariants.{GreatestDelay, SmallestId, SinceEntry, GovernedGone, Exempt, Gone, Outside}

-- whether another regulation offers as much delay
abbrev pub is_tied : List Offer → Offer → Bool
is_tied os o = list_any (λ (x : Offer). (x.delay == o.delay) && not (same_text x.id o.id)) os

-- the rule by which a regulation governs a flight that is not gone, by the most penalising of the offers that there are now
abbrev pub rule_by : Text → List Offer → Option Offer → Rule
rule_by id os None = SinceEntry
rule_by id os (Some o) = if not (same_text o.id id) then SinceEntry else (if is_tied os o then SmallestId else GreatestDelay)

-- the rule by which nothing governs a flight
abbrev pub rule_free : ℕ → Row → Rule
rule_free clock row = if is_exempt row then Exempt else (if is_gone clock row.plan then Gone else Outside)

-- the rule by which a regulation governs a flight; a gone one enters nowhere, so that no offer counts
abbrev pub rule_governed : ℕ → Row → List Offer → Text → Rule
rule_governed clock row os id = if is_gone clock row.plan then GovernedGone else rule_by id os (most_penalising os)

abbrev pub rule_of : ℕ → Row → List Offer → Rule
rule_of clock row os = option_map_or (rule_governed clock row os) row.governing (rule_free clock row)

-- whether a flight of a list has slot k, as a competitor or by its issued time
abbrev pub has_slot : Listing → ℕ → Text → Bool
has_slot l k key = option_map_or (is_slot k) (governed_place l key) false

abbrev pub slot_with : Listing → ℕ → Option (Text × Stance) → Holding
slot_with l k holder = record { slot = k; begin = begin_at (slots l.profile) k; holder = holder }

-- the flights of a list that have slot k, in the order of their keys
abbrev pub held_by : Listing → ℕ → Text × Stance → Option Holding
held_by l k e = if has_slot l k e.0 then Some (slot_with l k (Some e)) else None

abbrev pub held : Listing → ℕ → List Holding
held l k = filter_map (held_by l k) l.flights

-- inner: the slot of a place
abbrev pub slot_in : Place → Option ℕ
slot_in (Slot k) = Some k
slot_in Over = None

-- inner: the slot that a flight of a list has
abbrev pub slot_held : Listing → Text → Option ℕ
slot_held l key = option_and_then slot_in (governed_place l key)

-- inner: what is in row k
abbrev pub held_in : List (Vec Holding Global) → ℕ → List Holding
held_in rows k = slice_index_or (map (λ (row : Vec Holding Global). row.items) rows) k []

-- inner: each row has those of these flights that have its slot, the slots being numbered from here on
abbrev pub AreHeld : Listing → ℕ → List (Text × Stance) → List (Vec Holding Global) → Type 0
AreHeld l from es rows = (k : ℕ) → k < length rows → held_in rows k ≡ filter_map (held_by l (from + k)) es

-- who holds slot k: these flights, or nobody
abbrev pub or_nobody : Listing → ℕ → List Holding → List Holding
or_nobody l k [] = slot_with l k None ∷ []
or_nobody l k (h ∷ hs) = h ∷ hs

abbrev pub holdings_at : Listing → ℕ → List Holding
holdings_at l k = or_nobody l k (held l k)

-- the slots from the one that a flight asks for to the one that it has, and to the last one where it has none
abbrev pub slots_to : List Window → ℕ → Place → List ℕ
slots_to ws eto place = option_map_or (λ (asked : ℕ). range_with_len asked (low_after (length ws) place - asked)) (wanted ws eto) []

-- these slots of a flight that stands so in a list, if it takes part there
abbrev pub slots_as : Listing → Text → Stance → List ℕ
slots_as l key s = option_map_or (slots_to (slots l.profile) (eto_as s)) (place_as l key s) []

abbrev pub slots_waited : Listing → Text → List ℕ
slots_waited l key = option_map_or (slots_as l key) (stance_of l key) []

-- who holds each of these slots
abbrev pub holdings : Text → Listing → List Holding
holdings key l = flat_map (holdings_at l) (slots_waited l key)

-- why the flight under a key stands as it does: what it is shown with, what the regulations to which it is subject would
-- offer it if it entered now, the rule by which one of them governs it, and who holds the slots that it waits for
abbrev pub why : State → Text → Row → Reasons
why m key row = record {
  flight = flight_reply m key row;
  rule = rule_of m.clock row (offers (situation m) key row.plan);
  offers = offers (situation m) key row.plan;
  holdings = option_map_or (holdings key) (governing_list m row) [];
}

-- and nothing where there is no such flight
abbrev pub why_of : State → Text → Option Reasons
why_of m key = option_map (why m key) (row_of m key)
