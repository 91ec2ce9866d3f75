-- inner contracts: the flights of a list as it shows them
use Rattle.std.specs.Prelude.{List, ◌++◌, None, take}
use Rattle.std.specs.List.{filter_map}
use Rattle.casa_grid.specs.Profile.{end_of}
use Rattle.casa_grid.specs.Slots.{slots, window_of}
use Rattle.casa_grid.specs.TimeOver.{cto as cto_at}
use Rattle.casa_flight.specs.declared.comp.Comp.{Comp}
use Rattle.casa_flight.specs.declared.reply.Kind.TheVariants.{Pre as PreKind, Issued as IssuedKind, Forced as ForcedKind}
use Rattle.casa_flight.specs.declared.reply.ListRow.{ListRow}
use Rattle.casa_flight.specs.declared.row.Stance.{Stance}
use Rattle.casa_filing.specs.Text.{Text}
use Rattle.casa_flight.specs.Listing.{Listing}
use Rattle.casa_flight.specs.Replies.{slot_number}
use Rattle.casa_slots.specs.declared.standing.Standing.{Standing}
use Rattle.casa_slots.specs.declared.standing.Standing.TheVariants.{Pre, Issued, Forced}
use Rattle.casa_list.specs.Standings.{standings, count_governed, forced_flight}
use Rattle.casa_plan_spec.specs.Sight.{Sight}
use Rattle.casa_plan_spec.specs.Look.{forced_shown}

-- a flight as its list shows it, by how it stands there
abbrev pub row_as : Sight → Listing → Comp → Standing → ListRow
row_as v l comp (Pre place) = record {
  key = comp.key;
  eto = comp.eto;
  cto = cto_at (slots l.profile) (end_of l.profile) comp.eto place;
  kind = PreKind;
  slot = slot_number place;
}
row_as v l comp (Issued cto) =
    record { key = comp.key; eto = comp.eto; cto = cto; kind = IssuedKind; slot = window_of (slots l.profile) cto }
row_as v l comp Forced =
    record { key = comp.key; eto = comp.eto; cto = forced_shown v comp.key comp.eto; kind = ForcedKind; slot = None }

-- those that the list governs, as they stand, and behind them the forced ones by key
abbrev pub flights_told : Listing → List (Comp × Standing)
flights_told l =
    take (count_governed l) (standings l) ++ filter_map (λ (e : Text × Stance). forced_flight e.0 e.1) l.flights
