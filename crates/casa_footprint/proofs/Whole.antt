-- the calls that read all items, and what Tick leaves as it was
use Rattle.std.proofs.Common.{◌≡◌, ℕ, List, [], ◌∷◌, Bool, true, false, refl, sym, ap, ◌∙◌, Option, None, Some, ◌&&◌, map}
use Rattle.std.specs.Option.{option_map, option_map_or}
use Rattle.std.specs.List.{cons_option, list_any}
use Rattle.std.proofs.lemmas.Bool.{or_parts}
use Rattle.casa_grid.specs.declared.period.Period.{Period}
use Rattle.casa_flight.specs.declared.call.Call.{Call}
use Rattle.casa_flight.specs.declared.call.Call.TheVariants.{OpenReg, CloseReg, Tick}
use Rattle.casa_filing.specs.declared.regulation.Measure.{Measure}
use Rattle.casa_flight.specs.declared.row.Row.{Row}
use Rattle.casa_flight.specs.declared.row.Stance.{Stance}
use Rattle.casa_flight.specs.declared.state.State.{State}
use Rattle.casa_filing.specs.Text.{Text}
use Rattle.casa_filing.specs.Subject.{regulation, subject}
use Rattle.casa_flight.specs.State.{row_of, measure_of, is_governed_by}
use Rattle.casa_flight.specs.Listing.{listing, stance, stance_in, filter_map_values}
use Rattle.casa_flight.specs.Entry.{is_to_issue, issue_if, issue_due}
use Rattle.casa_filing.proofs.Entries.{at-map}
use Rattle.casa_laws.proofs.Outcomes.{tick_cases}
use Rattle.casa_footprint.specs.Items.{ItemName, the_clock, the_catalogue, a_row, a_list, row_or_none, list_or_none, contents}
use Rattle.casa_footprint.specs.Footprint.{reads, would_write}
use Rattle.casa_footprint.proofs.Forms.{DecidesReads, Spares, StepSpares}

-- a call that reads all items
abbrev ReadsAll : Call → Type 0
ReadsAll call = (m : State) (i : ItemName) → reads m call i ≡ true

whole_reads : (call : Call) → ReadsAll call → DecidesReads call
whole_reads call all m n gm gn s i = all m i ∙ sym (all n i)

pub tick_reads : (at : ℕ) → DecidesReads (Tick at)
tick_reads at = whole_reads (Tick at) (λ m i. refl)

pub open_reads : (id loc : Text) (profile : List Period) → DecidesReads (OpenReg id loc profile)
open_reads id loc profile = whole_reads (OpenReg id loc profile) (λ m i. refl)

pub close_reads : (id : Text) → DecidesReads (CloseReg id)
close_reads id = whole_reads (CloseReg id) (λ m i. refl)

-- a row that is not issued stays
row_stays : (m : State) (at : ℕ) (key : Text) (w : Option Row) → option_map_or (is_to_issue at) w false ≡ false → option_map (λ (row : Row). issue_if (is_to_issue at row) m key row) w ≡ w
row_stays m at key None h = refl
row_stays m at key (Some row) h = ap (λ b. Some (issue_if b m key row)) h

-- a flight that is not issued, or that another regulation governs, stands as it stood
stance_stays : (m : State) (id : Text) (measure : Measure) (key : Text) (row : Row) (b : Bool) → (b && is_governed_by id row) ≡ false → stance_in id measure (issue_if b m key row) ≡ stance_in id measure row
stance_stays m id measure key row false h = refl
stance_stays m id measure key row true h =
    ap (λ g. option_map (stance g (issue_if true m key row).issued) (subject row.plan (regulation id measure))) h
    ∙ sym (ap (λ g. option_map (stance g row.issued) (subject row.plan (regulation id measure))) h)

flights_stay : (m : State) (at : ℕ) (id : Text) (measure : Measure) (es : List (Text × Row)) → list_any (λ (e : Text × Row). is_to_issue at e.1 && is_governed_by id e.1) es ≡ false
    → filter_map_values (stance_in id measure) (map (λ (e : Text × Row). (e.0, issue_if (is_to_issue at e.1) m e.0 e.1)) es) ≡ filter_map_values (stance_in id measure) es
flights_stay m at id measure [] h = refl
flights_stay m at id measure (e ∷ es) h =
    let both = or_parts (is_to_issue at e.1 && is_governed_by id e.1) (list_any (λ (e : Text × Row). is_to_issue at e.1 && is_governed_by id e.1) es) h in
    λ i. cons_option (option_map (λ (y : Stance). (e.0, y)) (stance_stays m id measure e.0 e.1 (is_to_issue at e.1) both.0 i)) (flights_stay m at id measure es both.1 i)

pub tick_spares : (at : ℕ) → Spares (Tick at)
tick_spares at m good i = tick_cases m (StepSpares m (Tick at) i) (λ r h. refl) at (λ forward. issues i)
  where
    list : (id : Text) → list_any (λ (e : Text × Row). is_to_issue at e.1 && is_governed_by id e.1) m.rows ≡ false → (w : Option Measure) → option_map (listing (issue_due (record m { clock = at })).rows id) w ≡ option_map (listing m.rows id) w
    list id h None = refl
    list id h (Some measure) = λ i. Some (record { profile = measure.profile; flights = flights_stay (record m { clock = at }) at id measure m.rows h i })

    issues : (i : ItemName) → would_write m (Tick at) i ≡ false → contents (issue_due (record m { clock = at })) i ≡ contents m i
    issues the_clock h = cc
    issues the_catalogue h = refl
    issues (a_row key) h =
        ap row_or_none (at-map (λ k row. issue_if (is_to_issue at row) (record m { clock = at }) k row) key m.rows
        ∙ row_stays (record m { clock = at }) at key (row_of m key) h)
    issues (a_list id) h = ap list_or_none (list id h (measure_of m id))
