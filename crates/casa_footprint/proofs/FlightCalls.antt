-- the calls on one flight: what they read decides what they read, and they write the flight's row and lists alone
use Rattle.std.proofs.Common.{◌≡◌, true, false, refl, sym, ap, ◌∙◌, Bool, Option, None, Some, ◌&&◌, ◌||◌}
use Rattle.std.specs.Option.{option_map_or}
use Rattle.casa_flight.specs.declared.call.Call.{Call}
use Rattle.casa_flight.specs.declared.call.Call.TheVariants.{File, Amend, Cancel, Revise, Exempt}
use Rattle.casa_flight.specs.declared.row.Row.{Row}
use Rattle.casa_flight.specs.declared.state.State.{State}
use Rattle.casa_filing.specs.Text.{Text, same_text}
use Rattle.casa_filing.specs.FlightPlan.{FlightPlan}
use Rattle.casa_flight.specs.State.{row_of, ungoverned}
use Rattle.casa_flight.specs.Entry.{situation, row_after_entry}
use Rattle.casa_flight.specs.Steps.{new_row, is_revised}
use Rattle.casa_flight.specs.Good.{IsGood}
use Rattle.casa_laws.proofs.Outcomes.{exempted, set_row, file_cases, amend_cases, cancel_cases, revise_cases, exempt_cases}
use Rattle.casa_footprint.specs.Items.{ItemName, the_clock, the_catalogue, a_row, a_list, contents}
use Rattle.casa_footprint.specs.Footprint.{is_subject, is_list_of, holds, would_write}
use Rattle.casa_footprint.proofs.Names.{catalogue_in, row_in, text_itself}
use Rattle.casa_footprint.proofs.Catalogue.{is_subject_same, is_list_of_same}
use Rattle.casa_footprint.proofs.Entering.{entered_own}
use Rattle.casa_footprint.proofs.OneFlight.{is_over_in, has_written, others_kept, own_lists_written}
use Rattle.casa_footprint.proofs.Forms.{DecidesReads, Spares, StepSpares}

pub file_reads : (plan : FlightPlan) → DecidesReads (File plan)
file_reads plan m n gm gn s the_clock = refl
file_reads plan m n gm gn s the_catalogue = refl
file_reads plan m n gm gn s (a_row other) = refl
file_reads plan m n gm gn s (a_list id) = is_subject_same m n plan id (catalogue_in m n (s the_catalogue refl))

-- the catalogue and its row decide the flight's lists
lists_read : (m n : State) (key id : Text) → contents m the_catalogue ≡ contents n the_catalogue → contents m (a_row key) ≡ contents n (a_row key) → is_list_of m key id ≡ is_list_of n key id
lists_read m n key id c r = is_list_of_same m n key id (catalogue_in m n c) (row_in m n key r)

pub amend_reads : (plan : FlightPlan) → DecidesReads (Amend plan)
amend_reads plan m n gm gn s the_clock = refl
amend_reads plan m n gm gn s the_catalogue = refl
amend_reads plan m n gm gn s (a_row other) = refl
amend_reads plan m n gm gn s (a_list id) =
    let own = lists_read m n plan.key id (s the_catalogue refl) (s (a_row plan.key) (text_itself plan.key)) in
    λ i. own i || is_subject_same m n plan id (catalogue_in m n (s the_catalogue refl)) i

pub cancel_reads : (key : Text) → DecidesReads (Cancel key)
cancel_reads key m n gm gn s the_clock = refl
cancel_reads key m n gm gn s the_catalogue = refl
cancel_reads key m n gm gn s (a_row other) = refl
cancel_reads key m n gm gn s (a_list id) = lists_read m n key id (s the_catalogue refl) (s (a_row key) (text_itself key))

pub revise_reads : (key : Text) → DecidesReads (Revise key)
revise_reads key m n gm gn s the_clock = refl
revise_reads key m n gm gn s the_catalogue = refl
revise_reads key m n gm gn s (a_row other) = refl
revise_reads key m n gm gn s (a_list id) = lists_read m n key id (s the_catalogue refl) (s (a_row key) (text_itself key))

pub exempt_reads : (key : Text) → DecidesReads (Exempt key)
exempt_reads key m n gm gn s the_clock = refl
exempt_reads key m n gm gn s the_catalogue = refl
exempt_reads key m n gm gn s (a_row other) = refl
exempt_reads key m n gm gn s (a_list id) = lists_read m n key id (s the_catalogue refl) (s (a_row key) (text_itself key))

-- a call would write what differs with this row of the flight, or with none
abbrev pub WritesRow : State → Call → Text → Option Row → Type 0
WritesRow m call key now = (i : ItemName) → would_write m call i ≡ has_written m key now i

pub file_writes : (m : State) (plan : FlightPlan) (new : Row) → row_of m plan.key ≡ None → new.plan ≡ plan → WritesRow m (File plan) plan.key (Some new)
file_writes m plan new absent kept the_clock = refl
file_writes m plan new absent kept the_catalogue = refl
file_writes m plan new absent kept (a_row other) = refl
file_writes m plan new absent kept (a_list id) = sym (λ i. is_over_in m (absent i) id || is_subject m (kept i) id)

pub amend_writes : (m : State) (plan : FlightPlan) (new : Row) → new.plan ≡ plan → WritesRow m (Amend plan) plan.key (Some new)
amend_writes m plan new kept the_clock = refl
amend_writes m plan new kept the_catalogue = refl
amend_writes m plan new kept (a_row other) = refl
amend_writes m plan new kept (a_list id) = λ i. is_list_of m plan.key id || is_subject m (sym kept i) id

pub cancel_writes : (m : State) (key : Text) → WritesRow m (Cancel key) key None
cancel_writes m key the_clock = refl
cancel_writes m key the_catalogue = refl
cancel_writes m key (a_row other) = refl
cancel_writes m key (a_list id) = sym (or_none (is_list_of m key id))
  where
    or_none : (b : Bool) → (b || false) ≡ b
    or_none true = refl
    or_none false = refl

-- what a revised flight would get holds, or does not
pub holds_at : (m : State) (key : Text) (row : Row) → row_of m key ≡ Some row → holds m key ≡ is_revised m key row (row_after_entry (situation m) key (ungoverned row))
holds_at m key row found = ap (λ (w : Option Row). option_map_or (λ (r : Row). is_revised m key r (row_after_entry (situation m) key (ungoverned r))) w false) found

pub revise_writes : (m : State) (key : Text) (row new : Row) → row_of m key ≡ Some row → holds m key ≡ true → new.plan ≡ row.plan → WritesRow m (Revise key) key (Some new)
revise_writes m key row new found holding kept the_clock = refl
revise_writes m key row new found holding kept the_catalogue = refl
revise_writes m key row new found holding kept (a_row other) = ap (λ b. b && same_text key other) holding
revise_writes m key row new found holding kept (a_list id) = ap (λ b. b && is_list_of m key id) holding ∙ own_lists_written m key id row new found kept

pub exempt_writes : (m : State) (key : Text) (row : Row) → row_of m key ≡ Some row → WritesRow m (Exempt key) key (Some (exempted row))
exempt_writes m key row found the_clock = refl
exempt_writes m key row found the_catalogue = refl
exempt_writes m key row found (a_row other) = refl
exempt_writes m key row found (a_list id) = own_lists_written m key id row (exempted row) found refl

-- and spares all else
row_spares : (m : State) (call : Call) (key : Text) (now : Option Row) → IsGood m → WritesRow m call key now → (i : ItemName) → would_write m call i ≡ false → contents (set_row m key now) i ≡ contents m i
row_spares m call key now good writes i h = others_kept m key now good i (sym (writes i) ∙ h)

pub file_spares : (plan : FlightPlan) → Spares (File plan)
file_spares plan m good i =
    let new : Row = row_after_entry (situation m) plan.key (new_row plan) in
    file_cases m (StepSpares m (File plan) i) (λ r h. refl) plan
    (λ absent h. row_spares m (File plan) plan.key (Some new) good (file_writes m plan new absent (entered_own m plan.key (new_row plan) good.regs_in_order refl).1) i h)

pub amend_spares : (plan : FlightPlan) → Spares (Amend plan)
amend_spares plan m good i =
    amend_cases m (StepSpares m (Amend plan) i) (λ r h. refl) plan
    (λ row found h.
    let entering : Row = record (ungoverned row) { plan = plan } in
    let new : Row = row_after_entry (situation m) plan.key entering in
    row_spares m (Amend plan) plan.key (Some new) good (amend_writes m plan new (entered_own m plan.key entering good.regs_in_order refl).1) i h)

pub cancel_spares : (key : Text) → Spares (Cancel key)
cancel_spares key m good i =
    cancel_cases m (StepSpares m (Cancel key) i) (λ r h. refl) key (λ row found h. row_spares m (Cancel key) key None good (cancel_writes m key) i h)

pub revise_spares : (key : Text) → Spares (Revise key)
revise_spares key m good i =
    revise_cases m (StepSpares m (Revise key) i) (λ r h. refl) key (λ row found not h. refl)
    (λ row found revised h.
    let new : Row = row_after_entry (situation m) key (ungoverned row) in
    row_spares m (Revise key) key (Some new) good
    (revise_writes m key row new found (holds_at m key row found ∙ revised) (entered_own m key (ungoverned row) good.regs_in_order refl).1) i h)

pub exempt_spares : (key : Text) → Spares (Exempt key)
exempt_spares key m good i =
    exempt_cases m (StepSpares m (Exempt key) i) (λ r h. refl) key
    (λ row found not h. row_spares m (Exempt key) key (Some (exempted row)) good (exempt_writes m key row found) i h)
