-- a list is shown
use Rattle.std.proofs.Common.{◌≡◌, ℕ, ◌+◌, List, [], ◌∷◌, map, true, false, cond, refl, sym, ap, subst, ◌∙◌, ◌&&◌, Option, None, Some, length, unwrap_or}
use Rattle.std.specs.Option.{option_map_or, option_and_then}
use Rattle.std.specs.Ordering.{is_eq}
use Rattle.std.proofs.lemmas.Bool.{or_left, or_right}
use Rattle.casa_grid.specs.Slots.{slots}
use Rattle.casa_flight.specs.declared.call.Call.TheVariants.{List as ListOf}
use Rattle.casa_flight.specs.declared.call.Refusal.TheVariants.{NoRegulation}
use Rattle.casa_filing.specs.declared.regulation.Measure.{Measure}
use Rattle.casa_filing.specs.declared.regulation.Regulation.{Regulation}
use Rattle.casa_flight.specs.declared.reply.Answer.TheVariants.{List as ListAnswer}
use Rattle.casa_flight.specs.declared.reply.Kind.TheVariants.{Forced as ForcedKind}
use Rattle.casa_flight.specs.declared.reply.Reply.TheVariants.{Answered}
use Rattle.casa_flight.specs.declared.row.Row.{Row}
use Rattle.casa_flight.specs.declared.row.Stance.{Stance}
use Rattle.casa_flight.specs.declared.row.Stance.TheVariants.{Competing, Issued, Forced}
use Rattle.casa_flight.specs.declared.state.State.{State}
use Rattle.casa_filing.specs.Text.{Text, same_text, at_name}
use Rattle.casa_filing.specs.Subject.{regulation}
use Rattle.casa_flight.specs.State.{row_of, measure_of, catalogue}
use Rattle.casa_flight.specs.Listing.{Listing, list_of, delay_of, delay_in, sorted_by}
use Rattle.casa_flight.specs.Steps.{list as step_list}
use Rattle.casa_flight.specs.Replies.{row_in as listed, is_row_before, list_answer}
use Rattle.casa_flight.specs.Good.{IsGood}
use Rattle.casa_filing.proofs.Entries.{text_cmp, same_name, all-each}
use Rattle.casa_footprint.specs.Footprint.{governs, is_forced, governs_forced}
use Rattle.casa_footprint.proofs.Names.{text_itself}
use Rattle.casa_footprint.proofs.Messages.{messages_self}
use Rattle.casa_footprint.proofs.ShowList.{governs_own, IsIn, each_in, some_flight, answer_at, map-each}
use Rattle.casa_plan_spec.specs.Sight.{Sight, nothing_written, regulations_in, IsSightOf, IsAnswerIn, IsPlanned, list_in, row_in}
use Rattle.casa_plan_spec.specs.Messages.{delay_by}
use Rattle.casa_footprint.specs.Finding.{by_id}
use Rattle.casa_plan_spec.specs.Look.{row_shown, rows_shown, list_shown, list_if, list}
use Rattle.casa_plan_spec.proofs.Changes.{refusal, acceptance, says-nothing}
use Rattle.casa_plan_spec.proofs.NewRates.{measure_none, measure_some}

-- a forced flight passes as it does in the state
forced_time_is : (m : State) (id : Text) (l : Listing) (v : Sight) → list_of m id ≡ Some l → IsSightOf m (ListOf id) v → (key : Text) (eto : ℕ) → IsIn l.flights (key, Forced eto)
    → option_map_or (delay_by (list_in v) key) (row_in v key) 0 ≡ option_map_or (delay_of m key) (row_of m key) 0
forced_time_is m id l v here is key eto there =
    ap (λ (w : Option Row). option_map_or (delay_by (list_in v) key) w 0)
    (is.row key (some_flight m id l (λ k x. is_forced x && same_text key k) here (there (λ (e : Text × Stance). is_forced e.1 && same_text key e.0) (text_itself key))))
    ∙ by (row_of m key) refl
  where
    to : (row : Row) → row_of m key ≡ Some row → (g : Option Text) → row.governing ≡ g → option_and_then (list_in v) g ≡ option_and_then (list_of m) g
    to row e None g = refl
    to row e (Some other) g =
        is.list other (or_right (same_text id other) (governs_forced m id other)
        (some_flight m id l (λ k x. is_forced x && governs m other k) here (there (λ (e : Text × Stance). is_forced e.1 && governs m other e.0) (governs_own m key row other e g))))

    by : (w : Option Row) → row_of m key ≡ w → option_map_or (delay_by (list_in v) key) w 0 ≡ option_map_or (delay_of m key) w 0
    by None e = refl
    by (Some row) e = ap (λ (o : Option Listing). option_map_or (λ (l : Listing). delay_in l key) o 0) (to row e row.governing refl)

row_is : (m : State) (id : Text) (l : Listing) (v : Sight) → list_of m id ≡ Some l → IsSightOf m (ListOf id) v → (key : Text) (s : Stance) → IsIn l.flights (key, s) → row_shown v l key s ≡ listed m l key s
row_is m id l v here is key (Competing eto) there = refl
row_is m id l v here is key (Issued eto cto) there = refl
row_is m id l v here is key (Forced eto) there =
    λ i. record { key = key; eto = eto; cto = eto + forced_time_is m id l v here is key eto there i; kind = ForcedKind; slot = None }

rows_are : (m : State) (id : Text) (l : Listing) (v : Sight) → list_of m id ≡ Some l → IsSightOf m (ListOf id) v → rows_shown v l ≡ sorted_by is_row_before (map (λ (e : Text × Stance). listed m l e.0 e.1) l.flights)
rows_are m id l v here is =
    ap (sorted_by is_row_before) (map-each (λ (e : Text × Stance). row_shown v l e.0 e.1) (λ (e : Text × Stance). listed m l e.0 e.1) l.flights
    (all-each (IsIn l.flights) (λ (e : Text × Stance). row_shown v l e.0 e.1 ≡ listed m l e.0 e.1) (λ e h. row_is m id l v here is e.0 e.1 h) l.flights (each_in l.flights)))

-- the regulation of the list is in the catalogue
in_catalogue : (id : Text) (measure : Measure) (regs : List (Text × Measure)) → at_name regs id ≡ Some measure
    → at_name (by_id (map (λ (e : Text × Measure). regulation e.0 e.1) regs)) id ≡ Some (regulation id measure)
in_catalogue id measure [] found = cc
in_catalogue id measure (e ∷ es) found =
    elim (is_eq (text_cmp id e.0)) as (λ b. is_eq (text_cmp id e.0) ≡ b → cond b (Some e.1) (at_name es id) ≡ Some measure → cond b (Some (regulation e.0 e.1)) (at_name (by_id (map (λ (e : Text × Measure). regulation e.0 e.1) es)) id) ≡ Some (regulation id measure)) [
      | true ↦ λ t f. let same : e.1 ≡ measure = cc in λ i. Some (regulation (sym (same_name id e.0 t) i) (same i))
      | false ↦ λ t f. in_catalogue id measure es f
    ] refl found

lists : (m : State) (id : Text) (v : Sight) (l : Listing) (measure : Measure) → IsGood m → IsSightOf m (ListOf id) v → list_of m id ≡ Some l → measure_of m id ≡ Some measure
    → IsAnswerIn m (ListOf id) (list_if v (Some (regulation id measure)) (Some l))
lists m id v l measure good is here opened =
    let r : Regulation = regulation id measure in
    let told : ListAnswer (list_shown v r l) ≡ list_answer m id =
    (λ i. ListAnswer (record { reg = r.id; loc = r.loc; start = r.start; end = r.end; slots = length (slots l.profile); rows = rows_are m id l v here is i }))
    ∙ sym (answer_at m id measure l opened here) in
    acceptance m (ListOf id) m (Answered (ListAnswer (list_shown v r l)) []) nothing_written (ap (step_list m) opened) (λ i. Answered (told i) (sym (messages_self m good) i)) (λ i. says-nothing (list_of m) i)

pub list_planned : (v : Sight) (id : Text) → IsPlanned v (ListOf id) (list v id)
list_planned v id m good is =
    subst (λ (o : Option Listing). IsAnswerIn m (ListOf id) (list_if v (at_name (by_id (regulations_in v)) id) o)) (sym seen)
    (subst (λ (rs : List Regulation). IsAnswerIn m (ListOf id) (list_if v (at_name (by_id rs) id) (list_of m id))) (sym known) (by (list_of m id) refl))
  where
    seen : list_in v id ≡ list_of m id
    seen = is.list id (or_left (same_text id id) (governs_forced m id id) (text_itself id))

    known : regulations_in v ≡ catalogue m
    known = ap (λ (o : Option (List Regulation)). unwrap_or o []) (is.catalogue refl)

    refused : (r : Option Regulation) → list_of m id ≡ None → IsAnswerIn m (ListOf id) (list_if v r None)
    refused None e = refusal m (ListOf id) NoRegulation (ap (step_list m) (measure_none m id e))
    refused (Some r) e = refusal m (ListOf id) NoRegulation (ap (step_list m) (measure_none m id e))

    by : (w : Option Listing) → list_of m id ≡ w → IsAnswerIn m (ListOf id) (list_if v (at_name (by_id (catalogue m)) id) w)
    by None e = refused (at_name (by_id (catalogue m)) id) e
    by (Some l) e =
        let o = measure_some m id l e in
        subst (λ (r : Option Regulation). IsAnswerIn m (ListOf id) (list_if v r (Some l))) (sym (in_catalogue id o.0 m.regs o.1)) (lists m id v l o.0 good is e o.1)
