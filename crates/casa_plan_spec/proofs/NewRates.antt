-- new rates
use Rattle.std.proofs.Common.{◌≡◌, List, [], Bool, true, false, refl, sym, ap, subst, ◌∙◌, ◌&&◌, Option, None, Some, if◌then◌else◌, unwrap_or}
use Rattle.std.specs.Option.{option_map, option_map_or}
use Rattle.std.proofs.lemmas.Bool.{or_left, or_right}
use Rattle.casa_grid.specs.declared.period.Period.{Period}
use Rattle.casa_grid.specs.Profile.{start_of, end_of}
use Rattle.casa_flight.specs.declared.call.Call.{Call}
use Rattle.casa_flight.specs.declared.call.Call.TheVariants.{Rates}
use Rattle.casa_flight.specs.declared.call.Refusal.TheVariants.{NoRegulation, SpanChanged}
use Rattle.casa_filing.specs.declared.regulation.Measure.{Measure}
use Rattle.casa_filing.specs.declared.regulation.Regulation.{Regulation}
use Rattle.casa_flight.specs.declared.reply.Answer.TheVariants.{Done}
use Rattle.casa_flight.specs.declared.reply.Reply.TheVariants.{Answered}
use Rattle.casa_flight.specs.declared.state.State.{State}
use Rattle.casa_filing.specs.Text.{Text, at_name}
use Rattle.casa_filing.specs.Subject.{regulation}
use Rattle.casa_flight.specs.State.{row_of, measure_of, catalogue}
use Rattle.casa_flight.specs.Listing.{Listing, listing, list_of}
use Rattle.casa_flight.specs.Steps.{rates as step_rates, rates_if as step_rates_if, keeps_span, ends_later, extends, take_in}
use Rattle.casa_flight.specs.Good.{IsGood}
use Rattle.casa_laws.proofs.GoodTick.{span_kept}
use Rattle.casa_laws.proofs.RegMessages.{regs-take_in, rates_stay}
use Rattle.casa_footprint.specs.Items.{ItemName, the_clock, the_catalogue, a_row, a_list, regulations, row_or_none, list_or_none}
use Rattle.casa_footprint.specs.Finding.{by_id}
use Rattle.casa_footprint.specs.Footprint.{reads, enters_with}
use Rattle.casa_footprint.proofs.Names.{text_itself}
use Rattle.casa_footprint.proofs.Catalogue.{at-catalogue}
use Rattle.casa_footprint.proofs.Rates.{rated, rates_messages, list_rated, extends_at, enters_with_at}
use Rattle.casa_plan_spec.specs.Sight.{Sight, IsAnswerIn, IsPlanned, regulations_in, list_in}
use Rattle.casa_plan_spec.specs.FlightCalls.{refusal as refused}
use Rattle.casa_plan_spec.specs.TakingIn.{taking_in}
use Rattle.casa_plan_spec.specs.NewRates.{rates_written, extend_regulation, rates_if, rates_at, rates}
use Rattle.casa_plan_spec.specs.Messages.{answer_done}
use Rattle.casa_plan_spec.proofs.Changes.{refusal, Says, acceptance, one_written}
use Rattle.casa_plan_spec.proofs.TakingIn.{TakesIn, takes_in}

-- where no list is open there is no regulation, and where one is, it is that of a measure
pub measure_none : (m : State) (id : Text) → list_of m id ≡ None → measure_of m id ≡ None
measure_none m id e = by (measure_of m id) e
  where
    by : (w : Option Measure) → option_map (listing m.rows id) w ≡ None → w ≡ None
    by None e = refl
    by (Some measure) e = cc

pub measure_some : (m : State) (id : Text) (l : Listing) → list_of m id ≡ Some l → (measure : Measure) × (measure_of m id ≡ Some measure) × (listing m.rows id measure ≡ l)
measure_some m id l e = by (measure_of m id) refl e
  where
    by : (w : Option Measure) → measure_of m id ≡ w → option_map (listing m.rows id) w ≡ Some l → (measure : Measure) × (measure_of m id ≡ Some measure) × (listing m.rows id measure ≡ l)
    by None p e = cc
    by (Some measure) p e = (measure, p, cc)

-- with the same end the list is written alone
rates_done : (m : State) (id : Text) (measure : Measure) (profile : List Period) → IsGood m → measure_of m id ≡ Some measure
    → keeps_span profile measure.profile ≡ true → ends_later profile measure.profile ≡ false
    → IsAnswerIn m (Rates id profile) (Answered Done [], rates_written id profile (listing m.rows id measure))
rates_done m id measure profile good opened span same =
    acceptance m (Rates id profile) (rated m id measure profile) (Answered Done []) (rates_written id profile (listing m.rows id measure))
    (ap (step_rates m id profile) opened ∙ (λ i. step_rates_if m id (record measure { profile = profile }) (span i) (same i)))
    (sym (ap (Answered Done) (rates_messages m id measure profile good opened (span_kept profile measure.profile span) same)))
    (says (rated m id measure profile) (list_rated m id measure profile (span_kept profile measure.profile span) same))
  where
    kept : Option Listing
    kept = Some (record (listing m.rows id measure) { profile = profile })

    extends_not : extends m id profile ≡ false
    extends_not = extends_at m id measure profile opened ∙ same

    says : (n : State) → list_of n id ≡ kept → Says m (Rates id profile) n (rates_written id profile (listing m.rows id measure))
    says n e the_clock = refl
    says n e the_catalogue = sym (ap (λ b. if b then Some (regulations (catalogue n)) else None) extends_not)
    says n e (a_row key) = sym (ap (λ b. if b && enters_with m id profile key then Some (row_or_none (row_of n key)) else None) extends_not)
    says n e (a_list other) = one_written list_or_none (λ t. list_or_none (list_of n t)) id kept (ap list_or_none (sym e)) other

-- with a later end flights are taken in
ends : (m : State) (id : Text) (measure : Measure) (profile : List Period) → measure_of m id ≡ Some measure
    → keeps_span profile measure.profile ≡ true → ends_later profile measure.profile ≡ true → TakesIn m (Rates id profile) id (record measure { profile = profile })
ends m id measure profile opened span later = record {
  stepped = ap (step_rates m id profile) opened ∙ (λ i. step_rates_if m id new (span i) (later i));
  answered = λ n. refl;
  lasts = rates_stay m (take_in m id new) id measure profile opened (span_kept profile measure.profile span) (regs-take_in m id new);
  all_read = read;
  clock = refl;
  catalogue = extended_so;
  rows = λ key. ap (λ b. b && enters_with m id profile key) extended_so ∙ enters_with_at m id measure profile key opened;
  lists = λ other. refl;
}
  where
    new : Measure
    new = record measure { profile = profile }

    extended_so : extends m id profile ≡ true
    extended_so = extends_at m id measure profile opened ∙ later

    read : (i : ItemName) → reads m (Rates id profile) i ≡ true
    read the_clock = extended_so
    read the_catalogue = refl
    read (a_row key) = extended_so
    read (a_list other) = or_right _ _ extended_so

pub rates_planned : (v : Sight) (id : Text) (profile : List Period) → IsPlanned v (Rates id profile) (rates v id profile)
rates_planned v id profile m good is = by (list_in v id) (sym (is.list id (or_left _ _ (text_itself id))))
  where
    call : Call
    call = Rates id profile

    -- the regulation with its later end, as the catalogue has it
    later_is : (measure : Measure) → keeps_span profile measure.profile ≡ true → record (regulation id measure) { end = end_of profile } ≡ regulation id (record measure { profile = profile })
    later_is measure span =
        let start : start_of profile ≡ start_of measure.profile = (span_kept profile measure.profile span).start in
        λ i. record { id = id; loc = measure.loc; start = sym start i; end = end_of profile }

    found : (measure : Measure) → measure_of m id ≡ Some measure → at_name (by_id (regulations_in v)) id ≡ Some (regulation id measure)
    found measure opened =
        ap (λ w. at_name (by_id (unwrap_or w [])) id) (is.catalogue refl) ∙ at-catalogue m.regs id ∙ ap (option_map (regulation id)) opened

    spanned : (measure : Measure) → measure_of m id ≡ Some measure → (b later : Bool) → keeps_span profile measure.profile ≡ b → ends_later profile measure.profile ≡ later
        → IsAnswerIn m call (rates_if v id profile (listing m.rows id measure) b later)
    spanned measure opened false later h t =
        refusal m call SpanChanged
        (ap (step_rates m id profile) opened ∙ ap (λ b. step_rates_if m id (record measure { profile = profile }) b (ends_later profile measure.profile)) h)
    spanned measure opened true false h t = rates_done m id measure profile good opened h t
    spanned measure opened true true h t =
        subst (λ (w : Option Regulation). IsAnswerIn m call (option_map_or (extend_regulation v profile) w (refused NoRegulation))) (sym (found measure opened))
        (subst (λ (r : Regulation). IsAnswerIn m call (answer_done v (taking_in v r profile))) (sym (later_is measure h))
        (takes_in m call id (record measure { profile = profile }) v good is (ends m id measure profile opened h t)))

    by : (w : Option Listing) → list_of m id ≡ w → IsAnswerIn m call (rates_at v id profile w)
    by None e = refusal m call NoRegulation (ap (step_rates m id profile) (measure_none m id e))
    by (Some l) e =
        let o = measure_some m id l e in
        subst (λ (k : Listing). IsAnswerIn m call (rates_at v id profile (Some k))) o.2 (spanned o.0 o.1 (keeps_span profile o.0.profile) (ends_later profile o.0.profile) refl refl)
