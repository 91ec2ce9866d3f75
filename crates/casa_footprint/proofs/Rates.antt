-- Rates
use Rattle.std.proofs.Common.{◌≡◌, List, [], ◌∷◌, true, false, cond, refl, sym, ap, ◌∙◌, Option, None, Some, ◌&&◌, ◌||◌, map, nat_lt, unwrap_or}
use Rattle.std.specs.declared.cmp.Ordering.TheVariants.{Less, Equal, Greater}
use Rattle.std.specs.Ordering.{is_eq, match_ordering}
use Rattle.std.specs.Option.{option_map, option_map_or}
use Rattle.std.specs.List.Sorted.{IsStrictlySortedBy}
use Rattle.std.proofs.lemmas.Bool.{both_ways}
use Rattle.casa_grid.specs.declared.period.Period.{Period}
use Rattle.casa_grid.specs.Profile.{end_of}
use Rattle.casa_flight.specs.declared.call.Call.TheVariants.{Rates}
use Rattle.casa_filing.specs.declared.regulation.Regulation.{Regulation}
use Rattle.casa_filing.specs.declared.regulation.Measure.{Measure}
use Rattle.casa_flight.specs.declared.row.Row.{Row}
use Rattle.casa_flight.specs.declared.state.State.{State}
use Rattle.casa_filing.specs.Text.{Text, same_text, at_name, put}
use Rattle.casa_filing.specs.Subject.{regulation, subject}
use Rattle.casa_flight.specs.State.{measure_of, catalogue, is_governed_by}
use Rattle.casa_flight.specs.Listing.{Listing, listing, list_of, stance, filter_map_values}
use Rattle.casa_flight.specs.Steps.{keeps_span, ends_later, extends, take_in}
use Rattle.casa_flight.specs.Replies.{messages}
use Rattle.casa_flight.specs.Good.{AreInOrder, IsGood}
use Rattle.casa_filing.proofs.Entries.{text_cmp, after_all, at-put_same, at-put_other, apart}
use Rattle.casa_laws.proofs.Kept.{at_above}
use Rattle.casa_laws.proofs.Outcomes.{rates_cases}
use Rattle.casa_laws.proofs.GoodTick.{KeepsSpan, span_kept, same_end}
use Rattle.casa_laws.proofs.RegMessages.{clock-take_in}
use Rattle.std.specs.Map.{keys_of}
use Rattle.casa_footprint.specs.Items.{ItemName, the_clock, the_catalogue, a_row, a_list, moment, regulations, row_or_none, list_or_none, contents}
use Rattle.casa_footprint.specs.Footprint.{reads, would_write, enters_at, enters_with}
use Rattle.casa_footprint.proofs.Names.{catalogue_in}
use Rattle.casa_footprint.proofs.Catalogue.{regulation_same}
use Rattle.casa_footprint.proofs.OpenClose.{row_taken, list_taken}
use Rattle.casa_footprint.proofs.Messages.{messages_none}
use Rattle.casa_footprint.proofs.Forms.{DecidesReads, Spares, StepSpares}

-- a value written over one from which f makes the same
put_over : {X Y : Type 0} (f : Text × X → Y) (k : Text) (new old : X) → ((q : Text) → f (q, new) ≡ f (q, old)) → (es : List (Text × X)) → AreInOrder es → at_name es k ≡ Some old → map f (put es k new) ≡ map f es
unfolding IsStrictlySortedBy
put_over f k new old same [] h e = cc
put_over {X} {Y} f k new old same (x ∷ es) h e =
    elim (text_cmp k x.0) as (λ r. text_cmp k x.0 ≡ r → map f (match_ordering r ((k, new) ∷ x ∷ es) ((x.0, new) ∷ es) (x ∷ put es k new)) ≡ map f (x ∷ es)) [
      | Less ↦ λ p. let none : at_name (x ∷ es) k ≡ None = at_above k (x ∷ es) (p, after_all k x.0 p (keys_of es) h.0) in cc
      | Equal ↦ λ p.
          let here : Some x.1 ≡ Some old = sym (ap (λ r. cond (is_eq r) (Some x.1) (at_name es k)) p) ∙ e in
          let is : x.1 ≡ old = ap (λ (w : Option X). unwrap_or w old) here in
          ap (λ y. y ∷ map f es) (same x.0 ∙ ap (λ (z : X). f (x.0, z)) (sym is))
      | Greater ↦ λ p. ap (λ ys. f x ∷ ys) (put_over f k new old same es h.1 (sym (ap (λ r. cond (is_eq r) (Some x.1) (at_name es k)) p) ∙ e))
    ] refl

-- the state with these rates
abbrev pub rated : State → Text → Measure → List Period → State
rated m id measure profile = record m { regs = put m.regs id (record measure { profile = profile }) }

regulation_rated : (id : Text) (measure : Measure) (profile : List Period) → KeepsSpan profile measure.profile → ends_later profile measure.profile ≡ false → regulation id (record measure { profile = profile }) ≡ regulation id measure
regulation_rated id measure profile k h =
    let end : end_of profile ≡ end_of measure.profile = same_end profile measure.profile k h in
    λ i. record { id = id; loc = measure.loc; start = k.start i; end = end i }

-- the catalogue stays with the same end
catalogue_rated : (m : State) (id : Text) (measure : Measure) (profile : List Period) → IsGood m → measure_of m id ≡ Some measure → KeepsSpan profile measure.profile → ends_later profile measure.profile ≡ false
    → catalogue (rated m id measure profile) ≡ catalogue m
catalogue_rated m id measure profile good e k h =
    put_over (λ (e : Text × Measure). regulation e.0 e.1) id (record measure { profile = profile }) measure (λ q. regulation_rated q measure profile k h) m.regs good.regs_in_order e

pub rates_messages : (m : State) (id : Text) (measure : Measure) (profile : List Period) → IsGood m → measure_of m id ≡ Some measure → KeepsSpan profile measure.profile → ends_later profile measure.profile ≡ false
    → messages m (rated m id measure profile) ≡ []
rates_messages m id measure profile good e k h =
    messages_none m (rated m id measure profile) good good.rows_in_order (sym (catalogue_rated m id measure profile good e k h)) (λ key row found. found)

-- the list with its new profile keeps its flights
pub list_rated : (m : State) (id : Text) (measure : Measure) (profile : List Period) → KeepsSpan profile measure.profile → ends_later profile measure.profile ≡ false
    → list_of (rated m id measure profile) id ≡ Some (record (listing m.rows id measure) { profile = profile })
list_rated m id measure profile k h =
    ap (option_map (listing m.rows id)) (at-put_same id (record measure { profile = profile }) m.regs)
    ∙ ap (λ (r : Regulation). let l : Listing = record { profile = profile; flights = filter_map_values (λ (row : Row). option_map (stance (is_governed_by id row) row.issued) (subject row.plan r)) m.rows } in Some l) (regulation_rated id measure profile k h)

-- whether the end is later is decided by the catalogue
extends_by : (profile : List Period) (id : Text) (w : Option Measure) → option_map_or (λ (r : Regulation). nat_lt r.end (end_of profile)) (option_map (regulation id) w) false ≡ option_map_or (λ (y : Measure). ends_later profile y.profile) w false
extends_by profile id None = refl
extends_by profile id (Some y) = refl

extends_same : (m n : State) (id : Text) (profile : List Period) → catalogue m ≡ catalogue n → extends m id profile ≡ extends n id profile
extends_same m n id profile c =
    sym (extends_by profile id (measure_of m id))
    ∙ ap (λ (w : Option Regulation). option_map_or (λ (r : Regulation). nat_lt r.end (end_of profile)) w false) (regulation_same m n id c)
    ∙ extends_by profile id (measure_of n id)

pub extends_at : (m : State) (id : Text) (measure : Measure) (profile : List Period) → measure_of m id ≡ Some measure → extends m id profile ≡ ends_later profile measure.profile
extends_at m id measure profile e = ap (λ (w : Option Measure). option_map_or (λ (y : Measure). ends_later profile y.profile) w false) e

pub enters_with_at : (m : State) (id : Text) (measure : Measure) (profile : List Period) (key : Text) → measure_of m id ≡ Some measure → enters_with m id profile key ≡ enters_at m (regulation id (record measure { profile = profile })) key
enters_with_at m id measure profile key e = ap (λ (w : Option Measure). option_map_or (λ (y : Measure). enters_at m (regulation id (record y { profile = profile })) key) w false) e

pub rates_reads : (id : Text) (profile : List Period) → DecidesReads (Rates id profile)
rates_reads id profile m n gm gn s i = by i
  where
    same : extends m id profile ≡ extends n id profile
    same = extends_same m n id profile (catalogue_in m n (s the_catalogue refl))

    by : (i : ItemName) → reads m (Rates id profile) i ≡ reads n (Rates id profile) i
    by the_clock = same
    by the_catalogue = refl
    by (a_row key) = same
    by (a_list other) = ap (λ b. same_text id other || b) same

pub rates_spares : (id : Text) (profile : List Period) → Spares (Rates id profile)
rates_spares id profile m good i =
    rates_cases m (StepSpares m (Rates id profile) i) (λ r h. refl) id profile
    (λ measure opened span same. keeps measure opened span same i) (λ measure opened span later. takes measure opened later i)
  where
    keeps : (measure : Measure) → measure_of m id ≡ Some measure → keeps_span profile measure.profile ≡ true → ends_later profile measure.profile ≡ false
        → (i : ItemName) → would_write m (Rates id profile) i ≡ false → contents (rated m id measure profile) i ≡ contents m i
    keeps measure opened span same the_clock h = refl
    keeps measure opened span same the_catalogue h = ap regulations (catalogue_rated m id measure profile good opened (span_kept profile measure.profile span) same)
    keeps measure opened span same (a_row key) h = refl
    keeps measure opened span same (a_list other) h =
        ap (λ (w : Option Measure). list_or_none (option_map (listing m.rows other) w)) (at-put_other other id (record measure { profile = profile }) m.regs (apart id other h))

    takes : (measure : Measure) → measure_of m id ≡ Some measure → ends_later profile measure.profile ≡ true
        → (i : ItemName) → would_write m (Rates id profile) i ≡ false → contents (take_in m id (record measure { profile = profile })) i ≡ contents m i
    takes measure opened later the_clock h = ap moment (clock-take_in m id (record measure { profile = profile }))
    takes measure opened later the_catalogue h = absurd (both_ways _ h (extends_at m id measure profile opened ∙ later))
    takes measure opened later (a_row key) h =
        ap row_or_none (row_taken m id (record measure { profile = profile }) key good
        (sym (enters_with_at m id measure profile key opened) ∙ ap (λ b. b && enters_with m id profile key) (sym (extends_at m id measure profile opened ∙ later)) ∙ h))
    takes measure opened later (a_list other) h = ap list_or_none (list_taken m id (record measure { profile = profile }) other good h)
