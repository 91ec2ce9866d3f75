-- what was read is what the call reads
use Rattle.std.proofs.Common.{◌≡◌, ℕ, List, [], ◌∷◌, map, Bool, true, false, cond, ◌||◌, ◌&&◌, is_some, nat_lt, refl, sym, ap}
use Rattle.std.proofs.Common.{◌∙◌, subst, Option, None, Some}
use Rattle.std.proofs.Math.Bool.{or-false, or-true}
use Rattle.std.specs.Prelude.{Result, IfOk, if◌then◌else◌}
use Rattle.std.specs.Option.{option_map, option_map_or, option_and_then}
use Rattle.std.specs.List.{list_any}
use Rattle.std.specs.List.Sorted.{IsStrictlySortedBy}
use Rattle.std.specs.Ordering.{is_eq}
use Rattle.std.proofs.lemmas.Cmp.{nat_list_eq_equiv}
use Rattle.std.proofs.lemmas.Result.{IfOk-weaker}
use Rattle.casa_grid.specs.declared.period.Period.{Period}
use Rattle.casa_grid.specs.Profile.{end_of}
use Rattle.casa_flight.specs.declared.call.Call.{Call}
use Rattle.casa_flight.specs.declared.call.Call.TheVariants.{File, Amend, Cancel, Revise, Exempt, Rates, Show}
use Rattle.casa_flight.specs.declared.call.Call.TheVariants.{List as ListOf, Swap}
use Rattle.casa_filing.specs.declared.regulation.Regulation.{Regulation}
use Rattle.casa_filing.specs.declared.regulation.Measure.{Measure}
use Rattle.casa_flight.specs.declared.row.Row.{Row}
use Rattle.casa_flight.specs.declared.row.Stance.{Stance}
use Rattle.casa_flight.specs.declared.state.State.{State}
use Rattle.casa_filing.specs.Text.{Text, at_name, same_text}
use Rattle.casa_filing.specs.FlightPlan.{FlightPlan}
use Rattle.casa_flight.specs.State as state
use Rattle.casa_filing.specs.Subject.{regulation, subject}
use Rattle.casa_flight.specs.State.{is_governed_by}
use Rattle.casa_flight.specs.Listing.{Listing, list_of}
use Rattle.casa_flight.specs.Steps.{ends_later, extends}
use Rattle.casa_flight.specs.Good.{AreInOrder}
use Rattle.casa_filing.proofs.Entries.{text_cmp, same_name}
use Rattle.casa_laws.proofs.Kept.{Above, at_above, at-kept}
use Rattle.casa_footprint.specs.Items.{ItemName, the_clock, the_catalogue, a_row, a_list}
use Rattle.casa_footprint.specs.Footprint.{reads, is_subject, is_list_of, governs, is_forced}
use Rattle.casa_footprint.proofs.Catalogue.{at-catalogue}
use Rattle.casa_item.specs.declared.item.Item.{Item}
use Rattle.casa_view.specs.declared.view.View.{View}
use Rattle.casa_item.specs.Versions.{Versions, version_at, regulations_of, row_of, list_at, shown_state}
use Rattle.casa_view.specs.BoardState.{IsGoodBoard, board_state}
use Rattle.casa_item.specs.Crossed.{meets}
use Rattle.casa_view.specs.View.{IsTaken}
use Rattle.casa_view.specs.Taking.{meets_if, meets_either, is_of, name_test, row_at, plan_at, governing_at, has_forced}
use Rattle.casa_view.specs.Taking.{forced_at, governs_forced_at, extends_in, read_by_rates, IsRead}
use Rattle.casa_named.proofs.Found.{same_test}

-- a view with the versions of these items, which are what the call reads
pub is_read : {V E : Type 0} (item_of : V → Item) (stamp_of : V → ℕ) (vs : Versions V) (call called : Call) →
    called ≡ call → (test : ItemName → Bool) (r : Result (View V) E) → IfOk r (IsTaken vs test) →
    (IsGoodBoard (board_state item_of stamp_of vs) → (i : ItemName) → test i ≡ reads (shown_state item_of vs) call i) →
    IfOk r (IsRead item_of stamp_of vs called)
is_read item_of stamp_of vs call called is test r taken same =
    IfOk-weaker r (IsTaken vs test) (IsRead item_of stamp_of vs called)
    (λ v t. (test, t, λ well i. same well i ∙ ap (λ (c : Call). reads (shown_state item_of vs) c i) (sym is)))
    taken

-- a view with the versions of items that pass one test has those that pass another that is the same
pub taken_same : {V E : Type 0} (vs : Versions V) (t u : ItemName → Bool) (r : Result (View V) E) →
    ((i : ItemName) → t i ≡ u i) → IfOk r (IsTaken vs t) → IfOk r (IsTaken vs u)
taken_same vs t u r same =
    IfOk-weaker r (IsTaken vs t) (IsTaken vs u)
    (λ v taken i. taken i ∙ ap (λ (b : Bool). if b then Some (version_at vs i) else None) (same i))

-- new rates with a later end read all items
pub all_by_rates : (id : Text) (later : Bool) → later ≡ true → (i : ItemName) → true ≡ read_by_rates id later i
all_by_rates id later e the_clock = sym e
all_by_rates id later e the_catalogue = refl
all_by_rates id later e (a_row key) = sym e
all_by_rates id later e (a_list q) =
    sym (or-true (same_text id q)) ∙ ap (λ (b : Bool). same_text id q || b) (sym e)

-- with none they read the catalogue and the list
pub list_by_rates : (id : Text) (later : Bool) → later ≡ false → (i : ItemName) →
    name_test false true (λ q. false) (same_text id) i ≡ read_by_rates id later i
list_by_rates id later e the_clock = sym e
list_by_rates id later e the_catalogue = refl
list_by_rates id later e (a_row key) = sym e
list_by_rates id later e (a_list q) =
    sym (or-false (same_text id q)) ∙ ap (λ (b : Bool). same_text id q || b) (sym e)

first_only : (x y : Bool) → y ≡ false → ((x && true) || y) ≡ x
first_only true y e = refl
first_only false y e = e

rest_only : (x y : Bool) → ((x && false) || y) ≡ y
rest_only true y = refl
rest_only false y = refl

-- a plan meets an open regulation exactly if it is subject to it
meets_each : (plan : FlightPlan) (id : Text) (es : List (Text × Measure)) → AreInOrder es
    → list_any (λ (r : Regulation). is_some (subject plan r) && same_text r.id id)
    (map (λ (e : Text × Measure). regulation e.0 e.1) es)
    ≡ option_map_or (λ (y : Measure). is_some (subject plan (regulation id y))) (at_name es id) false
unfolding IsStrictlySortedBy
meets_each plan id [] h = refl
meets_each plan id (e ∷ es) h =
    let test : Regulation → Bool = λ r. is_some (subject plan r) && same_text r.id id in
    let rest : Bool = list_any test (map (λ (f : Text × Measure). regulation f.0 f.1) es) in
    let found : Option Measure → Bool =
    λ w. option_map_or (λ (y : Measure). is_some (subject plan (regulation id y))) w false in
    elim (is_eq (text_cmp id e.0)) as (λ b. is_eq (text_cmp id e.0) ≡ b
    → (test (regulation e.0 e.1) || rest) ≡ found (cond b (Some e.1) (at_name es id))) [
      | true ↦ λ p.
          let name : id ≡ e.0 = same_name id e.0 p in
          let none : rest ≡ false =
          meets_each plan id es h.1
          ∙ ap found (at_above id es (subst (λ (q : Text). Above q es) (sym name) h.0)) in
          let same : same_text e.0 id ≡ true =
          subst (λ (q : Text). same_text q id ≡ true) name (nat_list_eq_equiv.refl id) in
          ap (λ (b : Bool). (is_some (subject plan (regulation e.0 e.1)) && b) || rest) same
          ∙ first_only (is_some (subject plan (regulation e.0 e.1))) rest none
          ∙ ap (λ (q : Text). is_some (subject plan (regulation q e.1))) (sym name)
      | false ↦ λ p.
          ap (λ (b : Bool). (is_some (subject plan (regulation e.0 e.1)) && b) || rest) (sym (same_test e.0 id) ∙ p)
          ∙ rest_only (is_some (subject plan (regulation e.0 e.1))) rest
          ∙ meets_each plan id es h.1
    ] refl

module _ {V : Type 0} (item_of : V → Item) (stamp_of : V → ℕ) (vs : Versions V) (order : AreInOrder vs.rows)
    (well : IsGoodBoard (board_state item_of stamp_of vs)) where
  abbrev here : State
  here = shown_state item_of vs

  abbrev regs : List Regulation
  regs = regulations_of (item_of vs.catalogue)

  row_is : (key : Text) → row_at item_of vs key ≡ state.row_of here key
  row_is key = sym (at-kept (λ (v : V). row_of (item_of v)) key vs.rows order)

  meets_is : (plan : FlightPlan) (id : Text) → meets regs plan id ≡ is_subject here plan id
  meets_is plan id =
      ap (λ (rs : List Regulation). meets rs plan id) (sym well.catalogue_is)
      ∙ meets_each plan id here.regs well.good.regs_in_order

  meets_row : (id : Text) (w : Option Row) →
      meets_if regs (option_map (λ (r : Row). r.plan) w) id
      ≡ option_map_or (λ (r : Row). is_subject here r.plan id) w false
  meets_row id None = refl
  meets_row id (Some r) = meets_is r.plan id

  old_lists : (key id : Text) → meets_if regs (plan_at item_of vs key) id ≡ is_list_of here key id
  old_lists key id =
      meets_row id (row_at item_of vs key)
      ∙ ap (λ (w : Option Row). option_map_or (λ (r : Row). is_subject here r.plan id) w false) (row_is key)

  pub file_reads : (plan : FlightPlan) (i : ItemName) →
      name_test true true (same_text plan.key) (meets_either regs None (Some plan)) i
      ≡ reads here (File plan) i
  file_reads plan the_clock = refl
  file_reads plan the_catalogue = refl
  file_reads plan (a_row q) = refl
  file_reads plan (a_list id) = meets_is plan id

  pub amend_reads : (plan : FlightPlan) (i : ItemName) →
      name_test true true (same_text plan.key) (meets_either regs (plan_at item_of vs plan.key) (Some plan)) i
      ≡ reads here (Amend plan) i
  amend_reads plan the_clock = refl
  amend_reads plan the_catalogue = refl
  amend_reads plan (a_row q) = refl
  amend_reads plan (a_list id) = λ j. old_lists plan.key id j || meets_is plan id j

  pub cancel_reads : (key : Text) (i : ItemName) →
      name_test false true (same_text key) (meets_either regs (plan_at item_of vs key) None) i
      ≡ reads here (Cancel key) i
  cancel_reads key the_clock = refl
  cancel_reads key the_catalogue = refl
  cancel_reads key (a_row q) = refl
  cancel_reads key (a_list id) = or-false _ ∙ old_lists key id

  pub exempt_reads : (key : Text) (i : ItemName) →
      name_test false true (same_text key) (meets_either regs (plan_at item_of vs key) None) i
      ≡ reads here (Exempt key) i
  exempt_reads key the_clock = refl
  exempt_reads key the_catalogue = refl
  exempt_reads key (a_row q) = refl
  exempt_reads key (a_list id) = or-false _ ∙ old_lists key id

  pub revise_reads : (key : Text) (i : ItemName) →
      name_test true true (same_text key) (meets_either regs (plan_at item_of vs key) None) i
      ≡ reads here (Revise key) i
  revise_reads key the_clock = refl
  revise_reads key the_catalogue = refl
  revise_reads key (a_row q) = refl
  revise_reads key (a_list id) = or-false _ ∙ old_lists key id

  -- a later end than the catalogue has is a later end than that of the open regulation
  extends_is : (id : Text) (profile : List Period) → extends_in regs id profile ≡ extends here id profile
  extends_is id profile =
      ap (λ (rs : List Regulation). extends_in rs id profile) (sym well.catalogue_is)
      ∙ ap later_than (at-catalogue here.regs id)
      ∙ by (state.measure_of here id)
    where
      later_than : Option Regulation → Bool
      later_than w = option_map_or (λ (r : Regulation). nat_lt r.end (end_of profile)) w false

      by : (w : Option Measure) → later_than (option_map (regulation id) w)
          ≡ option_map_or (λ (measure : Measure). ends_later profile measure.profile) w false
      by None = refl
      by (Some measure) = refl

  pub rates_reads : (id : Text) (profile : List Period) (i : ItemName) →
      read_by_rates id (extends_in regs id profile) i ≡ reads here (Rates id profile) i
  rates_reads id profile the_clock = extends_is id profile
  rates_reads id profile the_catalogue = refl
  rates_reads id profile (a_row q) = extends_is id profile
  rates_reads id profile (a_list q) = ap (λ (b : Bool). same_text id q || b) (extends_is id profile)

  other_side : (a b : Text) → same_text a b ≡ same_text b a
  other_side a b = nat_list_eq_equiv.symm a b

  governed : (q : Text) (w : Option Text) → is_of w q ≡ option_map_or (same_text q) w false
  governed q None = refl
  governed q (Some id) = other_side id q

  governed_row : (q : Text) (w : Option Row) →
      is_of (option_and_then (λ (r : Row). r.governing) w) q
      ≡ option_map_or (is_governed_by q) w false
  governed_row q None = refl
  governed_row q (Some r) = governed q r.governing

  governs_is : (key id : Text) → is_of (governing_at item_of vs key) id ≡ governs here id key
  governs_is key id =
      governed_row id (row_at item_of vs key)
      ∙ ap (λ (w : Option Row). option_map_or (is_governed_by id) w false) (row_is key)

  pub show_reads : (key : Text) (i : ItemName) →
      name_test false false (same_text key) (is_of (governing_at item_of vs key)) i
      ≡ reads here (Show key) i
  show_reads key the_clock = refl
  show_reads key the_catalogue = refl
  show_reads key (a_row q) = refl
  show_reads key (a_list id) = governs_is key id

  pub swap_reads : (key other : Text) (i : ItemName) →
      name_test true false (λ q. same_text key q || same_text other q)
      (λ q. is_of (governing_at item_of vs key) q || is_of (governing_at item_of vs other) q) i
      ≡ reads here (Swap key other) i
  swap_reads key other the_clock = refl
  swap_reads key other the_catalogue = refl
  swap_reads key other (a_row q) = refl
  swap_reads key other (a_list id) = λ j. governs_is key id j || governs_is other id j

  -- the flights that are forced in a list, by the list of the state and its rows
  forced_is : (s t : Text → Bool) → ((k : Text) → s k ≡ t k) → (id : Text) →
      has_forced s (list_at item_of vs id)
      ≡ option_map_or (λ (l : Listing). list_any (λ (e : Text × Stance). is_forced e.1 && t e.0) l.flights)
      (list_of here id) false
  forced_is s t same id = λ j.
      option_map_or (λ (l : Listing). list_any (λ (e : Text × Stance). is_forced e.1 && same e.0 j) l.flights)
      (sym (well.list_is id) j) false

  pub list_reads : (id : Text) (i : ItemName) →
      name_test false true (forced_at item_of vs id) (λ q. same_text id q || governs_forced_at item_of vs id q) i
      ≡ reads here (ListOf id) i
  list_reads id the_clock = refl
  list_reads id the_catalogue = refl
  list_reads id (a_row q) = forced_is (λ k. same_text k q) (λ k. same_text q k) (λ k. other_side k q) id
  list_reads id (a_list q) =
      ap (λ (b : Bool). same_text id q || b)
      (forced_is (λ k. is_of (governing_at item_of vs k) q) (λ k. governs here q k) (λ k. governs_is k q) id)
