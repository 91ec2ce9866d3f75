-- the competitors of a list, the flights over a regulation and the rows of a list: who is there, and in which order
use Rattle.std.proofs.Common.{◌≡◌, ◌↔◌, ℕ, List, [], ◌∷◌, map, Bool, true, false, refl, sym, ap, subst, ◌∙◌, Option, None, Some}
use Rattle.std.specs.Option.{option_map, option_map_or}
use Rattle.std.specs.List.{AllPairs, Contains, filter_map}
use Rattle.casa_flight.specs.declared.comp.Comp.{Comp}
use Rattle.casa_filing.specs.declared.regulation.Measure.{Measure}
use Rattle.casa_filing.specs.declared.regulation.Regulation.{Regulation}
use Rattle.casa_flight.specs.declared.reply.ListRow.{ListRow}
use Rattle.casa_flight.specs.declared.row.Row.{Row}
use Rattle.casa_flight.specs.declared.row.Stance.{Stance}
use Rattle.casa_flight.specs.declared.row.Stance.TheVariants.{Competing, Issued, Forced}
use Rattle.casa_flight.specs.declared.state.State.{State}
use Rattle.casa_filing.specs.Text.{Text, at_name}
use Rattle.casa_filing.specs.Subject.{subject}
use Rattle.casa_flight.specs.State.{measure_of}
use Rattle.casa_flight.specs.Listing.{Listing, stance_in, listing, list_of, sorted_by, is_before, competitor, competitors, stance_of}
use Rattle.casa_flight.specs.Replies.{row_in, is_row_before, list_rows}
use Rattle.casa_flight.specs.Steps.{flights_over}
use Rattle.casa_flight.specs.Good.{AreInOrder}
use Rattle.casa_laws.proofs.Kept.{sorted-kept}
use Rattle.casa_laws.proofs.GoodRegs.{comp_if, comp_if-key}
use Rattle.casa_flight.proofs.PutBy.{PairsByRecursion}
use Rattle.casa_laws.proofs.InOrder.{HasName, pairs_from_recursion, contains-planned, turn-planned}

pub list_sorted : (m : State) (id : Text) (l : Listing) → AreInOrder m.rows → list_of m id ≡ Some l → AreInOrder l.flights
list_sorted m id l sorted =
    elim (measure_of m id) as (λ (w : Option Measure). option_map (listing m.rows id) w ≡ Some l → AreInOrder l.flights) [
      | None ↦ λ h. cc
      | Some measure ↦ λ h.
          let here : listing m.rows id measure ≡ l = cc in
          subst (λ (k : Listing). AreInOrder k.flights) here (sorted-kept (stance_in id measure) m.rows sorted)
    ]

-- the competitors of a list
pub competitor_key : HasName (λ (c : Comp). c.key) (λ (e : Text × Stance). competitor e.0 e.1)
competitor_key (key, Competing eto) c h = sym (ap (λ (w : Option Comp). option_map_or (λ (d : Comp). d.key) w key) h)
competitor_key (key, Issued eto cto) c h = cc
competitor_key (key, Forced eto) c h = cc

competes : (key : Text) (s : Stance) (c : Comp) → competitor key s ≡ Some c → s ≡ Competing c.eto
competes key (Competing eto) c h = ap (λ (w : Option Comp). option_map_or (λ (d : Comp). Competing d.eto) w (Competing eto)) h
competes key (Issued eto cto) c h = cc
competes key (Forced eto) c h = cc

pub competitors_who : (l : Listing) (c : Comp) → AreInOrder l.flights → Contains (competitors l) c ↔ (stance_of l c.key ≡ Some (Competing c.eto))
competitors_who l c sorted =
    let there = contains-planned (λ (d : Comp). d) (λ (e : Text × Stance). competitor e.0 e.1) competitor_key l.flights sorted c in (
      λ h. let k = there.0 h in k.1 ∙ ap (λ (s : Stance). Some s) (competes c.key k.0 c k.2),
      λ found. there.1 (Competing c.eto, found, refl),
    )

pub competitors_order : (l : Listing) → AreInOrder l.flights → AllPairs (λ (a b : Comp). is_before a b ≡ true) (competitors l)
competitors_order l sorted =
    pairs_from_recursion (λ (a b : Comp). is_before a b ≡ true) (competitors l)
    (turn-planned (λ (d : Comp). d) (λ (e : Text × Stance). competitor e.0 e.1) competitor_key l.flights sorted)

-- the flights that pass a test and are subject to a regulation
abbrev over : (Row → Bool) → Regulation → Text × Row → Option Comp
over test r e = comp_if (test e.1) (subject e.1.plan r) e.0

is_over : (b : Bool) (o : Option ℕ) (key : Text) (c : Comp) → comp_if b o key ≡ Some c → (b ≡ true) × (o ≡ Some c.eto)
is_over true (Some eto) key c h = (refl, ap (λ (w : Option Comp). option_map (λ (d : Comp). d.eto) w) h)
is_over true None key c h = cc
is_over false o key c h = cc

over_key : (test : Row → Bool) (r : Regulation) → HasName (λ (c : Comp). c.key) (over test r)
over_key test r e c h = comp_if-key (test e.1) (subject e.1.plan r) e.0 c h

pub over_who : (test : Row → Bool) (r : Regulation) (rows : List (Text × Row)) (c : Comp) → AreInOrder rows
    → Contains (flights_over test r rows) c ↔ (row : Row) × (at_name rows c.key ≡ Some row) × (test row ≡ true) × (subject row.plan r ≡ Some c.eto)
over_who test r rows c sorted =
    let there = contains-planned (λ (d : Comp). d) (over test r) (over_key test r) rows sorted c in (
      λ h. let k = there.0 h in let is = is_over (test k.0) (subject k.0.plan r) c.key c k.2 in (k.0, k.1, is.0, is.1),
      λ k. there.1 (k.0, k.1, λ i. comp_if (k.2 i) (k.3 i) c.key),
    )

pub over_order : (test : Row → Bool) (r : Regulation) (rows : List (Text × Row)) → AreInOrder rows → AllPairs (λ (a b : Comp). is_before a b ≡ true) (flights_over test r rows)
over_order test r rows sorted =
    pairs_from_recursion (λ (a b : Comp). is_before a b ≡ true) (flights_over test r rows)
    (turn-planned (λ (d : Comp). d) (over test r) (over_key test r) rows sorted)

-- the rows of a list
map-kept : {X Y : Type 0} (f : X → Y) (xs : List X) → map f xs ≡ filter_map (λ (x : X). Some (f x)) xs
map-kept f [] = refl
map-kept {X} {Y} f (x ∷ xs) = ap (λ (ys : List Y). f x ∷ ys) (map-kept f xs)

row_key : (m : State) (l : Listing) (key : Text) (s : Stance) → (row_in m l key s).key ≡ key
row_key m l key (Competing eto) = refl
row_key m l key (Issued eto cto) = refl
row_key m l key (Forced eto) = refl

abbrev shown : State → Listing → Text × Stance → Option ListRow
shown m l e = Some (row_in m l e.0 e.1)

shown_key : (m : State) (l : Listing) → HasName (λ (row : ListRow). row.key) (shown m l)
shown_key m l e row h = sym (ap (λ (w : Option ListRow). option_map_or (λ (x : ListRow). x.key) w e.0) h) ∙ row_key m l e.0 e.1

-- a row is ordered like a flight at its calculated time over
abbrev at_cto : ListRow → Comp
at_cto row = record { eto = row.cto; key = row.key }

rows_are : (m : State) (l : Listing) → list_rows m l ≡ sorted_by is_row_before (filter_map (shown m l) l.flights)
rows_are m l = ap (sorted_by is_row_before) (map-kept (λ (e : Text × Stance). row_in m l e.0 e.1) l.flights)

given : {S X : Type 0} (f : S → X) (o : Option S) (x : X) → option_map f o ≡ Some x → (s : S) × (o ≡ Some s) × (Some (f s) ≡ Some x)
given f None x h = cc
given f (Some s) x h = (s, refl, h)

pub rows_who : (m : State) (l : Listing) (row : ListRow) → AreInOrder l.flights → Contains (list_rows m l) row ↔ (option_map (row_in m l row.key) (stance_of l row.key) ≡ Some row)
rows_who m l row sorted =
    let there = contains-planned at_cto (shown m l) (shown_key m l) l.flights sorted row in (
      λ h. let k = there.0 (subst (λ (rows : List ListRow). Contains rows row) (rows_are m l) h) in ap (option_map (row_in m l row.key)) k.1 ∙ k.2,
      λ h. subst (λ (rows : List ListRow). Contains rows row) (sym (rows_are m l)) (there.1 (given (row_in m l row.key) (stance_of l row.key) row h)),
    )

pub rows_order : (m : State) (l : Listing) → AreInOrder l.flights → AllPairs (λ (a b : ListRow). is_row_before a b ≡ true) (list_rows m l)
rows_order m l sorted =
    pairs_from_recursion (λ (a b : ListRow). is_row_before a b ≡ true) (list_rows m l)
    (subst (PairsByRecursion (λ (a b : ListRow). is_row_before a b ≡ true)) (sym (rows_are m l)) (turn-planned at_cto (shown m l) (shown_key m l) l.flights sorted))
