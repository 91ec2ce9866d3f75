-- the rows of a list in their order, made in the order in which its flights stand
use Rattle.std.proofs.Common.{◌≡◌, ◌+◌, List, [], ◌∷◌, map, false, refl, sym, ap, subst, ◌∙◌, Some, arith}
use Rattle.std.specs.Option.{option_map}
use Rattle.std.specs.List.{AllByRecursion, Contains}
use Rattle.std.specs.List.Sorted.{IsPermutation}
use Rattle.std.proofs.lemmas.List.Elements.{All-contains, All-from_recursion}
use Rattle.std.proofs.lemmas.List.Sorted.{IsPermutation-trans, IsPermutation-map}
use Rattle.std.proofs.lemmas.Option.{same_Some}
use Rattle.casa_flight.specs.declared.comp.Comp.{Comp}
use Rattle.casa_flight.specs.declared.reply.ListRow.{ListRow}
use Rattle.casa_flight.specs.declared.row.Stance.{Stance}
use Rattle.casa_flight.specs.declared.row.Stance.TheVariants.{Competing, Issued, Forced}
use Rattle.casa_filing.specs.Text.{Text}
use Rattle.casa_flight.specs.Good.{AreInOrder}
use Rattle.casa_flight.specs.Listing.{Listing, sorted_by, stance_of}
use Rattle.casa_flight.specs.Replies.{is_row_before}
use Rattle.casa_filing.proofs.Entries.{each_found}
use Rattle.casa_flight.proofs.Planning.{rows_order, tied_comps}
use Rattle.casa_flight.proofs.Sorting.{ranked-in_order, sorted_of_same}
use Rattle.casa_laws.proofs.InOrder.{pairs_from_recursion}
use Rattle.casa_slots.specs.declared.standing.Standing.{Standing}
use Rattle.casa_list.specs.Standings.{standing_as}
use Rattle.casa_plan_spec.specs.Sight.{Sight}
use Rattle.casa_plan_spec.specs.Look.{row_shown, rows_shown}
use Rattle.casa_plan.specs.Rows.{row_as, flights_told}
use Rattle.casa_list.proofs.Ordered.{in_order_moved}
use Rattle.casa_plan.proofs.Members.{told_moved}

-- a flight as it stands has the row that its stance gives it
abbrev row_of : Sight → Listing → Comp × Standing → ListRow
row_of v l f = row_as v l f.0 f.1

row_same : (v : Sight) (l : Listing) (key : Text) (s : Stance) → row_of v l (standing_as l key s) ≡ row_shown v l key s
row_same v l key (Competing eto) = refl
row_same v l key (Issued eto cto) = refl
row_same v l key (Forced eto) = refl

rows_same : (v : Sight) (l : Listing) (es : List (Text × Stance)) → map (row_of v l) (map (λ (e : Text × Stance). standing_as l e.0 e.1) es) ≡ map (λ (e : Text × Stance). row_shown v l e.0 e.1) es
rows_same v l [] = refl
rows_same v l (e ∷ es) = λ i. row_same v l e.0 e.1 i ∷ rows_same v l es i

rows_moved : (v : Sight) (l : Listing) → AreInOrder l.flights → IsPermutation (map (λ (e : Text × Stance). row_shown v l e.0 e.1) l.flights) (map (row_of v l) (flights_told l))
rows_moved v l sorted =
    subst (λ (rows : List ListRow). IsPermutation rows (map (row_of v l) (flights_told l))) (rows_same v l l.flights)
    (IsPermutation-map (row_of v l) _ _ (told_moved l sorted))

-- each row is that of the flight with its key
abbrev IsOwn : Sight → Listing → ListRow → Type 0
IsOwn v l row = option_map (row_shown v l row.key) (stance_of l row.key) ≡ Some row

row_own : (v : Sight) (l : Listing) (key : Text) (s : Stance) → stance_of l key ≡ Some s → IsOwn v l (row_shown v l key s)
row_own v l key (Competing eto) found = ap (option_map (row_shown v l key)) found
row_own v l key (Issued eto cto) found = ap (option_map (row_shown v l key)) found
row_own v l key (Forced eto) found = ap (option_map (row_shown v l key)) found

rows_own : (v : Sight) (l : Listing) (es : List (Text × Stance)) → AllByRecursion (λ (e : Text × Stance). stance_of l e.0 ≡ Some e.1) es → AllByRecursion (IsOwn v l) (map (λ (e : Text × Stance). row_shown v l e.0 e.1) es)
rows_own v l [] h = tt
rows_own v l (e ∷ es) h = (row_own v l e.0 e.1 h.0, rows_own v l es h.1)

-- so rows of which neither comes before the other are the same
tied_rows : (v : Sight) (l : Listing) (x y : ListRow) → IsOwn v l x → IsOwn v l y → is_row_before x y ≡ false → is_row_before y x ≡ false → x ≡ y
tied_rows v l x y own other p q =
    let tied : record { eto = x.cto; key = x.key } ≡ record { eto = y.cto; key = y.key } = tied_comps (record { eto = x.cto; key = x.key }) (record { eto = y.cto; key = y.key }) p q in
    let same : x.key ≡ y.key = ap (λ (c : Comp). c.key) tied in
    same_Some x y (sym own ∙ ap (λ (k : Text). option_map (row_shown v l k) (stance_of l k)) same ∙ other)

-- and the rows in their order are those that the list shows, in whichever order they were made
pub rows_alike : (v : Sight) (l : Listing) → AreInOrder l.flights → sorted_by is_row_before (map (row_of v l) (flights_told l)) ≡ rows_shown v l
rows_alike v l sorted =
    let shown : List ListRow = map (λ (e : Text × Stance). row_shown v l e.0 e.1) l.flights in
    let told : List ListRow = map (row_of v l) (flights_told l) in
    let rows : List ListRow = sorted_by is_row_before told in
    let own : (row : ListRow) → Contains shown row → IsOwn v l row =
    λ row. All-contains (IsOwn v l) shown row (All-from_recursion (IsOwn v l) shown (rows_own v l l.flights (each_found l.flights sorted))) in
    let rise = pairs_from_recursion (λ (x y : ListRow). is_row_before y x ≡ false) rows (ranked-in_order is_row_before rows_order told) in
    sorted_of_same is_row_before rows_order shown rows
    (λ x y p q. tied_rows v l x y (own x p) (own y q))
    (λ k d low high. rise k (k + 1) d (omega arith) high)
    (IsPermutation-trans shown told rows (rows_moved v l sorted) (in_order_moved is_row_before told))
