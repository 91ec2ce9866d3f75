-- what is read of rows of crossings, one row after another
use Rattle.std.proofs.Common.{◌≡◌, ◌∙◌, ◌∷◌, ◌++◌, [], ℕ, ◌+◌, ◌≤◌, arith, List, length, map, filter, Bool, true, false, cond, refl, sym, ap, Option, Some, None, append-nil, append_assoc, add-zero}
use Rattle.std.specs.Prelude.{◌&&◌, ◌||◌, option_to_list, if◌then◌else◌}
use Rattle.std.specs.List.{list_any, filter_map, cons_option}
use Rattle.std.proofs.lemmas.List.{map-append}
use Rattle.std.proofs.lemmas.List.Elements.{filter-append, filter_map-append}
use Rattle.std.proofs.lemmas.List.Sums.{count_by-le-length, sum_by-append}
use Rattle.jiff_core.specs.declared.civil.date.Date.{Date}
use Rattle.casa_filing.specs.Text.{Text, same_text}
use Rattle.casa_filing.specs.declared.plan.Crossing.{Crossing}
use Rattle.casa_import.specs.declared.columns.CrossingColumns.{CrossingColumns}
use Rattle.casa_import.specs.declared.crossings.CrossingsRead.{CrossingsRead}
use Rattle.casa_rows.specs.declared.row.Row.{Row}
use Rattle.casa_import.specs.Crossings.{Entry, IsRead, again_behind, entered_again, entries, is_same_entry, left_out_of, made_of, of_flights, of_key, of_no_flight}
use Rattle.casa_import.specs.Fields.{crossing_of}
use Rattle.casa_import.specs.Keyed.{flown}
use Rattle.casa_import.specs.Taking.{Takes, count_again, has_entered}

-- one item more
one : {A : Type 0} (o : Option A) → cons_option o [] ≡ option_to_list o
one None = refl
one (Some x) = refl

made-more : {A : Type 0} (h : Row → Option A) (rows : List Row) (row : Row) → filter_map h (rows ++ row ∷ []) ≡ filter_map h rows ++ option_to_list (h row)
made-more {A} h rows row = filter_map-append h rows (row ∷ []) ∙ ap (λ (xs : List A). filter_map h rows ++ xs) (one (h row))

of_key-append : (key : Text) (es ds : List Entry) → of_key key (es ++ ds) ≡ of_key key es ++ of_key key ds
of_key-append key es ds =
    ap (λ (xs : List Entry). map (λ (e : Entry). e.1) xs) (filter-append (λ (e : Entry). same_text e.0 key) es ds)
    ∙ map-append (λ (e : Entry). e.1) (filter (λ (e : Entry). same_text e.0 key) es) (filter (λ (e : Entry). same_text e.0 key) ds)

-- whether a location is entered already, told by the crossings of the flight
entered_is : (e : Entry) (es : List Entry) → has_entered e (of_key e.0 es) ≡ list_any (is_same_entry e) es
entered_is e [] = refl
entered_is e (d ∷ es) = by (same_text d.0 e.0) (entered_is e es)
  where
    by : (b : Bool) → has_entered e (of_key e.0 es) ≡ list_any (is_same_entry e) es
        → has_entered e (map (λ (x : Entry). x.1) (cond b (d ∷ filter (λ (x : Entry). same_text x.0 e.0) es) (filter (λ (x : Entry). same_text x.0 e.0) es)))
        ≡ ((b && same_text d.1.loc e.1.loc) || list_any (is_same_entry e) es)
    by true h = ap (λ b. same_text d.1.loc e.1.loc || b) h
    by false h = h

again-more : (before es : List Entry) (e : Entry)
    → again_behind before (es ++ e ∷ []) ≡ again_behind before es + (if list_any (is_same_entry e) (before ++ es) then 1 else 0)
again-more before [] e =
    ap (λ n. n + 0) (ap (λ (xs : List Entry). if list_any (is_same_entry e) xs then 1 else 0) (sym (append-nil before)))
    ∙ omega arith
again-more before (d ∷ es) e =
    let first : ℕ = if list_any (is_same_entry d) before then 1 else 0 in
    ap (λ n. first + n) (again-more (before ++ d ∷ []) es e
    ∙ ap (λ (xs : List Entry). again_behind (before ++ d ∷ []) es + (if list_any (is_same_entry e) xs then 1 else 0)) (append_assoc before (d ∷ []) es))
    ∙ omega arith

again-taken : (named : Text → Bool) (es : List Entry) (old : Text → List Crossing) → ((key : Text) → old key ≡ of_key key es) → (o : Option Entry)
    → entered_again es + count_again old (of_flights named (option_to_list o)) ≡ entered_again (es ++ of_flights named (option_to_list o))
again-taken named es old are None = add-zero (entered_again es) ∙ ap entered_again (sym (append-nil es))
again-taken named es old are (Some e) = by (named e.0)
  where
    by : (b : Bool) → entered_again es + count_again old (cond b (e ∷ []) []) ≡ entered_again (es ++ cond b (e ∷ []) [])
    by true =
        ap (λ b. entered_again es + (if b then 1 else 0)) (ap (has_entered e) (are e.0) ∙ entered_is e es)
        ∙ sym (again-more [] es e)
    by false = add-zero (entered_again es) ∙ ap entered_again (sym (append-nil es))

-- a row more
pub read-more : (day : Date) (columns : CrossingColumns) (named : Text → Bool) (rows : List Row) (row : Row) (old new : CrossingsRead)
    → IsRead day columns named rows old → Takes named row (crossing_of day columns row) old new → IsRead day columns named (rows ++ row ∷ []) new
read-more day columns named rows row old new was takes =
    let said = crossing_of day columns row in
    let more : entries day columns (rows ++ row ∷ []) ≡ entries day columns rows ++ option_to_list (made_of said) =
    made-more (λ (r : Row). made_of (crossing_of day columns r)) rows row in
    let flights : of_flights named (entries day columns (rows ++ row ∷ [])) ≡ of_flights named (entries day columns rows) ++ of_flights named (option_to_list (made_of said)) =
    ap (of_flights named) more ∙ filter-append (λ (e : Entry). named e.0) (entries day columns rows) (option_to_list (made_of said)) in
    record {
      crossings = λ key. takes.crossings key
          ∙ ap (λ (cs : List Crossing). cs ++ of_key key (of_flights named (option_to_list (made_of said)))) (was.crossings key)
          ∙ sym (ap (of_key key) flights ∙ of_key-append key (of_flights named (entries day columns rows)) (of_flights named (option_to_list (made_of said))));
      left_out = takes.left_out ∙ ap (λ ls. ls ++ option_to_list (left_out_of row said)) was.left_out
          ∙ sym (made-more (λ (r : Row). left_out_of r (crossing_of day columns r)) rows row);
      of_no_flight = takes.of_no_flight ∙ ap (λ n. n + of_no_flight named (option_to_list (made_of said))) was.of_no_flight
          ∙ sym (ap (of_no_flight named) more ∙ sum_by-append _ (entries day columns rows) (option_to_list (made_of said)));
      entered_again = takes.entered_again
          ∙ ap (λ n. n + count_again (flown old.crossings) (of_flights named (option_to_list (made_of said)))) was.entered_again
          ∙ again-taken named (of_flights named (entries day columns rows)) (flown old.crossings) was.crossings (made_of said)
          ∙ ap entered_again (sym flights);
    }

-- the counts are no higher than the rows are many
length-made : {A : Type 0} (h : Row → Option A) (rows : List Row) → length (filter_map h rows) ≤ length rows
length-made h [] = omega arith
length-made {A} h (row ∷ rows) = by (h row) (length-made h rows)
  where
    by : (o : Option A) → length (filter_map h rows) ≤ length rows → length (cons_option o (filter_map h rows)) ≤ length (row ∷ rows)
    by None le = omega arith
    by (Some x) le = omega arith

again-le-length : (before es : List Entry) → again_behind before es ≤ length es
again-le-length before [] = omega arith
again-le-length before (e ∷ es) = by (list_any (is_same_entry e) before) (again-le-length (before ++ e ∷ []) es)
  where
    by : (b : Bool) → again_behind (before ++ e ∷ []) es ≤ length es → (if b then 1 else 0) + again_behind (before ++ e ∷ []) es ≤ length (e ∷ es)
    by true le = omega arith
    by false le = omega arith

length-flights : (named : Text → Bool) (es : List Entry) → length (of_flights named es) ≤ length es
length-flights named [] = omega arith
length-flights named (e ∷ es) = by (named e.0) (length-flights named es)
  where
    by : (b : Bool) → length (of_flights named es) ≤ length es → length (cond b (e ∷ of_flights named es) (of_flights named es)) ≤ length (e ∷ es)
    by true le = omega arith
    by false le = omega arith

pub of_no_flight-le : (day : Date) (columns : CrossingColumns) (named : Text → Bool) (rows : List Row) (read : CrossingsRead)
    → IsRead day columns named rows read → read.of_no_flight ≤ length rows
of_no_flight-le day columns named rows read is =
    let few : of_no_flight named (entries day columns rows) ≤ length (entries day columns rows) = count_by-le-length _ (entries day columns rows) in
    let made : length (entries day columns rows) ≤ length rows = length-made (λ (r : Row). made_of (crossing_of day columns r)) rows in
    omega (arith, is.of_no_flight)

pub entered_again-le : (day : Date) (columns : CrossingColumns) (named : Text → Bool) (rows : List Row) (read : CrossingsRead)
    → IsRead day columns named rows read → read.entered_again ≤ length rows
entered_again-le day columns named rows read is =
    let few : entered_again (of_flights named (entries day columns rows)) ≤ length (of_flights named (entries day columns rows)) =
    again-le-length [] (of_flights named (entries day columns rows)) in
    let flights = length-flights named (entries day columns rows) in
    let made : length (entries day columns rows) ≤ length rows = length-made (λ (r : Row). made_of (crossing_of day columns r)) rows in
    omega (arith, is.entered_again)
