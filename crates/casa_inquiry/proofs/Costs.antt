-- what a list costs, row by row, and in whichever order its rows come
use Rattle.std.proofs.Common.{◌≡◌, ℕ, ◌+◌, ◌≤◌, List, [], ◌∷◌, ◌++◌, Bool, true, false, cond, length, map, max, Option, None, Some, refl, sym, ap, ◌∙◌, suc, arith}
use Rattle.std.specs.Prelude.{filter, not, is_some}
use Rattle.std.specs.List.{sum_by}
use Rattle.std.proofs.lemmas.List.Sums.{sum_by-cons}
use Rattle.casa_filing.specs.Text.{Text}
use Rattle.casa_flight.specs.declared.reply.Kind.{Kind}
use Rattle.casa_flight.specs.declared.reply.Kind.TheVariants.{Pre, Issued as IssuedKind, Forced as ForcedKind}
use Rattle.casa_flight.specs.declared.reply.ListRow.{ListRow}
use Rattle.casa_flight.specs.declared.row.Stance.{Stance}
use Rattle.casa_flight.specs.declared.row.Stance.TheVariants.{Competing, Issued, Forced}
use Rattle.casa_flight.specs.declared.state.State.{State}
use Rattle.casa_flight.specs.Listing.{Listing, sorted_by}
use Rattle.casa_flight.specs.Replies.{is_row_before, list_rows, row_in}
use Rattle.casa_inquiry.specs.declared.summary.Cost.{Cost}
use Rattle.casa_inquiry.specs.declared.summary.GovernedFlight.{GovernedFlight}
use Rattle.casa_inquiry.specs.Summary.{AreAtMost, cost, count, delay, governed_as, governed_delays, greatest, is_forced, is_governed, is_issued, is_over, row_told, with_flight}
use Rattle.casa_inquiry.proofs.Ordered.{count-in_order, delays-in_order, longest-in_order}
use Rattle.casa_inquiry.proofs.Summed.{count-append, delays-append, longest-append}

-- so the order of its rows does not count for what a list costs
cost-in_order : (slots : ℕ) (precedes : ListRow → ListRow → Bool) (rows : List ListRow) → cost slots (sorted_by precedes rows) ≡ cost slots rows
cost-in_order slots precedes rows =
    λ i. record {
      slots = slots;
      governed = count-in_order precedes rows is_governed i;
      issued = count-in_order precedes rows is_issued i;
      forced = count-in_order precedes rows is_forced i;
      over = count-in_order precedes rows is_over i;
      delay = delays-in_order precedes rows i;
      longest = longest-in_order precedes rows i;
    }

-- rows that are not forced are the same in each state
same_rows : (is_so : ListRow → Bool) (m : State) (l : Listing) → ((n : State) (key : Text) (eto : ℕ) → is_so (row_in n l key (Forced eto)) ≡ false)
    → (es : List (Text × Stance)) → filter is_so (map (λ (e : Text × Stance). row_in m l e.0 e.1) es) ≡ filter is_so (map (row_told l) es)
same_rows is_so m l none [] = refl
same_rows is_so m l none ((key, Competing eto) ∷ es) =
    let row : ListRow = row_in m l key (Competing eto) in
    ap (λ (rs : List ListRow). cond (is_so row) (row ∷ rs) rs) (same_rows is_so m l none es)
same_rows is_so m l none ((key, Issued eto cto) ∷ es) =
    let row : ListRow = row_in m l key (Issued eto cto) in
    ap (λ (rs : List ListRow). cond (is_so row) (row ∷ rs) rs) (same_rows is_so m l none es)
same_rows is_so m l none ((key, Forced eto) ∷ es) = rw (none m key eto, none _ key eto) (same_rows is_so m l none es)

-- and of the others there are as many
as_many_forced : (m : State) (l : Listing) (es : List (Text × Stance))
    → count is_forced (map (λ (e : Text × Stance). row_in m l e.0 e.1) es) ≡ count is_forced (map (row_told l) es)
as_many_forced m l [] = refl
as_many_forced m l ((key, Competing eto) ∷ es) = as_many_forced m l es
as_many_forced m l ((key, Issued eto cto) ∷ es) = as_many_forced m l es
as_many_forced m l ((key, Forced eto) ∷ es) = ap (λ (n : ℕ). suc n) (as_many_forced m l es)

-- so a list costs the same by its reply in each state
pub cost-told : (slots : ℕ) (m : State) (l : Listing) → cost slots (map (row_told l) l.flights) ≡ cost slots (list_rows m l)
cost-told slots m l =
    let told : List ListRow = map (row_told l) l.flights in
    let governed = same_rows is_governed m l (λ n key eto. refl) l.flights in
    let issued = same_rows is_issued m l (λ n key eto. refl) l.flights in
    let over = same_rows is_over m l (λ n key eto. refl) l.flights in
    let forced = as_many_forced m l l.flights in
    let alike : cost slots (map (λ (e : Text × Stance). row_in m l e.0 e.1) l.flights) ≡ cost slots told = λ i. record {
      slots = slots;
      governed = length (governed i);
      issued = length (issued i);
      forced = forced i;
      over = length (over i);
      delay = sum_by delay (governed i);
      longest = greatest (map delay (governed i));
    } in
    sym (cost-in_order slots is_row_before (map (λ (e : Text × Stance). row_in m l e.0 e.1) l.flights) ∙ alike)

-- what a row more costs
one_if : {X : Type 0} (b : Bool) (x : X) → length (cond b (x ∷ []) []) ≡ cond b 1 0
one_if true x = refl
one_if false x = refl

more_of_kind : (slots : ℕ) (rows : List ListRow) (row : ListRow) (kind : Kind)
    → cost slots (rows ++ (record row { kind = kind }) ∷ []) ≡ with_flight (cost slots rows) (governed_as (record row { kind = kind }))
more_of_kind slots rows row Pre =
    let more : ListRow = record row { kind = Pre } in
    let governed : count is_governed (rows ++ more ∷ []) ≡ count is_governed rows + 1 = omega (arith, count-append is_governed rows (more ∷ [])) in
    let issued : count is_issued (rows ++ more ∷ []) ≡ count is_issued rows + 0 = omega (arith, count-append is_issued rows (more ∷ [])) in
    let forced : count is_forced (rows ++ more ∷ []) ≡ count is_forced rows = omega (arith, count-append is_forced rows (more ∷ [])) in
    let over : count is_over (rows ++ more ∷ []) ≡ count is_over rows + cond (not (is_some row.slot)) 1 0 =
    count-append is_over rows (more ∷ []) ∙ ap (λ (n : ℕ). count is_over rows + n) (one_if (not (is_some row.slot)) more) in
    let delays : sum_by delay (filter is_governed (rows ++ more ∷ [])) ≡ sum_by delay (filter is_governed rows) + delay more =
    omega (arith, delays-append rows (more ∷ []), sum_by-cons delay more []) in
    let longest : greatest (governed_delays (rows ++ more ∷ [])) ≡ max (greatest (governed_delays rows)) (delay more) =
    omega (arith, longest-append rows (more ∷ [])) in
    λ i. record {
      slots = slots;
      governed = governed i;
      issued = issued i;
      forced = forced i;
      over = over i;
      delay = delays i;
      longest = longest i;
    }
more_of_kind slots rows row IssuedKind =
    let more : ListRow = record row { kind = IssuedKind } in
    let governed : count is_governed (rows ++ more ∷ []) ≡ count is_governed rows + 1 = omega (arith, count-append is_governed rows (more ∷ [])) in
    let issued : count is_issued (rows ++ more ∷ []) ≡ count is_issued rows + 1 = omega (arith, count-append is_issued rows (more ∷ [])) in
    let forced : count is_forced (rows ++ more ∷ []) ≡ count is_forced rows = omega (arith, count-append is_forced rows (more ∷ [])) in
    let over : count is_over (rows ++ more ∷ []) ≡ count is_over rows + cond (not (is_some row.slot)) 1 0 =
    count-append is_over rows (more ∷ []) ∙ ap (λ (n : ℕ). count is_over rows + n) (one_if (not (is_some row.slot)) more) in
    let delays : sum_by delay (filter is_governed (rows ++ more ∷ [])) ≡ sum_by delay (filter is_governed rows) + delay more =
    omega (arith, delays-append rows (more ∷ []), sum_by-cons delay more []) in
    let longest : greatest (governed_delays (rows ++ more ∷ [])) ≡ max (greatest (governed_delays rows)) (delay more) =
    omega (arith, longest-append rows (more ∷ [])) in
    λ i. record {
      slots = slots;
      governed = governed i;
      issued = issued i;
      forced = forced i;
      over = over i;
      delay = delays i;
      longest = longest i;
    }
more_of_kind slots rows row ForcedKind =
    let more : ListRow = record row { kind = ForcedKind } in
    let governed : count is_governed (rows ++ more ∷ []) ≡ count is_governed rows = omega (arith, count-append is_governed rows (more ∷ [])) in
    let issued : count is_issued (rows ++ more ∷ []) ≡ count is_issued rows = omega (arith, count-append is_issued rows (more ∷ [])) in
    let forced : count is_forced (rows ++ more ∷ []) ≡ count is_forced rows + 1 = omega (arith, count-append is_forced rows (more ∷ [])) in
    let over : count is_over (rows ++ more ∷ []) ≡ count is_over rows = omega (arith, count-append is_over rows (more ∷ [])) in
    let delays : sum_by delay (filter is_governed (rows ++ more ∷ [])) ≡ sum_by delay (filter is_governed rows) =
    omega (arith, delays-append rows (more ∷ [])) in
    let longest : greatest (governed_delays (rows ++ more ∷ [])) ≡ greatest (governed_delays rows) =
    omega (arith, longest-append rows (more ∷ [])) in
    λ i. record {
      slots = slots;
      governed = governed i;
      issued = issued i;
      forced = forced i;
      over = over i;
      delay = delays i;
      longest = longest i;
    }

pub cost-more : (slots : ℕ) (rows : List ListRow) (row : ListRow) → cost slots (rows ++ row ∷ []) ≡ with_flight (cost slots rows) (governed_as row)
cost-more slots rows row = more_of_kind slots rows row row.kind

-- a flight more is one more at most
at_most_one : (b : Bool) → cond b 1 0 ≤ 1
at_most_one true = omega arith
at_most_one false = omega arith

pub few-more : (most : ℕ) (cost : Cost) (flight : Option GovernedFlight) → AreAtMost most cost → AreAtMost (most + 1) (with_flight cost flight)
few-more most cost None few = record {
  slots = omega (arith, few.slots);
  governed = omega (arith, few.governed);
  issued = omega (arith, few.issued);
  forced = omega (arith, few.forced);
  over = omega (arith, few.over);
}
few-more most cost (Some flight) few = record {
  slots = omega (arith, few.slots);
  governed = omega (arith, few.governed);
  issued = omega (arith, few.issued, at_most_one flight.issued);
  forced = omega (arith, few.forced);
  over = omega (arith, few.over, at_most_one flight.over);
}
