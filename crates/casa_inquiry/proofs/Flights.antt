-- each flight's delay is told once: in the list that governs it
use Rattle.std.proofs.Common.{◌≡◌, ℕ, ◌+◌, List, [], ◌∷◌, Bool, true, false, cond, map, refl, sym, ap, subst, ◌∙◌, Option, None, Some, MatchOption, arith}
use Rattle.std.proofs.lemmas.Bool.{both_ways}
use Rattle.std.proofs.lemmas.Cmp.{nat_list_eq_equiv}
use Rattle.std.proofs.lemmas.List.Sums.{sum_by-cons}
use Rattle.std.specs.declared.cmp.Ordering.TheVariants.{Less}
use Rattle.std.specs.Ordering.{is_eq}
use Rattle.std.specs.List.{AllByRecursion, cons_option, filter, sum_by}
use Rattle.std.specs.List.Sorted.{IsStrictlySortedBy}
use Rattle.std.specs.Map.{keys_of}
use Rattle.std.specs.Option.{option_and_then, option_map, option_map_or}
use Rattle.casa_filing.specs.declared.regulation.Measure.{Measure}
use Rattle.casa_flight.specs.declared.row.Row.{Row}
use Rattle.casa_flight.specs.declared.row.Stance.{Stance}
use Rattle.casa_flight.specs.declared.state.State.{State}
use Rattle.casa_filing.specs.Text.{Text, at_name, same_text}
use Rattle.casa_flight.specs.Good.{AreInOrder, IsFree, IsGood, IsGoodRow, IsGoverned}
use Rattle.casa_flight.specs.Listing.{Listing, delay_in, delay_of, filter_map_values, list_of, listing, stance, stance_in}
use Rattle.casa_flight.specs.Replies.{kind_of}
use Rattle.casa_filing.specs.Subject.{regulation, subject}
use Rattle.casa_flight.specs.State.{is_governed_by}
use Rattle.casa_filing.proofs.Entries.{itself, named, same_name, text_cmp}
use Rattle.casa_inquiry.specs.Summary.{delays_in, governs, lists_told, total_delay}
use Rattle.casa_inquiry.proofs.Told.{told_delays}

-- what a flight that stands so adds to the delays of its list
abbrev added_as : ℕ → Stance → ℕ
added_as n s = cond (governs (kind_of s)) n 0

-- and what a flight adds to those of a regulation, if it is subject to that
abbrev added : State → Text → Text × Measure → Row → ℕ
added m key e row = option_map_or (added_as (delay_in (listing m.rows e.0 e.1) key)) (stance_in e.0 e.1 row) 0

-- the delays of a list, flight by flight
by_flights : (f : Text → ℕ) (g : Row → Option Stance) (rows : List (Text × Row))
    → sum_by (λ (e : Text × Stance). f e.0) (filter (λ (e : Text × Stance). governs (kind_of e.1)) (filter_map_values g rows))
    ≡ sum_by (λ (r : Text × Row). option_map_or (added_as (f r.0)) (g r.1) 0) rows
by_flights f g [] = refl
by_flights f g (r ∷ rows) =
    let told : Text × Stance → ℕ = λ e. f e.0 in
    let is_governed : Text × Stance → Bool = λ e. governs (kind_of e.1) in
    let adds : Text × Row → ℕ = λ r. option_map_or (added_as (f r.0)) (g r.1) 0 in
    let rest : List (Text × Stance) = filter_map_values g rows in
    let later = by_flights f g rows in
    elim (g r.1) as (λ (o : Option Stance). g r.1 ≡ o
    → sum_by told (filter is_governed (cons_option (option_map (λ (s : Stance). (r.0, s)) o) rest)) ≡ sum_by adds (r ∷ rows)) [
      | None ↦ λ e.
          let here : adds r ≡ 0 = ap (λ (o : Option Stance). option_map_or (added_as (f r.0)) o 0) e in
          omega (arith, sum_by-cons adds r rows, here, later)
      | Some s ↦ λ e.
          let here : adds r ≡ added_as (f r.0) s = ap (λ (o : Option Stance). option_map_or (added_as (f r.0)) o 0) e in
          elim (governs (kind_of s)) as (λ (b : Bool). governs (kind_of s) ≡ b
          → sum_by told (cond b ((r.0, s) ∷ filter is_governed rest) (filter is_governed rest)) ≡ sum_by adds (r ∷ rows)) [
            | true ↦ λ yes.
                let all : added_as (f r.0) s ≡ f r.0 = ap (λ (b : Bool). cond b (f r.0) 0) yes in
                omega (arith, sum_by-cons told (r.0, s) (filter is_governed rest), sum_by-cons adds r rows, here, all, later)
            | false ↦ λ no.
                let none : added_as (f r.0) s ≡ 0 = ap (λ (b : Bool). cond b (f r.0) 0) no in
                omega (arith, sum_by-cons adds r rows, here, none, later)
          ] refl
    ] refl

-- sums of sums come to the same in either order
sum_of_none : {X : Type 0} (xs : List X) → sum_by (λ (x : X). 0) xs ≡ 0
sum_of_none [] = refl
sum_of_none {X} (x ∷ xs) = omega (arith, sum_by-cons (λ (x : X). 0) x xs, sum_of_none xs)

sum_of_both : {X : Type 0} (f g : X → ℕ) (xs : List X) → sum_by (λ (x : X). f x + g x) xs ≡ sum_by f xs + sum_by g xs
sum_of_both f g [] = refl
sum_of_both {X} f g (x ∷ xs) =
    omega (arith, sum_by-cons (λ (x : X). f x + g x) x xs, sum_by-cons f x xs, sum_by-cons g x xs, sum_of_both f g xs)

exchanged : {X Y : Type 0} (g : X → Y → ℕ) (xs : List X) (ys : List Y)
    → sum_by (λ (x : X). sum_by (g x) ys) xs ≡ sum_by (λ (y : Y). sum_by (λ (x : X). g x y) xs) ys
exchanged {X} {Y} g [] ys = sym (sum_of_none ys)
exchanged {X} {Y} g (x ∷ xs) ys =
    let rest : Y → ℕ = λ y. sum_by (λ (x : X). g x y) xs in
    let each : (λ (y : Y). sum_by (λ (x : X). g x y) (x ∷ xs)) ≡ (λ (y : Y). g x y + rest y) =
    λ i y. sum_by-cons (λ (x : X). g x y) x xs i in
    let parted : sum_by (λ (y : Y). sum_by (λ (x : X). g x y) (x ∷ xs)) ys ≡ sum_by (g x) ys + sum_by rest ys =
    ap (λ (f : Y → ℕ). sum_by f ys) each ∙ sum_of_both (g x) rest ys in
    omega (arith, sum_by-cons (λ (x : X). sum_by (g x) ys) x xs, exchanged g xs ys, parted)

-- a regulation that does not govern a flight has no delay of it
ungoverned : (m : State) (key : Text) (e : Text × Measure) (row : Row) → is_governed_by e.0 row ≡ false → added m key e row ≡ 0
ungoverned m key e row not_by =
    let n : ℕ = delay_in (listing m.rows e.0 e.1) key in
    ap (λ (b : Bool). option_map_or (added_as n) (option_map (stance b row.issued) (subject row.plan (regulation e.0 e.1))) 0) not_by
    ∙ forced n row.issued (subject row.plan (regulation e.0 e.1))
  where
    forced : (n : ℕ) (issued o : Option ℕ) → option_map_or (added_as n) (option_map (stance false issued) o) 0 ≡ 0
    forced n issued None = refl
    forced n issued (Some eto) = refl

-- so of regulations that do not govern it there is none
none_added : (m : State) (key : Text) (row : Row) (es : List (Text × Measure))
    → AllByRecursion (λ (e : Text × Measure). is_governed_by e.0 row ≡ false) es → sum_by (λ (e : Text × Measure). added m key e row) es ≡ 0
none_added m key row [] h = refl
none_added m key row (e ∷ es) h =
    omega (arith, sum_by-cons (λ (e : Text × Measure). added m key e row) e es, ungoverned m key e row h.0, none_added m key row es h.1)

-- the one that governs it has its delay
governed : (m : State) (key : Text) (id : Text) (measure : Measure) (row : Row) (eto : ℕ) → is_governed_by id row ≡ true
    → subject row.plan (regulation id measure) ≡ Some eto → added m key (id, measure) row ≡ delay_in (listing m.rows id measure) key
governed m key id measure row eto by planned =
    let n : ℕ = delay_in (listing m.rows id measure) key in
    (λ i. option_map_or (added_as n) (option_map (stance (by i) row.issued) (planned i)) 0) ∙ competes n row.issued
  where
    competes : (n : ℕ) (issued : Option ℕ) → added_as n (stance true issued eto) ≡ n
    competes n None = refl
    competes n (Some cto) = refl

-- a name that comes later, and one that a look-up passes, is another
later_name : (id q : Text) → text_cmp id q ≡ Less → same_text q id ≡ false
later_name id q less =
    elim (same_text q id) as (λ (b : Bool). same_text q id ≡ b → b ≡ false) [
      | true ↦ λ t.
          let there : text_cmp id id ≡ Less = subst (λ (w : Text). text_cmp id w ≡ Less) (named q id t) less in
          absurd (both_ways _ (ap is_eq there) (itself id))
      | false ↦ λ t. refl
    ] refl

other_name : (id q : Text) → is_eq (text_cmp id q) ≡ false → same_text q id ≡ false
other_name id q other =
    elim (same_text q id) as (λ (b : Bool). same_text q id ≡ b → b ≡ false) [
      | true ↦ λ t. absurd (both_ways _ (subst (λ (w : Text). is_eq (text_cmp id w) ≡ false) (named q id t) other) (itself id))
      | false ↦ λ t. refl
    ] refl

governs_not : (row : Row) (id q : Text) → row.governing ≡ Some id → same_text q id ≡ false → is_governed_by q row ≡ false
governs_not row id q by other = ap (λ (g : Option Text). option_map_or (same_text q) g false) by ∙ other

others : (row : Row) (id : Text) (es : List (Text × Measure)) → row.governing ≡ Some id
    → AllByRecursion (λ (q : Text). text_cmp id q ≡ Less) (keys_of es) → AllByRecursion (λ (e : Text × Measure). is_governed_by e.0 row ≡ false) es
others row id [] by h = tt
others row id (e ∷ es) by h = (governs_not row id e.0 by (later_name id e.0 h.0), others row id es by h.1)

-- of all regulations only the governing one has the delay
only_governing : (m : State) (key : Text) (row : Row) (id : Text) (measure : Measure) → row.governing ≡ Some id → (es : List (Text × Measure)) → AreInOrder es
    → at_name es id ≡ Some measure → sum_by (λ (e : Text × Measure). added m key e row) es ≡ added m key (id, measure) row
unfolding IsStrictlySortedBy
only_governing m key row id measure by [] sorted found = absurd (cc)
only_governing m key row id measure by (e ∷ es) sorted found =
    let adds : Text × Measure → ℕ = λ e. added m key e row in
    elim (is_eq (text_cmp id e.0)) as (λ (b : Bool). is_eq (text_cmp id e.0) ≡ b → cond b (Some e.1) (at_name es id) ≡ Some measure
    → sum_by adds (e ∷ es) ≡ adds (id, measure)) [
      | true ↦ λ t f.
          let name : id ≡ e.0 = same_name id e.0 t in
          let value : e.1 ≡ measure = cc in
          let here : adds e ≡ adds (id, measure) = λ i. adds (sym name i, value i) in
          let rest : sum_by adds es ≡ 0 = none_added m key row es (others row e.0 es (by ∙ ap (λ (q : Text). Some q) name) sorted.0) in
          omega (arith, sum_by-cons adds e es, here, rest)
      | false ↦ λ t f.
          let here : adds e ≡ 0 = ungoverned m key e row (governs_not row id e.0 by (other_name id e.0 t)) in
          omega (arith, sum_by-cons adds e es, here, only_governing m key row id measure by es sorted.1 f)
    ] refl found

-- so a flight of a good state adds its delay
added_once : (m : State) (key : Text) (row : Row) → IsGood m → IsGoodRow m.clock m.regs key row
    → sum_by (λ (e : Text × Measure). added m key e row) m.regs ≡ delay_of m key row
added_once m key row good good_row =
    let delay_by : Option Text → ℕ = λ g. option_map_or (λ (l : Listing). delay_in l key) (option_and_then (list_of m) g) 0 in
    elim row.governing as (λ (g : Option Text). row.governing ≡ g → sum_by (λ (e : Text × Measure). added m key e row) m.regs ≡ delay_by g) [
      | None ↦ λ free. none_added m key row m.regs (nobody free m.regs)
      | Some id ↦ λ by.
          let s : IsGoverned m.clock m.regs row id =
          subst (λ (g : Option Text). MatchOption g (IsFree m.clock m.regs row) (IsGoverned m.clock m.regs row)) by good_row.standing in
          let governs_it : is_governed_by id row ≡ true = ap (λ (g : Option Text). option_map_or (same_text id) g false) by ∙ nat_list_eq_equiv.refl id in
          only_governing m key row id s.measure by m.regs good.regs_in_order s.is_open
          ∙ governed m key id s.measure row s.eto governs_it s.is_subject
          ∙ sym (ap (λ (o : Option Measure). option_map_or (λ (l : Listing). delay_in l key) (option_map (listing m.rows id) o) 0) s.is_open)
    ] refl
  where
    nobody : row.governing ≡ None → (es : List (Text × Measure)) → AllByRecursion (λ (e : Text × Measure). is_governed_by e.0 row ≡ false) es
    nobody free [] = tt
    nobody free (e ∷ es) = (ap (λ (g : Option Text). option_map_or (same_text e.0) g false) free, nobody free es)

-- sums of what is the same for each
same_sums : {X : Type 0} (f g : X → ℕ) (xs : List X) → AllByRecursion (λ (x : X). f x ≡ g x) xs → sum_by f xs ≡ sum_by g xs
same_sums f g [] h = refl
same_sums f g (x ∷ xs) h = omega (arith, sum_by-cons f x xs, sum_by-cons g x xs, h.0, same_sums f g xs h.1)

-- all lists together tell the delays that all flights have
pub all_delays : (m : State) → IsGood m → total_delay (lists_told m) ≡ sum_by (λ (r : Text × Row). delay_of m r.0 r.1) m.rows
all_delays m good =
    let adds : Text × Measure → Text × Row → ℕ = λ e r. added m r.0 e r.1 in
    told_delays m good.rows_in_order ∙ by_regs m.regs ∙ exchanged adds m.regs m.rows
    ∙ same_sums (λ (r : Text × Row). sum_by (λ (e : Text × Measure). adds e r) m.regs) (λ (r : Text × Row). delay_of m r.0 r.1) m.rows (each m.rows good.rows)
  where
    by_regs : (es : List (Text × Measure)) → sum_by delays_in (map (λ (e : Text × Measure). listing m.rows e.0 e.1) es)
        ≡ sum_by (λ (e : Text × Measure). sum_by (λ (r : Text × Row). added m r.0 e r.1) m.rows) es
    by_regs [] = refl
    by_regs (e ∷ es) =
        let l : Listing = listing m.rows e.0 e.1 in
        let of_reg : Text × Measure → ℕ = λ e. sum_by (λ (r : Text × Row). added m r.0 e r.1) m.rows in
        let rest : List Listing = map (λ (e : Text × Measure). listing m.rows e.0 e.1) es in
        omega (arith, sum_by-cons delays_in l rest, sum_by-cons of_reg e es, by_flights (delay_in l) (stance_in e.0 e.1) m.rows, by_regs es)

    each : (rows : List (Text × Row)) → AllByRecursion (λ (r : Text × Row). IsGoodRow m.clock m.regs r.0 r.1) rows
        → AllByRecursion (λ (r : Text × Row). sum_by (λ (e : Text × Measure). added m r.0 e r.1) m.regs ≡ delay_of m r.0 r.1) rows
    each [] h = tt
    each (r ∷ rows) h = (added_once m r.0 r.1 good h.0, each rows h.1)
