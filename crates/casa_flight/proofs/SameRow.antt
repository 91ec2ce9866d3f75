-- `==` of rows is equality
use Rattle.std.proofs.Common.{◌≡◌, ℕ, true, refl, ap}
use Rattle.std.specs.Prelude.{Option, None, Some, nat_eq}
use Rattle.std.specs.Option.{option_eq}
use Rattle.std.proofs.lemmas.Bool.{and_parts, eqb-true}
use Rattle.casa_flight.specs.declared.row.Row.{Row}
use Rattle.casa_flight.specs.contracts.row.RowPartialEq.TheImpl.{ghosts as row}
use Rattle.casa_filing.proofs.Same.{plan_same}
use Rattle.casa_flight.proofs.SameReply.{flag_same, id_same}

time_same : (a b : Option ℕ) → option_eq nat_eq a b ≡ true → a ≡ b
time_same None None h = refl
time_same (Some a) (Some b) h = ap Some (eqb-true a b h)
time_same a b h = cc

pub row_same : (a b : Row) → row.eq a b ≡ true → a ≡ b
row_same a b h =
    let p = and_parts _ _ h in
    let q = and_parts _ _ p.1 in
    let r = and_parts _ _ q.1 in
    let plan_is : a.plan ≡ b.plan = plan_same _ _ p.0 in
    let marked_is : a.marked ≡ b.marked = flag_same a.marked b.marked q.0 in
    let governing_is : a.governing ≡ b.governing = id_same a.governing b.governing r.0 in
    let issued_is : a.issued ≡ b.issued = time_same a.issued b.issued r.1 in
    λ i. record { plan = plan_is i; marked = marked_is i; governing = governing_is i; issued = issued_is i }
