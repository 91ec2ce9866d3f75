-- a plan has no fault exactly where its key is a name and the rest is valid
use Rattle.std.proofs.Common.{◌≡◌, ℕ, ◌+◌, ◌≤◌, List, [], ◌∷◌, length, suc, true, false, not, nat_lt, None, All, get_or, arith, subst, sym, refl}
use Rattle.std.specs.List.{list_any, AllPairs}
use Rattle.std.proofs.lemmas.Bool.{ltb-false, or_parts, or_from, both_ways, false_from_ne_true, le-ltb, not-false}
use Rattle.std.proofs.lemmas.List.Folds.{list_any_none}
use Rattle.std.specs.Cmp.Lexicographic.{same_text as text_is}
use Rattle.std.proofs.lemmas.List.Kept.{AllPairs-cons}
use Rattle.std.proofs.lemmas.Cmp.{nat_list_eq_equiv}
use Rattle.casa_grid.proofs.Faults.{passed, none_any}
use Rattle.casa_filing.specs.declared.plan.Crossing.{Crossing}
use Rattle.casa_filing.specs.declared.plan.PlanFault.TheVariants.{BadKey, TaxiTooLong, TooManyCrossings, SameLocation, EtoBeforeTakeOff, OutOfRange}
use Rattle.casa_filing.specs.Text.{is_name, same_text}
use Rattle.casa_filing.specs.FlightPlan.{IsValid, longest_taxi, most_crossings}
use Rattle.casa_time.specs.Moment.{last_moment}
use Rattle.casa_filing.specs.PlanFaults.{plan_fault, has_twice, has_early}

unlike : (a b : List ℕ) → same_text a b ≡ false → a ≡ b → ⊥
unlike a b h e = both_ways _ h (subst (λ (t : List ℕ). same_text a t ≡ true) e (nat_list_eq_equiv.refl a))

apart : (via : List Crossing) → has_twice via ≡ false → AllPairs (λ (a b : Crossing). a.loc ≡ b.loc → ⊥) via
apart [] h = λ i j d lt in'. absurd (omega arith)
apart (c ∷ cs) h =
    let parts = or_parts (list_any (λ (d : Crossing). same_text c.loc d.loc) cs) (has_twice cs) h in
    AllPairs-cons (λ (a b : Crossing). a.loc ≡ b.loc → ⊥) c cs (none_any (λ (d : Crossing). same_text c.loc d.loc) (λ (d : Crossing). c.loc ≡ d.loc → ⊥) (λ d. unlike c.loc d.loc) cs parts.0) (apart cs parts.1)

pub is_valid : (key : List ℕ) (eobt taxi : ℕ) (via : List Crossing) → plan_fault key eobt taxi via ≡ None → IsValid eobt taxi via
is_valid key eobt taxi via h =
    let a = passed (not (is_name key)) BadKey _ h in
    let b = passed (nat_lt longest_taxi taxi) TaxiTooLong _ a.1 in
    let c = passed (nat_lt most_crossings (length via)) TooManyCrossings _ b.1 in
    let d = passed (has_twice via) SameLocation _ c.1 in
    let e = passed (has_early (eobt + taxi) via) EtoBeforeTakeOff _ d.1 in
    let f = passed (nat_lt last_moment (eobt + taxi)) OutOfRange _ e.1 in
    record {
      short_taxi = ltb-false longest_taxi taxi b.0;
      few = ltb-false most_crossings (length via) c.0;
      apart = apart via d.0;
      later = none_any (λ (c : Crossing). nat_lt c.eto (eobt + taxi)) (λ (c : Crossing). eobt + taxi ≤ c.eto) (λ c t. ltb-false c.eto (eobt + taxi) t) via e.0;
      in_range = ltb-false last_moment (eobt + taxi) f.0;
    }

pub later_apart : (c : Crossing) (cs : List Crossing) → AllPairs (λ (a b : Crossing). a.loc ≡ b.loc → ⊥) (c ∷ cs) → AllPairs (λ (a b : Crossing). a.loc ≡ b.loc → ⊥) cs
later_apart c cs h = λ i j d lt in'. h (suc i) (suc j) d (omega arith) (omega arith)

pub none_like : (c : Crossing) (cs : List Crossing) → AllPairs (λ (a b : Crossing). a.loc ≡ b.loc → ⊥) (c ∷ cs) → All (λ (d : Crossing). same_text c.loc d.loc ≡ false) cs
none_like c cs h = λ i d lt. false_from_ne_true _ (λ same. h 0 (suc i) d (omega arith) (omega arith) (text_is c.loc _ (sym same)))

has_twice-none : (via : List Crossing) → AllPairs (λ (a b : Crossing). a.loc ≡ b.loc → ⊥) via → has_twice via ≡ false
has_twice-none [] h = refl
has_twice-none (c ∷ cs) h =
    or_from _ _ (list_any_none (λ (d : Crossing). same_text c.loc d.loc) cs (none_like c cs h)) (has_twice-none cs (later_apart c cs h))

pub plan_fault-none : (key : List ℕ) (eobt taxi : ℕ) (via : List Crossing) → is_name key ≡ true → IsValid eobt taxi via → plan_fault key eobt taxi via ≡ None
plan_fault-none key eobt taxi via named h =
    let short : nat_lt longest_taxi taxi ≡ false = le-ltb longest_taxi taxi h.short_taxi in
    let few : nat_lt most_crossings (length via) ≡ false = le-ltb most_crossings (length via) h.few in
    let once : has_twice via ≡ false = has_twice-none via h.apart in
    let after : has_early (eobt + taxi) via ≡ false = list_any_none (λ (c : Crossing). nat_lt c.eto (eobt + taxi)) via (λ k d lt. le-ltb (get_or via k d).eto (eobt + taxi) (h.later k d lt)) in
    let within : nat_lt last_moment (eobt + taxi) ≡ false = le-ltb last_moment (eobt + taxi) h.in_range in
    rw (named, short, few, once, after, within)

pub has_name : (key : List ℕ) (eobt taxi : ℕ) (via : List Crossing) → plan_fault key eobt taxi via ≡ None → is_name key ≡ true
has_name key eobt taxi via h = not-false _ (passed (not (is_name key)) BadKey _ h).0
