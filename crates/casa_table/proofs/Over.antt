-- the flights that are subject to a regulation are all found among those that pass its location in its span
use Rattle.std.proofs.Common.{◌≡◌, ℕ, ◌≤◌, ◌<◌, nat_le, nat_lt, List, [], ◌∷◌, Bool, true, false, ◌||◌, ◌&&◌, not, cond}
use Rattle.std.proofs.Common.{refl, sym, ap, ◌∙◌, Option, None, Some, subst, arith, if◌then◌else◌}
use Rattle.std.specs.declared.cmp.Ordering.{Ordering}
use Rattle.std.specs.declared.cmp.Ordering.TheVariants.{Less, Equal, Greater}
use Rattle.std.specs.declared.ops.Bound.TheVariants.{Included, Excluded}
use Rattle.std.specs.Ordering.{is_eq, is_gt, is_le, nat_cmp, ordering_then}
use Rattle.std.specs.Option.{option_and_then, option_map_or, option_cmp}
use Rattle.std.specs.List.{list_any, filter, find, cons_option}
use Rattle.std.specs.BTreeMap.{is_at}
use Rattle.std.specs.BTreeMap.Range.{range_contains}
use Rattle.casa_filing.specs.declared.plan.Crossing.{Crossing}
use Rattle.casa_filing.specs.contracts.plan.CrossingPartialEq.TheImpl.{ghosts as crossing}
use Rattle.casa_filing.specs.contracts.plan.CrossingEq.TheImpl.Laws.{laws-law as crossing_laws}
use Rattle.casa_filing.specs.declared.regulation.Regulation.{Regulation}
use Rattle.casa_flight.specs.declared.row.Row.{Row}
use Rattle.casa_filing.specs.Text.{Text, same_text}
use Rattle.casa_filing.specs.Subject.{is_there, covered}
use Rattle.casa_filing.specs.FlightPlan.{FlightPlan}
use Rattle.casa_filing.specs.PlanEquality.{plan_eq}
use Rattle.casa_filing.proofs.Same.{plan_same}
use Rattle.casa_filing.proofs.Entries.{text_cmp, same_name, itself, named}
use Rattle.casa_table.specs.declared.flights.Passing.{Passing}
use Rattle.casa_table.specs.contracts.flights.PassingOrd.TheImpl.{ghosts as passings}
use Rattle.casa_table.specs.Laid.{where_put}
use Rattle.casa_table.specs.Passing.{over_row, has_passing, passing, HaveMore, HaveVia, HavePassings, at_start, at_end}
use Rattle.casa_table.specs.Passing.{in_span, names}
use Rattle.casa_item.specs.Gathered.{is_named}
use Rattle.casa_table.proofs.Exact.{IsExact}

-- passings that compare Equal are the same
pub exact : IsExact passings.cmp
exact p q h = by (nat_cmp p.eto q.eto) refl h
  where
    same_number : (a b : ℕ) → nat_cmp a b ≡ Equal → a ≡ b
    same_number a b t = grind (arith, t)

    same_key : (a b : Option Text) → is_eq (option_cmp text_cmp a b) ≡ true → a ≡ b
    same_key None None t = refl
    same_key None (Some b) t = cc
    same_key (Some a) None t = cc
    same_key (Some a) (Some b) t = ap (λ (x : Text). Some x) (same_name a b t)

    by : (b : Ordering) → nat_cmp p.eto q.eto ≡ b
        → is_eq (ordering_then b (option_cmp text_cmp p.key q.key)) ≡ true → p ≡ q
    by Less t g = cc
    by Greater t g = cc
    by Equal t g =
        let times : p.eto ≡ q.eto = same_number p.eto q.eto t in
        let keys : p.key ≡ q.key = same_key p.key q.key g in
        λ i. record { eto = times i; key = keys i }

-- the ends of a range
pub forward : (r : Regulation) (t : ℕ) → r.start ≤ t → is_gt (passings.cmp (at_start r) (at_end t)) ≡ false
forward r t h = by (nat_cmp r.start t) refl
  where
    by : (a : Ordering) → nat_cmp r.start t ≡ a → is_gt (ordering_then a Equal) ≡ false
    by Less e = refl
    by Equal e = refl
    by Greater e = grind (arith, e, h)

-- a crossing at a regulation
record IsThere (r : Regulation) (c : Crossing) : Type 0 where
  loc_is : c.loc ≡ r.loc
  from : r.start ≤ c.eto
  before : c.eto < r.end

there : (r : Regulation) (c : Crossing) (eto : ℕ) → is_there r.loc c ≡ true → covered r c ≡ Some eto → IsThere r c
there r c eto at h =
    by (nat_le r.start c.eto) (nat_lt c.eto r.end) refl refl h
  where
    le : (a b : ℕ) → nat_le a b ≡ true → a ≤ b
    le a b e = grind (arith, e)

    lt : (a b : ℕ) → nat_lt a b ≡ true → a < b
    lt a b e = grind (arith, e)

    by : (b d : Bool) → nat_le r.start c.eto ≡ b → nat_lt c.eto r.end ≡ d
        → cond (b && d) (Some c.eto) None ≡ Some eto → IsThere r c
    by false d q s g = cc
    by true false q s g = cc
    by true true q s g =
        record { loc_is = named c.loc r.loc at; from = le r.start c.eto q; before = lt c.eto r.end s }

in_range : (r : Regulation) (t : ℕ) (key : Text) (c : Crossing) → r.end ≤ t → IsThere r c
    → range_contains passings.cmp (Included (at_start r)) (Excluded (at_end t)) (passing key c) ≡ true
in_range r t key c late is =
    let first : is_le (passings.cmp (at_start r) (passing key c)) ≡ true = from_start (nat_cmp r.start c.eto) refl is.from in
    let last : is_le (passings.cmp (at_end t) (passing key c)) ≡ false = past (nat_cmp t c.eto) refl is.before in
    λ i. first i && not (last i)
  where
    from_start : (a : Ordering) → nat_cmp r.start c.eto ≡ a → r.start ≤ c.eto → is_le (ordering_then a Less) ≡ true
    from_start Less e f = refl
    from_start Equal e f = refl
    from_start Greater e f = grind (arith, e, f)

    past : (a : Ordering) → nat_cmp t c.eto ≡ a → c.eto < r.end → is_le (ordering_then a Less) ≡ false
    past Less e f = grind (arith, e, f, late)
    past Equal e f = grind (arith, e, f, late)
    past Greater e f = refl

or_true : (b : Bool) → (b || true) ≡ true
or_true true = refl
or_true false = refl

-- a passing in a range is among those of the range
range_named : (test : Passing → Bool) (key : Text) (e : Passing) (ps : List Passing) → e.key ≡ Some key
    → test e ≡ true → has_passing ps e ≡ true
    → is_named (names (filter test ps)) key ≡ true
range_named test key e [] whose passes h = cc
range_named test key e (p ∷ ps) whose passes h =
    elim (is_eq (passings.cmp e p)) as (λ b. is_eq (passings.cmp e p) ≡ b → (b || has_passing ps e) ≡ true
    → is_named (names (filter test (p ∷ ps))) key ≡ true) [
      | true ↦ λ t _.
          let same : e ≡ p = exact e p t in
          ap (λ b. is_named (names (cond b (p ∷ filter test ps) (filter test ps))) key)
          (subst (λ (x : Passing). test x ≡ true) same passes)
          ∙ ap (λ (w : Option Text). is_named (cons_option w (names (filter test ps))) key)
          (ap (λ (x : Passing). x.key) (sym same) ∙ whose)
          ∙ ap (λ b. b || is_named (names (filter test ps)) key) (itself key)
      | false ↦ λ _ g. later (test p) (range_named test key e ps whose passes g)
    ] refl h
  where
    behind : (w : Option Text) → is_named (names (filter test ps)) key ≡ true
        → is_named (cons_option w (names (filter test ps))) key ≡ true
    behind None k = k
    behind (Some q) k = ap (λ b. is_eq (text_cmp key q) || b) k ∙ or_true (is_eq (text_cmp key q))

    later : (b : Bool) → is_named (names (filter test ps)) key ≡ true
        → is_named (names (cond b (p ∷ filter test ps) (filter test ps))) key ≡ true
    later true k = behind p.key k
    later false k = k

via_named : (r : Regulation) (t : ℕ) (key : Text) (ps : Text → List Passing) → r.end ≤ t → (via : List Crossing) (eto : ℕ)
    → HaveVia ps key via
    → option_and_then (covered r) (find (is_there r.loc) via) ≡ Some eto
    → is_named (names (in_span r t (ps r.loc))) key ≡ true
via_named r t key ps late [] eto have h = cc
via_named r t key ps late (c ∷ via) eto have h =
    elim (is_there r.loc c) as (λ b. is_there r.loc c ≡ b
    → option_and_then (covered r) (cond b (Some c) (find (is_there r.loc) via)) ≡ Some eto
    → is_named (names (in_span r t (ps r.loc))) key ≡ true) [
      | true ↦ λ at over.
          let is : IsThere r c = there r c eto at over in
          range_named (range_contains passings.cmp (Included (at_start r)) (Excluded (at_end t)))
          key (passing key c) (ps r.loc) refl (in_range r t key c late is)
          (subst (λ (loc : Text). has_passing (ps loc) (passing key c) ≡ true) is.loc_is have.0)
      | false ↦ λ _ g. via_named r t key ps late via eto have.1 g
    ] refl h

pub row_over : (r : Regulation) (t : ℕ) (row_at : Text → Option Row) (ps : Text → List Passing) → r.end ≤ t
    → HavePassings row_at ps
    → (q : Text) (y : ℕ) → option_and_then (over_row r) (row_at q) ≡ Some y
    → is_named (names (in_span r t (ps r.loc))) q ≡ true
row_over r t row_at ps late have q y h = by (row_at q) refl h
  where
    by : (o : Option Row) → row_at q ≡ o → option_and_then (over_row r) o ≡ Some y
        → is_named (names (in_span r t (ps r.loc))) q ≡ true
    by None found h = cc
    by (Some row) found h = via_named r t q ps late row.plan.via y (have q row found) h

-- with a flight's passings among more passings, these serve for it too
have_more : (ps qs : Text → List Passing) → HaveMore ps qs
    → (key : Text) (via : List Crossing) → HaveVia ps key via → HaveVia qs key via
have_more ps qs more key [] h = tt
have_more ps qs more key (c ∷ via) h = (more c.loc (passing key c) h.0, have_more ps qs more key via h.1)

pub more_passings : (at : Text → Option Row) (ps qs : Text → List Passing) → HaveMore ps qs
    → HavePassings at ps → HavePassings at qs
more_passings at ps qs more have q row found = have_more ps qs more q row.plan.via (have q row found)

pub added_passings : (key : Text) (row : Row) (at : Text → Option Row) (ps qs : Text → List Passing)
    → HaveMore ps qs → HaveVia qs key row.plan.via
    → HavePassings at ps → HavePassings (where_put at key (Some row)) qs
added_passings key row at ps qs more new have q x found = by (same_text key q) refl found
  where
    by : (b : Bool) → same_text key q ≡ b → (if b then Some row else at q) ≡ Some x → HaveVia qs q x.plan.via
    by false t f = have_more ps qs more q x.plan.via (have q x f)
    by true t f =
        let value : row ≡ x = cc in
        subst (λ (k : Text). HaveVia qs k x.plan.via) (named key q t)
        (subst (λ (r : Row). HaveVia qs key r.plan.via) value new)

-- where the flight stands with this plan, its passings are there
pub kept_passings : (key : Text) (row : Row) (earlier : Option Row) (at : Text → Option Row) (ps : Text → List Passing)
    → at key ≡ earlier → option_map_or (λ (r : Row). plan_eq r.plan row.plan) earlier false ≡ true
    → HavePassings at ps → HavePassings (where_put at key (Some row)) ps
kept_passings key row None at ps there is have = cc
kept_passings key row (Some r) at ps there is have =
    added_passings key row at ps ps (λ loc p h. h)
    (subst (λ (p : FlightPlan). HaveVia ps key p.via) (plan_same r.plan row.plan is) (have key r there)) have

-- a passing where the flight does not cross now may go
pub idle_goes : (key : Text) (c : Crossing) (present : List Crossing) (ps qs : Text → List Passing)
    → list_any (λ (x : Crossing). crossing.eq x c) present ≡ false
    → ((loc : Text) (p : Passing) → (loc ≡ c.loc → is_at (passings.cmp (passing key c)) p ≡ false)
    → has_passing (qs loc) p ≡ has_passing (ps loc) p)
    → (other : Text) (via : List Crossing) → (other ≡ key → via ≡ present) → HaveVia ps other via → HaveVia qs other via
idle_goes key c present ps qs idle others other via same have =
    along via (λ e. ap (list_any (λ (x : Crossing). crossing.eq x c)) (same e) ∙ idle) have
  where
    no_other : {A : Type 0} (x : Crossing) (xs : List Crossing) → x.loc ≡ c.loc → passing key c ≡ passing other x
        → (crossing.eq x c || list_any (λ (x : Crossing). crossing.eq x c) xs) ≡ false → A
    no_other x xs at is none =
        let c_is : c ≡ x = (λ i. record { loc = (sym at) i; eto = (is i).eto }) in
        let found : (crossing.eq x c || list_any (λ (x : Crossing). crossing.eq x c) xs) ≡ true =
        ap (λ (y : Crossing). crossing.eq x y || list_any (λ (x : Crossing). crossing.eq x c) xs) c_is
        ∙ ap (λ b. b || list_any (λ (x : Crossing). crossing.eq x c) xs) (crossing_laws.refl x) in
        let no : true ≡ false = sym found ∙ none in cc

    whose : (x : Crossing) → passing key c ≡ passing other x → other ≡ key
    whose x is = let keys : Some key ≡ Some other = ap (λ (p : Passing). p.key) is in cc

    rest_of : (a b : Bool) → (a || b) ≡ false → b ≡ false
    rest_of false b h = h
    rest_of true b h = cc

    along : (xs : List Crossing) → (other ≡ key → list_any (λ (x : Crossing). crossing.eq x c) xs ≡ false)
        → HaveVia ps other xs → HaveVia qs other xs
    along [] none h = tt
    along (x ∷ xs) none h =
        let apart : x.loc ≡ c.loc → is_eq (passings.cmp (passing key c) (passing other x)) ≡ false =
        λ at.
        elim (is_eq (passings.cmp (passing key c) (passing other x))) as
        (λ b. is_eq (passings.cmp (passing key c) (passing other x)) ≡ b → b ≡ false) [
          | true ↦ λ t.
              let is : passing key c ≡ passing other x = exact (passing key c) (passing other x) t in
              no_other x xs at is (none (whose x is))
          | false ↦ λ t. refl
        ] refl in (
          others x.loc (passing other x) apart ∙ h.0,
          along xs
              (λ e. rest_of (crossing.eq x c) (list_any (λ (x : Crossing). crossing.eq x c) xs) (none e)) h.1,
        )

-- what a flight does not need now may go
pub taken_passings : (key : Text) (now : List Crossing) (at : Text → Option Row) (ps qs : Text → List Passing)
    → ((row : Row) → at key ≡ Some row → row.plan.via ≡ now)
    → ((other : Text) (via : List Crossing) → (other ≡ key → via ≡ now) → HaveVia ps other via → HaveVia qs other via)
    → HavePassings at ps → HavePassings at qs
taken_passings key now at ps qs via_is taken have q row found =
    taken q row.plan.via (λ e. via_is row (ap at (sym e) ∙ found)) (have q row found)
