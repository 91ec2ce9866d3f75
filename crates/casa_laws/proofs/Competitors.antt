-- the competitors of a list, once a flight stands in it otherwise, enters it or leaves it
use Rattle.std.proofs.Common.{◌≡◌, ℕ, ◌<◌, List, [], ◌∷◌, Bool, true, false, not, cond, refl, sym, ◌∙◌, ap, subst, arith, ◌⊎◌, inl, inr, Option, None, Some}
use Rattle.std.specs.declared.cmp.Ordering.{Ordering}
use Rattle.std.specs.declared.cmp.Ordering.TheVariants.{Less, Equal, Greater}
use Rattle.std.specs.Ordering.{is_eq, is_lt, match_ordering, ordering_reverse}
use Rattle.std.specs.List.{AllByRecursion, filter, filter_map, fold, cons_option}
use Rattle.std.specs.List.Sorted.{IsStrictlySortedBy}
use Rattle.std.specs.Map.{keys_of}
use Rattle.std.specs.Cmp.Lexicographic.{same_text as text_is}
use Rattle.std.proofs.lemmas.Cmp.{nat_list_cmp_total}
use Rattle.std.proofs.lemmas.Bool.{cases_order, and_parts, and_from, ltb-true, lt-ltb, or_cases, or_left, or_right, eqb-true, eq-eqb, both_ways, false_from_ne_true}
use Rattle.casa_flight.specs.declared.comp.Comp.{Comp}
use Rattle.casa_flight.specs.declared.row.Stance.{Stance}
use Rattle.casa_flight.specs.declared.row.Stance.TheVariants.{Competing, Issued, Forced}
use Rattle.casa_filing.specs.Text.{Text, same_text, at_name, put, without}
use Rattle.casa_flight.specs.Listing.{Listing, insert_sorted, is_before, competitor, competitors, stance_of}
use Rattle.casa_flight.specs.Good.{AreInOrder}
use Rattle.casa_filing.proofs.Entries.{text_cmp, same_name, itself, after_all}
use Rattle.casa_laws.proofs.Kept.{Above, at_above, without_absent}
use Rattle.casa_flight.proofs.PutBy.{put_first, put_later, all-put_by}

-- the order of competitors as a relation
abbrev Comes : Comp → Comp → Type 0
Comes a b = (a.eto < b.eto) ⊎ ((a.eto ≡ b.eto) × (text_cmp a.key b.key ≡ Less))

less_of : (r : Ordering) → is_lt r ≡ true → r ≡ Less
less_of Less h = refl
less_of Equal h = cc
less_of Greater h = cc

comes : (a b : Comp) → is_before a b ≡ true → Comes a b
comes a b h =
    elim (or_cases _ _ h) [
      | inl less ↦ inl (ltb-true _ _ less)
      | inr tied ↦ inr (eqb-true _ _ (and_parts _ _ tied).0, less_of _ (and_parts _ _ tied).1)
    ]

before_made : (a b : Comp) → Comes a b → is_before a b ≡ true
before_made a b (inl lt) = or_left _ _ (lt-ltb a.eto b.eto lt)
before_made a b (inr tied) = or_right _ _ (and_from _ _ (eq-eqb _ _ tied.0) (ap is_lt tied.1))

comes_on : (a b c : Comp) → Comes a b → Comes b c → Comes a c
comes_on a b c (inl p) (inl q) = inl (omega (arith, p, q))
comes_on a b c (inl p) (inr q) = inl (omega (arith, p, q.0))
comes_on a b c (inr p) (inl q) = inl (omega (arith, p.0, q))
comes_on a b c (inr p) (inr q) = inr (p.0 ∙ q.0, nat_list_cmp_total.trans a.key b.key c.key p.1 q.1)

pub before_on : (a b c : Comp) → is_before a b ≡ true → is_before b c ≡ true → is_before a c ≡ true
before_on a b c p q = before_made a c (comes_on a b c (comes a b p) (comes b c q))

comes_one_way : (a b : Comp) → Comes a b → Comes b a → ⊥
comes_one_way a b (inl p) (inl q) = omega (arith, p, q)
comes_one_way a b (inl p) (inr q) = omega (arith, p, q.0)
comes_one_way a b (inr p) (inl q) = omega (arith, p.0, q)
comes_one_way a b (inr p) (inr q) =
    let back : text_cmp b.key a.key ≡ Greater = nat_list_cmp_total.antisymm b.key a.key ∙ ap ordering_reverse p.1 in
    let both : Less ≡ Greater = sym q.1 ∙ back in
    cc

pub before_one_way : (a b : Comp) → is_before a b ≡ true → is_before b a ≡ false
before_one_way a b p = false_from_ne_true _ (λ q. comes_one_way a b (comes a b p) (comes b a q))

tied_keys : (a b : Comp) → (a.key ≡ b.key → ⊥) → a.eto ≡ b.eto → Comes a b ⊎ Comes b a
tied_keys a b other same =
    elim (text_cmp a.key b.key) as (λ r. text_cmp a.key b.key ≡ r → Comes a b ⊎ Comes b a) [
      | Less ↦ λ t. inl (inr (same, t))
      | Equal ↦ λ t. absurd (other (same_name a.key b.key (ap is_eq t)))
      | Greater ↦ λ t. inr (inr (sym same, nat_list_cmp_total.antisymm b.key a.key ∙ ap ordering_reverse t))
    ] refl

one_comes : (a b : Comp) → (a.key ≡ b.key → ⊥) → Comes a b ⊎ Comes b a
one_comes a b other =
    elim (cases_order a.eto b.eto) [
      | inl same ↦ tied_keys a b other same
      | inr (inl lt) ↦ inl (inl lt)
      | inr (inr gt) ↦ inr (inl gt)
    ]

-- one of two competitors comes before the other
abbrev pub Ordered : Comp → Comp → Type 0
Ordered a b = (is_before a b ≡ true) ⊎ (is_before b a ≡ true)

-- it is so where their keys differ
pub before_total : (a b : Comp) → (a.key ≡ b.key → ⊥) → Ordered a b
before_total a b other =
    elim (one_comes a b other) [
      | inl p ↦ inl (before_made a b p)
      | inr q ↦ inr (before_made b a q)
    ]

-- which of two elements is put in first does not matter
commute_step : {X : Type 0} (comp : X → Comp) (x y : X) → is_before (comp x) (comp y) ≡ true → (zs : List X) →
    insert_sorted (λ a b. is_before (comp a) (comp b)) x (insert_sorted (λ a b. is_before (comp a) (comp b)) y zs) ≡ insert_sorted (λ a b. is_before (comp a) (comp b)) y (insert_sorted (λ a b. is_before (comp a) (comp b)) x zs)
commute_step {X} comp x y h [] =
    let before : X → X → Bool = λ a b. is_before (comp a) (comp b) in
    put_first before x y [] (before_one_way (comp x) (comp y) h) ∙ sym (put_later before y x [] h)
commute_step {X} comp x y h (z ∷ zs) =
    let before : X → X → Bool = λ a b. is_before (comp a) (comp b) in
    let y_first : is_before (comp y) (comp x) ≡ false = before_one_way (comp x) (comp y) h in
    elim (before z x) as (λ b. before z x ≡ b → insert_sorted before x (insert_sorted before y (z ∷ zs)) ≡ insert_sorted before y (insert_sorted before x (z ∷ zs))) [
      | true ↦ λ zx.
          let zy : before z y ≡ true = before_on (comp z) (comp x) (comp y) zx h in
          ap (insert_sorted before x) (put_later before y z zs zy)
          ∙ put_later before x z (insert_sorted before y zs) zx
          ∙ ap (λ ws. z ∷ ws) (commute_step comp x y h zs)
          ∙ sym (put_later before y z (insert_sorted before x zs) zy)
          ∙ sym (ap (insert_sorted before y) (put_later before x z zs zx))
      | false ↦ λ zx.
          let right : insert_sorted before y (insert_sorted before x (z ∷ zs)) ≡ x ∷ insert_sorted before y (z ∷ zs) = ap (insert_sorted before y) (put_first before x z zs zx) ∙ put_later before y x (z ∷ zs) h in
          let left : insert_sorted before x (insert_sorted before y (z ∷ zs)) ≡ x ∷ insert_sorted before y (z ∷ zs) =
          elim (before z y) as (λ b. before z y ≡ b → insert_sorted before x (insert_sorted before y (z ∷ zs)) ≡ x ∷ insert_sorted before y (z ∷ zs)) [
            | true ↦ λ zy.
                ap (insert_sorted before x) (put_later before y z zs zy)
                ∙ put_first before x z (insert_sorted before y zs) zx
                ∙ ap (λ ws. x ∷ ws) (sym (put_later before y z zs zy))
            | false ↦ λ zy.
                ap (insert_sorted before x) (put_first before y z zs zy)
                ∙ put_first before x y (z ∷ zs) y_first
                ∙ ap (λ ws. x ∷ ws) (sym (put_first before y z zs zy))
          ] refl in
          left ∙ sym right
    ] refl

pub put-commutes : {X : Type 0} (comp : X → Comp) (x y : X) → Ordered (comp x) (comp y) → (zs : List X) →
    insert_sorted (λ a b. is_before (comp a) (comp b)) x (insert_sorted (λ a b. is_before (comp a) (comp b)) y zs) ≡ insert_sorted (λ a b. is_before (comp a) (comp b)) y (insert_sorted (λ a b. is_before (comp a) (comp b)) x zs)
put-commutes comp x y (inl h) zs = commute_step comp x y h zs
put-commutes comp x y (inr h) zs = sym (commute_step comp y x h zs)

pub filter-all : {X : Type 0} (test : X → Bool) (xs : List X) → AllByRecursion (λ (x : X). test x ≡ true) xs → filter test xs ≡ xs
filter-all test [] h = refl
filter-all test (x ∷ xs) h = ap (λ b. cond b (x ∷ filter test xs) (filter test xs)) h.0 ∙ ap (λ ys. x ∷ ys) (filter-all test xs h.1)

-- the competitors with this one, or with none
abbrev pub with_one : Option Comp → List Comp → List Comp
with_one None cs = cs
with_one (Some c) cs = insert_sorted is_before c cs

-- the flights' competitors, put in one by one behind these
abbrev ranked : List Comp → List (Text × Stance) → List Comp
ranked cs fs = fold (λ ys x. insert_sorted is_before x ys) cs (filter_map (λ (e : Text × Stance). competitor e.0 e.1) fs)

ranked-next : (cs : List Comp) (e : Text × Stance) (fs : List (Text × Stance)) → ranked cs (e ∷ fs) ≡ ranked (with_one (competitor e.0 e.1) cs) fs
ranked-next cs e fs =
    elim (competitor e.0 e.1) as (λ (o : Option Comp). fold (λ ys x. insert_sorted is_before x ys) cs (cons_option o (filter_map (λ (e : Text × Stance). competitor e.0 e.1) fs)) ≡ ranked (with_one o cs) fs) [
      | None ↦ refl
      | Some c ↦ refl
    ]

pub less_apart : (k q : Text) → text_cmp k q ≡ Less → k ≡ q → ⊥
less_apart k q less same =
    let tied : is_eq (text_cmp k q) ≡ true = subst (λ (p : Text). is_eq (text_cmp k p) ≡ true) same (itself k) in
    both_ways _ (ap is_eq less) tied

one_by_one : (k q : Text) (s r : Stance) → text_cmp k q ≡ Less → (cs : List Comp) → with_one (competitor k s) (with_one (competitor q r) cs) ≡ with_one (competitor q r) (with_one (competitor k s) cs)
one_by_one k q (Competing a) (Competing b) less cs =
    let x : Comp = record { eto = a; key = k } in
    let y : Comp = record { eto = b; key = q } in
    put-commutes (λ c. c) x y (before_total x y (less_apart k q less)) cs
one_by_one k q (Competing a) (Issued b t) less cs = refl
one_by_one k q (Competing a) (Forced b) less cs = refl
one_by_one k q (Issued a t) r less cs = refl
one_by_one k q (Forced a) r less cs = refl

ranked_above : (k : Text) (s : Stance) (fs : List (Text × Stance)) (cs : List Comp) → Above k fs → ranked (with_one (competitor k s) cs) fs ≡ with_one (competitor k s) (ranked cs fs)
ranked_above k s [] cs h = refl
ranked_above k s (e ∷ es) cs h =
    ranked-next (with_one (competitor k s) cs) e es
    ∙ ap (λ ds. ranked ds es) (sym (one_by_one k e.0 s e.1 h.0 cs))
    ∙ ranked_above k s es (with_one (competitor e.0 e.1) cs) h.1
    ∙ ap (with_one (competitor k s)) (sym (ranked-next cs e es))

ranked-put : (k : Text) (s : Stance) (fs : List (Text × Stance)) (cs : List Comp) → AreInOrder fs → ranked cs (put fs k s) ≡ with_one (competitor k s) (ranked cs (without fs k))
unfolding IsStrictlySortedBy
ranked-put k s [] cs sorted = ranked-next cs (k, s) []
ranked-put k s (e ∷ es) cs sorted =
    elim (text_cmp k e.0) as (λ r. text_cmp k e.0 ≡ r → ranked cs (match_ordering r ((k, s) ∷ e ∷ es) ((e.0, s) ∷ es) (e ∷ put es k s)) ≡ with_one (competitor k s) (ranked cs (cond (is_eq r) es (e ∷ without es k)))) [
      | Less ↦ λ t.
          let above : Above k es = after_all k e.0 t (keys_of es) sorted.0 in
          ranked-next cs (k, s) (e ∷ es)
          ∙ ranked_above k s (e ∷ es) cs (t, above)
          ∙ ap (λ fs. with_one (competitor k s) (ranked cs (e ∷ fs))) (sym (without_absent k es (at_above k es above)))
      | Equal ↦ λ t.
          let here : k ≡ e.0 = same_name k e.0 (ap is_eq t) in
          ranked-next cs (e.0, s) es
          ∙ ranked_above e.0 s es cs sorted.0
          ∙ ap (λ (q : Text). with_one (competitor q s) (ranked cs es)) (sym here)
      | Greater ↦ λ t.
          ranked-next cs e (put es k s)
          ∙ ranked-put k s es (with_one (competitor e.0 e.1) cs) sorted.1
          ∙ ap (with_one (competitor k s)) (sym (ranked-next cs e (without es k)))
    ] refl

-- once a flight stands in a list so, the competitors are those without it and, where it competes, the flight
pub competitors-put : (l : Listing) (key : Text) (s : Stance) → AreInOrder l.flights → competitors (record l { flights = put l.flights key s }) ≡ with_one (competitor key s) (competitors (record l { flights = without l.flights key }))
competitors-put l key s sorted = ranked-put key s l.flights [] sorted

-- an entry that is there already changes nothing
pub put_there : {X : Type 0} (k : Text) (v : X) (es : List (Text × X)) → AreInOrder es → at_name es k ≡ Some v → put es k v ≡ es
unfolding IsStrictlySortedBy
put_there k v [] sorted found = cc
put_there {X} k v (e ∷ es) sorted found =
    elim (text_cmp k e.0) as (λ r. text_cmp k e.0 ≡ r → cond (is_eq r) (Some e.1) (at_name es k) ≡ Some v → match_ordering r ((k, v) ∷ e ∷ es) ((e.0, v) ∷ es) (e ∷ put es k v) ≡ e ∷ es) [
      | Less ↦ λ t f. let both : None ≡ Some v = sym (at_above k es (after_all k e.0 t (keys_of es) sorted.0)) ∙ f in cc
      | Equal ↦ λ t f. let same : e.1 ≡ v = cc in ap (λ (w : X). (e.0, w) ∷ es) (sym same)
      | Greater ↦ λ t f. ap (λ fs. e ∷ fs) (put_there k v es sorted.1 f)
    ] refl found

pub competitors-stance : (l : Listing) (key : Text) (s : Stance) → AreInOrder l.flights → stance_of l key ≡ Some s → competitors l ≡ with_one (competitor key s) (competitors (record l { flights = without l.flights key }))
competitors-stance l key s sorted found =
    ap (λ fs. competitors (record l { flights = fs })) (sym (put_there key s l.flights sorted found)) ∙ competitors-put l key s sorted

-- without a competitor they are what they were before it was put in
pub competitors_left : (l : Listing) (key : Text) (eto : ℕ) → AreInOrder l.flights → stance_of l key ≡ Some (Competing eto) → competitors l ≡ insert_sorted is_before (record { eto = eto; key = key }) (competitors (record l { flights = without l.flights key }))
competitors_left l key eto sorted found = competitors-stance l key (Competing eto) sorted found

-- and a flight that is issued or forced competes no more
pub competitors_stopped : (l : Listing) (key : Text) (s : Stance) → AreInOrder l.flights → competitor key s ≡ None → competitors (record l { flights = put l.flights key s }) ≡ competitors (record l { flights = without l.flights key })
competitors_stopped l key s sorted idle =
    competitors-put l key s sorted ∙ ap (λ o. with_one o (competitors (record l { flights = without l.flights key }))) idle

-- whether a competitor is another flight
abbrev pub is_other : Text → Comp → Bool
is_other key c = not (same_text key c.key)

other_name : (k q : Text) → is_eq (text_cmp k q) ≡ false → not (same_text k q) ≡ true
other_name k q apart =
    ap not (false_from_ne_true _ (λ h. both_ways _ apart (subst (λ (p : Text). is_eq (text_cmp k p) ≡ true) (text_is k q (sym h)) (itself k))))

abbrev AreOther : Text → List (Text × Stance) → Type 0
AreOther k fs = AllByRecursion (λ (e : Text × Stance). not (same_text k e.0) ≡ true) fs

others_above : (k : Text) (fs : List (Text × Stance)) → Above k fs → AreOther k fs
others_above k [] h = tt
others_above k (e ∷ es) h = (other_name k e.0 (ap is_eq h.0), others_above k es h.1)

others-without : (k : Text) (fs : List (Text × Stance)) → AreInOrder fs → AreOther k (without fs k)
unfolding IsStrictlySortedBy
others-without k [] sorted = tt
others-without k (e ∷ es) sorted =
    elim (is_eq (text_cmp k e.0)) as (λ b. is_eq (text_cmp k e.0) ≡ b → AreOther k (cond b es (e ∷ without es k))) [
      | true ↦ λ t. subst (λ (q : Text). AreOther q es) (sym (same_name k e.0 t)) (others_above e.0 es sorted.0)
      | false ↦ λ t. (other_name k e.0 t, others-without k es sorted.1)
    ] refl

ranked_others : (k : Text) (fs : List (Text × Stance)) (cs : List Comp) → AreOther k fs → AllByRecursion (λ (c : Comp). is_other k c ≡ true) cs → AllByRecursion (λ (c : Comp). is_other k c ≡ true) (ranked cs fs)
ranked_others k [] cs h g = g
ranked_others k ((q, Competing eto) ∷ es) cs h g = ranked_others k es (insert_sorted is_before (record { eto = eto; key = q }) cs) h.1 (all-put_by (λ (c : Comp). is_other k c ≡ true) is_before (record { eto = eto; key = q }) h.0 cs g)
ranked_others k ((q, Issued eto t) ∷ es) cs h g = ranked_others k es cs h.1 g
ranked_others k ((q, Forced eto) ∷ es) cs h g = ranked_others k es cs h.1 g

pub competitors_others : (l : Listing) (key : Text) → AreInOrder l.flights → AllByRecursion (λ (c : Comp). is_other key c ≡ true) (competitors (record l { flights = without l.flights key }))
competitors_others l key sorted = ranked_others key (without l.flights key) [] (others-without key l.flights sorted) tt
