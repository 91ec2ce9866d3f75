-- entries, each location once
use Rattle.std.proofs.Common.{◌≡◌, ◌∙◌, ◌∷◌, ◌++◌, [], ℕ, min, arith, List, map, Bool, true, false, cond, refl, sym, ap, subst, Option, Some, None, option_map}
use Rattle.std.specs.Prelude.{◌||◌, fold, find}
use Rattle.std.specs.List.{list_any}
use Rattle.std.proofs.lemmas.Bool.{both_ways}
use Rattle.std.proofs.lemmas.Cmp.{nat_list_eq_equiv}
use Rattle.casa_filing.specs.Text.{Text, same_text}
use Rattle.casa_filing.specs.PlanFaults.{has_twice}
use Rattle.casa_filing.specs.Subject.{is_there}
use Rattle.casa_filing.specs.declared.plan.Crossing.{Crossing}
use Rattle.casa_filing.proofs.Entries.{named}
use Rattle.casa_import.specs.Entered.{and_named, earlier_of, first_named, least_at, time_at}
use Rattle.casa_import.specs.Filing.{earliest, enter}

abbrev earlier : Crossing → Crossing → Crossing
earlier c e = record c { eto = min c.eto e.eto }

abbrev locs : List Crossing → List Text
locs via = map (λ (c : Crossing). c.loc) via

-- the places
more : (c : Text) (names : List Text) (name : Text) (b : Bool)
    → cond b (c ∷ names) (c ∷ (names ++ name ∷ [])) ≡ c ∷ cond b names (names ++ name ∷ [])
more c names name true = refl
more c names name false = refl

named_or_more : (c : Text) (names : List Text) (name : Text) (b : Bool)
    → cond b (c ∷ names) (c ∷ and_named names name)
    ≡ cond (b || list_any (λ known. same_text known name) names) (c ∷ names) ((c ∷ names) ++ name ∷ [])
named_or_more c names name true = refl
named_or_more c names name false = sym (more c names name (list_any (λ known. same_text known name) names))

locs-enter : (via : List Crossing) (e : Crossing) → locs (enter via e) ≡ and_named (locs via) e.loc
locs-enter [] e = refl
locs-enter (c ∷ via) e =
    by (same_text c.loc e.loc) (locs-enter via e) ∙ named_or_more c.loc (locs via) e.loc (same_text c.loc e.loc)
  where
    by : (b : Bool) → locs (enter via e) ≡ and_named (locs via) e.loc
        → locs (cond b (earlier c e ∷ via) (c ∷ enter via e)) ≡ cond b (c.loc ∷ locs via) (c.loc ∷ and_named (locs via) e.loc)
    by true h = refl
    by false h = ap (λ (ns : List Text). c.loc ∷ ns) h

locs-entered : (entries via : List Crossing) → locs (fold enter via entries) ≡ fold and_named (locs via) (locs entries)
locs-entered [] via = refl
locs-entered (e ∷ entries) via =
    locs-entered entries (enter via e) ∙ ap (λ names. fold and_named names (locs entries)) (locs-enter via e)

pub places : (entries : List Crossing) → locs (earliest entries) ≡ first_named (locs entries)
places entries = locs-entered entries []

-- the times
earlier_of-none : (o : Option ℕ) → earlier_of o None ≡ o
earlier_of-none None = refl
earlier_of-none (Some n) = refl

earlier_of-assoc : (a b c : Option ℕ) → earlier_of (earlier_of a b) c ≡ earlier_of a (earlier_of b c)
earlier_of-assoc None b c = refl
earlier_of-assoc (Some a) None c = refl
earlier_of-assoc (Some a) (Some b) None = refl
earlier_of-assoc (Some a) (Some b) (Some c) =
    let e : min (min a b) c ≡ min a (min b c) = omega arith in ap (λ n. Some n) e

-- two locations that differ are not both this one
apart_from : (a b x : Text) → same_text a b ≡ false → same_text a x ≡ true → same_text b x ≡ false
apart_from a b x differ here = by (same_text b x) refl
  where
    by : (t : Bool) → same_text b x ≡ t → t ≡ false
    by true there =
        let e : a ≡ b = named a x here ∙ sym (named b x there) in
        absurd (both_ways _ differ (subst (λ (q : Text). same_text a q ≡ true) e (nat_list_eq_equiv.refl a)))
    by false there = refl

abbrev time_of : Text → Crossing → Option ℕ
time_of loc e = cond (same_text e.loc loc) (Some e.eto) None

-- the time at a location in a list that begins with a crossing, which is there or not
abbrev time_behind : Bool → Crossing → Option Crossing → Option ℕ
time_behind b c rest = option_map (λ (d : Crossing). d.eto) (cond b (Some c) rest)

time-same : (c e : Crossing) (b : Bool) (rest : Option Crossing)
    → time_behind b (earlier c e) rest ≡ earlier_of (time_behind b c rest) (cond b (Some e.eto) None)
time-same c e true rest = refl
time-same c e false rest = sym (earlier_of-none (option_map (λ (d : Crossing). d.eto) rest))

time-other : (c e : Crossing) (b t : Bool) (old new : Option Crossing) → (b ≡ true → t ≡ false)
    → option_map (λ (d : Crossing). d.eto) new ≡ earlier_of (option_map (λ (d : Crossing). d.eto) old) (cond t (Some e.eto) None)
    → time_behind b c new ≡ earlier_of (time_behind b c old) (cond t (Some e.eto) None)
time-other c e true t old new differ h = ap (λ s. earlier_of (Some c.eto) (cond s (Some e.eto) None)) (sym (differ refl))
time-other c e false t old new differ h = h

time-alone : (e : Crossing) (b : Bool) → time_behind b e None ≡ cond b (Some e.eto) None
time-alone e true = refl
time-alone e false = refl

time-enter : (loc : Text) (via : List Crossing) (e : Crossing) → time_at loc (enter via e) ≡ earlier_of (time_at loc via) (time_of loc e)
time-enter loc [] e = time-alone e (same_text e.loc loc)
time-enter loc (c ∷ via) e = by (same_text c.loc e.loc) refl (time-enter loc via e)
  where
    by : (b : Bool) → same_text c.loc e.loc ≡ b → time_at loc (enter via e) ≡ earlier_of (time_at loc via) (time_of loc e)
        → time_at loc (cond b (earlier c e ∷ via) (c ∷ enter via e)) ≡ earlier_of (time_at loc (c ∷ via)) (time_of loc e)
    by true t h =
        time-same c e (same_text c.loc loc) (find (is_there loc) via)
        ∙ ap (λ (l : Text). earlier_of (time_at loc (c ∷ via)) (cond (same_text l loc) (Some e.eto) None)) (named c.loc e.loc t)
    by false t h =
        time-other c e (same_text c.loc loc) (same_text e.loc loc) (find (is_there loc) via) (find (is_there loc) (enter via e))
        (apart_from c.loc e.loc loc t) h

time-entered : (loc : Text) (entries via : List Crossing) → time_at loc (fold enter via entries) ≡ earlier_of (time_at loc via) (least_at loc entries)
time-entered loc [] via = sym (earlier_of-none (time_at loc via))
time-entered loc (e ∷ entries) via =
    time-entered loc entries (enter via e)
    ∙ ap (λ o. earlier_of o (least_at loc entries)) (time-enter loc via e)
    ∙ earlier_of-assoc (time_at loc via) (time_of loc e) (least_at loc entries)

pub times : (entries : List Crossing) (loc : Text) → time_at loc (earliest entries) ≡ least_at loc entries
times entries loc = time-entered loc entries []

-- no location twice
or-false : (b : Bool) → (b || false) ≡ b
or-false true = refl
or-false false = refl

or-again : (t r : Bool) → (t || r) ≡ ((t || r) || t)
or-again true r = refl
or-again false r = sym (or-false r)

or-assoc : (t r s : Bool) → (t || (r || s)) ≡ ((t || r) || s)
or-assoc true r s = refl
or-assoc false r s = refl

neither : (a b : Bool) → (a || b) ≡ false → (a ≡ false) × (b ≡ false)
neither true b h = absurd (cc)
neither false b h = (refl, h)

abbrev is_entered : Text → List Crossing → Bool
is_entered x via = list_any (λ (d : Crossing). same_text x d.loc) via

is_entered-enter : (x : Text) (via : List Crossing) (e : Crossing) → is_entered x (enter via e) ≡ (is_entered x via || same_text x e.loc)
is_entered-enter x [] e = or-false (same_text x e.loc)
is_entered-enter x (c ∷ via) e = by (same_text c.loc e.loc) refl (is_entered-enter x via e)
  where
    by : (b : Bool) → same_text c.loc e.loc ≡ b → is_entered x (enter via e) ≡ (is_entered x via || same_text x e.loc)
        → is_entered x (cond b (earlier c e ∷ via) (c ∷ enter via e)) ≡ ((same_text x c.loc || is_entered x via) || same_text x e.loc)
    by true t h =
        or-again (same_text x c.loc) (is_entered x via)
        ∙ ap (λ (l : Text). (same_text x c.loc || is_entered x via) || same_text x l) (named c.loc e.loc t)
    by false t h = ap (λ b. same_text x c.loc || b) h ∙ or-assoc (same_text x c.loc) (is_entered x via) (same_text x e.loc)

has_twice-enter : (via : List Crossing) (e : Crossing) → has_twice via ≡ false → has_twice (enter via e) ≡ false
has_twice-enter [] e h = refl
has_twice-enter (c ∷ via) e h = by (same_text c.loc e.loc) refl (has_twice-enter via e)
  where
    by : (b : Bool) → same_text c.loc e.loc ≡ b → (has_twice via ≡ false → has_twice (enter via e) ≡ false)
        → has_twice (cond b (earlier c e ∷ via) (c ∷ enter via e)) ≡ false
    by true t rest = h
    by false t rest =
        let both = neither (is_entered c.loc via) (has_twice via) h in
        ap (λ b. b || has_twice (enter via e)) (is_entered-enter c.loc via e ∙ ap (λ b. b || same_text c.loc e.loc) both.0 ∙ t)
        ∙ rest both.1

has_twice-entered : (entries via : List Crossing) → has_twice via ≡ false → has_twice (fold enter via entries) ≡ false
has_twice-entered [] via h = h
has_twice-entered (e ∷ entries) via h = has_twice-entered entries (enter via e) (has_twice-enter via e h)

pub apart : (entries : List Crossing) → has_twice (earliest entries) ≡ false
apart entries = has_twice-entered entries [] refl
