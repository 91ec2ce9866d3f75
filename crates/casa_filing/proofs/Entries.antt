-- entries in order of their names: what holds of each, and what a look-up finds
use Rattle.std.proofs.Common.{◌≡◌, List, [], ◌∷◌, Bool, true, false, cond, refl, sym, ap, ◌∙◌, Option, None, Some, subst, map}
use Rattle.std.specs.declared.cmp.Ordering.{Ordering}
use Rattle.std.specs.declared.cmp.Ordering.TheVariants.{Less, Equal, Greater}
use Rattle.std.specs.Ordering.{is_eq, match_ordering, nat_cmp, ordering_reverse}
use Rattle.std.specs.Option.{option_map}
use Rattle.std.specs.List.{AllByRecursion, filter_map, cons_option}
use Rattle.std.specs.List.Sorted.{IsStrictlySortedBy}
use Rattle.std.specs.Map.{remove_entry, keys_of}
use Rattle.std.specs.Cmp.Lexicographic.{slice_cmp, same_text as text_is}
use Rattle.std.proofs.lemmas.Bool.{both_ways}
use Rattle.std.proofs.lemmas.Cmp.{nat_list_cmp_total, nat_list_eq_equiv, tied_itself}
use Rattle.std.proofs.lemmas.Map.Lookups.{exact_bytes}
use Rattle.casa_filing.specs.Text.{Text, same_text, at_name, put, without}

abbrev pub text_cmp : Text → Text → Ordering
text_cmp = slice_cmp nat_cmp

pub same_name : (k q : Text) → is_eq (text_cmp k q) ≡ true → k ≡ q
same_name k q h =
    elim (text_cmp k q) as (λ r. text_cmp k q ≡ r → is_eq r ≡ true → k ≡ q) [
      | Less ↦ λ e t. cc
      | Equal ↦ λ e t. exact_bytes k q e
      | Greater ↦ λ e t. cc
    ] refl h

pub itself : (k : Text) → is_eq (text_cmp k k) ≡ true
itself k = ap is_eq (tied_itself nat_list_cmp_total k)

-- a test of names is the same from both sides
pub other_way : (a b : Text) → is_eq (text_cmp a b) ≡ false → is_eq (text_cmp b a) ≡ false
other_way a b h =
    elim (is_eq (text_cmp b a)) as (λ t. is_eq (text_cmp b a) ≡ t → t ≡ false) [
      | true ↦ λ t. let e : b ≡ a = same_name b a t in absurd (both_ways _ h (subst (λ (q : Text). is_eq (text_cmp a q) ≡ true) (sym e) (itself a)))
      | false ↦ λ t. refl
    ] refl

-- names that are the same, and names that differ as a look-up of the second one meets the first
pub named : (a b : Text) → same_text a b ≡ true → a ≡ b
named a b h = text_is a b (sym h)

pub apart : (a b : Text) → same_text a b ≡ false → is_eq (text_cmp b a) ≡ false
apart a b h =
    elim (is_eq (text_cmp b a)) as (λ t. is_eq (text_cmp b a) ≡ t → t ≡ false) [
      | true ↦ λ t. let e : b ≡ a = same_name b a t in absurd (both_ways _ h (subst (λ (q : Text). same_text a q ≡ true) (sym e) (nat_list_eq_equiv.refl a)))
      | false ↦ λ t. refl
    ] refl

-- what holds of each entry holds of each after one is put in
pub all-put : {X : Type 0} (P : Text × X → Type 0) (k : Text) (v : X) → P (k, v) → (es : List (Text × X)) → AllByRecursion P es → AllByRecursion P (put es k v)
all-put P k v new [] h = (new, tt)
all-put {X} P k v new (e ∷ es) h =
    elim (text_cmp k e.0) as (λ r. text_cmp k e.0 ≡ r → AllByRecursion P (match_ordering r ((k, v) ∷ e ∷ es) ((e.0, v) ∷ es) (e ∷ put es k v))) [
      | Less ↦ λ t. (new, h)
      | Equal ↦ λ t. (subst (λ (q : Text). P (q, v)) (exact_bytes k e.0 t) new, h.1)
      | Greater ↦ λ t. (h.0, all-put P k v new es h.1)
    ] refl

pub all-remove : {X : Type 0} (P : Text × X → Type 0) (test : Text → Bool) (es : List (Text × X)) → AllByRecursion P es → AllByRecursion P (remove_entry test es)
all-remove P test [] h = tt
all-remove {X} P test (e ∷ es) h =
    elim (test e.0) as (λ b. AllByRecursion P (cond b es (e ∷ remove_entry test es))) [
      | true ↦ h.1
      | false ↦ (h.0, all-remove P test es h.1)
    ]

-- and of the one that a look-up finds
pub all_at : {X : Type 0} (P : Text × X → Type 0) (k : Text) (v : X) (es : List (Text × X)) → AllByRecursion P es → at_name es k ≡ Some v → P (k, v)
all_at P k v [] h found = cc
all_at {X} P k v (e ∷ es) h found =
    elim (is_eq (text_cmp k e.0)) as (λ b. is_eq (text_cmp k e.0) ≡ b → cond b (Some e.1) (at_name es k) ≡ Some v → P (k, v)) [
      | true ↦ λ t f. let value : e.1 ≡ v = cc in subst (λ (w : X). P (k, w)) value (subst (λ (q : Text). P (q, e.1)) (sym (same_name k e.0 t)) h.0)
      | false ↦ λ t f. all_at P k v es h.1 f
    ] refl found

-- keys stay in order
later-put : {X : Type 0} (c : Text → Type 0) (k : Text) (v : X) → c k → (es : List (Text × X)) → AllByRecursion c (keys_of es) → AllByRecursion c (keys_of (put es k v))
later-put c k v new [] h = (new, tt)
later-put {X} c k v new (e ∷ es) h =
    elim (text_cmp k e.0) as (λ r. AllByRecursion c (keys_of (match_ordering r ((k, v) ∷ e ∷ es) ((e.0, v) ∷ es) (e ∷ put es k v)))) [
      | Less ↦ (new, h)
      | Equal ↦ h
      | Greater ↦ (h.0, later-put c k v new es h.1)
    ]

pub after_all : (k q : Text) → text_cmp k q ≡ Less → (ks : List Text) → AllByRecursion (λ y. text_cmp q y ≡ Less) ks → AllByRecursion (λ y. text_cmp k y ≡ Less) ks
after_all k q h [] a = tt
after_all k q h (y ∷ ks) a = (nat_list_cmp_total.trans k q y h a.0, after_all k q h ks a.1)

pub sorted-put : {X : Type 0} (k : Text) (v : X) (es : List (Text × X)) → IsStrictlySortedBy text_cmp (keys_of es) → IsStrictlySortedBy text_cmp (keys_of (put es k v))
unfolding IsStrictlySortedBy
sorted-put k v [] h = (tt, tt)
sorted-put {X} k v (e ∷ es) h =
    elim (text_cmp k e.0) as (λ r. text_cmp k e.0 ≡ r → IsStrictlySortedBy text_cmp (keys_of (match_ordering r ((k, v) ∷ e ∷ es) ((e.0, v) ∷ es) (e ∷ put es k v)))) [
      | Less ↦ λ t. ((t, after_all k e.0 t (keys_of es) h.0), h)
      | Equal ↦ λ t. h
      | Greater ↦ λ t. (later-put (λ y. text_cmp e.0 y ≡ Less) k v (nat_list_cmp_total.antisymm e.0 k ∙ ap ordering_reverse t) es h.0, sorted-put k v es h.1)
    ] refl

later-remove : {X : Type 0} (c : Text → Type 0) (test : Text → Bool) (es : List (Text × X)) → AllByRecursion c (keys_of es) → AllByRecursion c (keys_of (remove_entry test es))
later-remove c test [] h = tt
later-remove {X} c test (e ∷ es) h =
    elim (test e.0) as (λ b. AllByRecursion c (keys_of (cond b es (e ∷ remove_entry test es)))) [
      | true ↦ h.1
      | false ↦ (h.0, later-remove c test es h.1)
    ]

pub sorted-remove : {X : Type 0} (test : Text → Bool) (es : List (Text × X)) → IsStrictlySortedBy text_cmp (keys_of es) → IsStrictlySortedBy text_cmp (keys_of (remove_entry test es))
unfolding IsStrictlySortedBy
sorted-remove test [] h = tt
sorted-remove {X} test (e ∷ es) h =
    elim (test e.0) as (λ b. IsStrictlySortedBy text_cmp (keys_of (cond b es (e ∷ remove_entry test es)))) [
      | true ↦ h.1
      | false ↦ (later-remove (λ y. text_cmp e.0 y ≡ Less) test es h.0, sorted-remove test es h.1)
    ]

twice : {Y : Type 0} (b : Bool) (x y z : Y) → cond b x z ≡ cond b x (cond b y z)
twice true x y z = refl
twice false x y z = refl

parted : {Y : Type 0} (a b : Bool) (x y z : Y) → (a ≡ true → b ≡ true → ⊥) → cond a x (cond b y z) ≡ cond b y (cond a x z)
parted true true x y z h = absurd (h refl refl)
parted true false x y z h = refl
parted false b x y z h = refl

both_names : (q a b : Text) → is_eq (text_cmp q a) ≡ true → is_eq (text_cmp q b) ≡ true → text_cmp b a ≡ Greater → ⊥
both_names q a b h k t =
    let same : b ≡ a = sym (same_name q b k) ∙ same_name q a h in
    let tied : text_cmp b a ≡ Equal = subst (λ (p : Text). text_cmp b p ≡ Equal) same (tied_itself nat_list_cmp_total b) in
    cc

-- a look-up after an entry is put in
pub at-put : {X : Type 0} (q k : Text) (v : X) (es : List (Text × X)) → at_name (put es k v) q ≡ cond (is_eq (text_cmp q k)) (Some v) (at_name es q)
at-put q k v [] = refl
at-put {X} q k v (e ∷ es) =
    elim (text_cmp k e.0) as (λ r. text_cmp k e.0 ≡ r → at_name (match_ordering r ((k, v) ∷ e ∷ es) ((e.0, v) ∷ es) (e ∷ put es k v)) q ≡ cond (is_eq (text_cmp q k)) (Some v) (at_name (e ∷ es) q)) [
      | Less ↦ λ t. refl
      | Equal ↦ λ t. subst (λ (p : Text). cond (is_eq (text_cmp q e.0)) (Some v) (at_name es q) ≡ cond (is_eq (text_cmp q p)) (Some v) (cond (is_eq (text_cmp q e.0)) (Some e.1) (at_name es q))) (sym (exact_bytes k e.0 t)) (twice (is_eq (text_cmp q e.0)) (Some v) (Some e.1) (at_name es q))
      | Greater ↦ λ t. ap (λ (o : Option X). cond (is_eq (text_cmp q e.0)) (Some e.1) o) (at-put q k v es) ∙ parted (is_eq (text_cmp q e.0)) (is_eq (text_cmp q k)) (Some e.1) (Some v) (at_name es q) (λ a b. both_names q e.0 k a b t)
    ] refl

pub at-put_other : {X : Type 0} (q k : Text) (v : X) (es : List (Text × X)) → is_eq (text_cmp q k) ≡ false → at_name (put es k v) q ≡ at_name es q
at-put_other q k v es h = at-put q k v es ∙ (rw h)

pub at-put_same : {X : Type 0} (k : Text) (v : X) (es : List (Text × X)) → at_name (put es k v) k ≡ Some v
at-put_same k v es = at-put k k v es ∙ (rw (itself k))

-- what holds of each entry may change with an entry put in, but for this one
all-above : {X : Type 0} (P Q : Text × X → Type 0) (k : Text) → ((e : Text × X) → is_eq (text_cmp k e.0) ≡ false → P e → Q e) → (es : List (Text × X)) → AllByRecursion (λ y. text_cmp k y ≡ Less) (keys_of es) → AllByRecursion P es → AllByRecursion Q es
all-above P Q k f [] above h = tt
all-above P Q k f (e ∷ es) above h = (f e (ap is_eq above.0) h.0, all-above P Q k f es above.1 h.1)

pub all-put-but : {X : Type 0} (P Q : Text × X → Type 0) (k : Text) (v : X) → Q (k, v) → ((e : Text × X) → is_eq (text_cmp k e.0) ≡ false → P e → Q e) → (es : List (Text × X)) → IsStrictlySortedBy text_cmp (keys_of es) → AllByRecursion P es → AllByRecursion Q (put es k v)
unfolding IsStrictlySortedBy
all-put-but P Q k v new f [] sorted h = (new, tt)
all-put-but {X} P Q k v new f (e ∷ es) sorted h =
    elim (text_cmp k e.0) as (λ r. text_cmp k e.0 ≡ r → AllByRecursion Q (match_ordering r ((k, v) ∷ e ∷ es) ((e.0, v) ∷ es) (e ∷ put es k v))) [
      | Less ↦ λ t. (new, (f e (ap is_eq t) h.0, all-above P Q k f es (after_all k e.0 t (keys_of es) sorted.0) h.1))
      | Equal ↦ λ t.
          let here : k ≡ e.0 = exact_bytes k e.0 t in
          (subst (λ (q : Text). Q (q, v)) here new, all-above P Q k f es (subst (λ (q : Text). AllByRecursion (λ y. text_cmp q y ≡ Less) (keys_of es)) (sym here) sorted.0) h.1)
      | Greater ↦ λ t. (f e (ap is_eq t) h.0, all-put-but P Q k v new f es sorted.1 h.1)
    ] refl

pub put-put : {X : Type 0} (k : Text) (v w : X) (es : List (Text × X)) → put (put es k v) k w ≡ put es k w
put-put k v w [] = rw (tied_itself nat_list_cmp_total k)
put-put {X} k v w (e ∷ es) =
    elim (text_cmp k e.0) as (λ r. text_cmp k e.0 ≡ r → put (match_ordering r ((k, v) ∷ e ∷ es) ((e.0, v) ∷ es) (e ∷ put es k v)) k w ≡ match_ordering r ((k, w) ∷ e ∷ es) ((e.0, w) ∷ es) (e ∷ put es k w)) [
      | Less ↦ λ t. rw (tied_itself nat_list_cmp_total k)
      | Equal ↦ λ t. rw t
      | Greater ↦ λ t. rw (t, put-put k v w es)
    ] refl

pub all-each : {X : Type 0} (P Q : X → Type 0) → ((x : X) → P x → Q x) → (xs : List X) → AllByRecursion P xs → AllByRecursion Q xs
all-each P Q f [] h = tt
all-each P Q f (x ∷ xs) h = (f x h.0, all-each P Q f xs h.1)

-- each entry is found under its name
later-found : {X : Type 0} (e : Text × X) (es fs : List (Text × X)) → AllByRecursion (λ y. text_cmp e.0 y ≡ Less) (keys_of fs) → AllByRecursion (λ (y : Text × X). at_name es y.0 ≡ Some y.1) fs → AllByRecursion (λ (y : Text × X). at_name (e ∷ es) y.0 ≡ Some y.1) fs
later-found e es [] above h = tt
later-found {X} e es (y ∷ fs) above h =
    let apart : text_cmp y.0 e.0 ≡ Greater = nat_list_cmp_total.antisymm y.0 e.0 ∙ ap ordering_reverse above.0 in
    (ap (λ (b : Ordering). cond (is_eq b) (Some e.1) (at_name es y.0)) apart ∙ h.0, later-found e es fs above.1 h.1)

pub each_found : {X : Type 0} (es : List (Text × X)) → IsStrictlySortedBy text_cmp (keys_of es) → AllByRecursion (λ (e : Text × X). at_name es e.0 ≡ Some e.1) es
unfolding IsStrictlySortedBy
each_found [] h = tt
each_found {X} (e ∷ es) h = (ap (λ (b : Bool). cond b (Some e.1) (at_name es e.0)) (itself e.0), later-found e es es h.0 (each_found es h.1))

pub all-filter_map : {X Y : Type 0} (P : X → Type 0) (Q : Y → Type 0) (g : X → Option Y) → ((x : X) (y : Y) → P x → g x ≡ Some y → Q y) → (xs : List X) → AllByRecursion P xs → AllByRecursion Q (filter_map g xs)
all-filter_map P Q g f [] h = tt
all-filter_map {X} {Y} P Q g f (x ∷ xs) h =
    elim (g x) as (λ (o : Option Y). g x ≡ o → AllByRecursion Q (cons_option o (filter_map g xs))) [
      | None ↦ λ e. all-filter_map P Q g f xs h.1
      | Some y ↦ λ e. (f x y h.0 e, all-filter_map P Q g f xs h.1)
    ] refl

pub filter_map-map : {X Y Z : Type 0} (g : Y → Option Z) (f : X → Y) (xs : List X) → filter_map g (map f xs) ≡ filter_map (λ (x : X). g (f x)) xs
filter_map-map g f [] = refl
filter_map-map {X} {Y} {Z} g f (x ∷ xs) = ap (λ (zs : List Z). cons_option (g (f x)) zs) (filter_map-map g f xs)

pub all-both : {X : Type 0} (P Q : X → Type 0) (xs : List X) → AllByRecursion P xs → AllByRecursion Q xs → AllByRecursion (λ x. P x × Q x) xs
all-both P Q [] h g = tt
all-both P Q (x ∷ xs) h g = ((h.0, g.0), all-both P Q xs h.1 g.1)

-- entries with other values under their names
pub keys-map : {X : Type 0} (f : Text × X → X) (es : List (Text × X)) → keys_of (map (λ (e : Text × X). (e.0, f e)) es) ≡ keys_of es
keys-map f [] = refl
keys-map f (e ∷ es) = ap (λ (ks : List Text). e.0 ∷ ks) (keys-map f es)

pub all-map : {X : Type 0} (P Q : Text × X → Type 0) (f : Text × X → X) → ((e : Text × X) → P e → Q (e.0, f e)) → (es : List (Text × X)) → AllByRecursion P es → AllByRecursion Q (map (λ (e : Text × X). (e.0, f e)) es)
all-map P Q f step [] h = tt
all-map P Q f step (e ∷ es) h = (step e h.0, all-map P Q f step es h.1)

-- a look-up that finds nothing passes each entry
pub none_at : {X : Type 0} (k : Text) (es : List (Text × X)) → at_name es k ≡ None → AllByRecursion (λ (e : Text × X). is_eq (text_cmp k e.0) ≡ false) es
none_at k [] h = tt
none_at {X} k (e ∷ es) h =
    elim (is_eq (text_cmp k e.0)) as (λ b. cond b (Some e.1) (at_name es k) ≡ None → (b ≡ false) × AllByRecursion (λ (y : Text × X). is_eq (text_cmp k y.0) ≡ false) es) [
      | true ↦ λ f. cc
      | false ↦ λ f. (refl, none_at k es f)
    ] h

-- a look-up of another name after one is taken out
pub at-without_other : {X : Type 0} (q k : Text) (es : List (Text × X)) → is_eq (text_cmp q k) ≡ false → at_name (without es k) q ≡ at_name es q
at-without_other q k [] h = refl
at-without_other {X} q k (e ∷ es) h =
    elim (is_eq (text_cmp k e.0)) as (λ b. is_eq (text_cmp k e.0) ≡ b → at_name (cond b es (e ∷ without es k)) q ≡ cond (is_eq (text_cmp q e.0)) (Some e.1) (at_name es q)) [
      | true ↦ λ t.
          let apart : is_eq (text_cmp q e.0) ≡ false = ap (λ (p : Text). is_eq (text_cmp q p)) (sym (same_name k e.0 t)) ∙ h in
          sym (ap (λ b. cond b (Some e.1) (at_name es q)) apart)
      | false ↦ λ t. ap (λ (o : Option X). cond (is_eq (text_cmp q e.0)) (Some e.1) o) (at-without_other q k es h)
    ] refl

pub filter_map-each : {X Y : Type 0} (f g : X → Option Y) (xs : List X) → AllByRecursion (λ (x : X). f x ≡ g x) xs → filter_map f xs ≡ filter_map g xs
filter_map-each f g [] h = refl
filter_map-each {X} {Y} f g (x ∷ xs) h = λ i. cons_option (h.0 i) (filter_map-each f g xs h.1 i)

-- a look-up among entries with other values under their names
pub at-map : {X : Type 0} (f : Text → X → X) (k : Text) (es : List (Text × X)) → at_name (map (λ (e : Text × X). (e.0, f e.0 e.1)) es) k ≡ option_map (f k) (at_name es k)
at-map f k [] = refl
at-map {X} f k (e ∷ es) =
    elim (is_eq (text_cmp k e.0)) as (λ b. is_eq (text_cmp k e.0) ≡ b → cond b (Some (f e.0 e.1)) (at_name (map (λ (e : Text × X). (e.0, f e.0 e.1)) es) k) ≡ option_map (f k) (cond b (Some e.1) (at_name es k))) [
      | true ↦ λ p. ap (λ (q : Text). Some (f q e.1)) (sym (same_name k e.0 p))
      | false ↦ λ p. at-map f k es
    ] refl
