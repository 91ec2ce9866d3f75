-- a guard that looks at one byte after the other
use Rattle.std.proofs.Common.{◌≡◌, ◌≢◌, ℕ, ◌<◌, ◌≤◌, List, [], ◌∷◌, ◌++◌, length, take, get_or, Option, None, Some, Result, Ok, Err, true, false, refl, sym, ap, subst, ◌∙◌, append_assoc, arith}
use Rattle.std.specs.Prelude.{if◌then◌else◌, slice_get, slice_set, OnOk}
use Rattle.std.specs.List.{remove}
use Rattle.std.specs.Io.KnownBytes.{Keeps, Consumes, IsAtEnd, prepend_known}
use Rattle.std.proofs.lemmas.List.{append-nil}
use Rattle.casa_server.specs.declared.guard.Stage.{Stage}
use Rattle.casa_server.specs.declared.guard.Stage.TheVariants.{Looking, Passed, Turned}
use Rattle.casa_server.specs.Requests.{begins_request, let_through}
use Rattle.casa_server.specs.Looks.{IsOpen, Tells}
use Rattle.casa_server.specs.Guards.{left_at, IsTurnedAt}

pub keeps_itself : (a : Option (List ℕ)) → Keeps a a
keeps_itself None = tt
keeps_itself (Some xs) = refl

pub keeps_on : (a b c : Option (List ℕ)) → Keeps a b → Keeps b c → Keeps a c
keeps_on None b c first second = tt
keeps_on (Some xs) None c first second = absurd first
keeps_on (Some xs) (Some ys) None first second = absurd second
keeps_on (Some xs) (Some ys) (Some zs) first second = second ∙ first

let_all : (xs : List ℕ) → begins_request xs ≡ false → let_through xs ≡ xs
let_all xs none = ap (λ b. if b then [] else xs) none

let_nothing : (xs : List ℕ) → begins_request xs ≡ true → let_through xs ≡ []
let_nothing xs some = ap (λ b. if b then [] else xs) some

-- what is left when a byte more was looked at
pub looked_on : (held : List ℕ) (byte : ℕ) (stage : Stage) (before after : Option (List ℕ)) → Tells (held ++ byte ∷ []) stage → Consumes before after (byte ∷ [])
    → Keeps (left_at Looking (prepend_known held before)) (left_at stage (prepend_known (held ++ byte ∷ []) after))
looked_on held byte stage None after tells given = tt
looked_on held byte stage (Some xs) None tells given = absurd given
looked_on held byte Looking (Some xs) (Some ys) tells given = ap let_through (append_assoc held (byte ∷ []) ys ∙ ap (λ (l : List ℕ). held ++ l) (sym given))
looked_on held byte Passed (Some xs) (Some ys) tells given =
    let same : (held ++ byte ∷ []) ++ ys ≡ held ++ xs = append_assoc held (byte ∷ []) ys ∙ ap (λ (l : List ℕ). held ++ l) (sym given) in
    same ∙ sym (let_all (held ++ xs) (subst (λ (l : List ℕ). begins_request l ≡ false) same (tells ys)))
looked_on held byte Turned (Some xs) (Some ys) tells given =
    let same : (held ++ byte ∷ []) ++ ys ≡ held ++ xs = append_assoc held (byte ∷ []) ys ∙ ap (λ (l : List ℕ). held ++ l) (sym given) in
    sym (let_nothing (held ++ xs) (subst (λ (l : List ℕ). begins_request l ≡ true) same (tells ys)))

-- and a request stays one
pub looked_at_request : (held : List ℕ) (byte : ℕ) (stage : Stage) (before after : Option (List ℕ)) → Tells (held ++ byte ∷ []) stage → Consumes before after (byte ∷ [])
    → IsTurnedAt Looking (prepend_known held before) → IsTurnedAt stage (prepend_known (held ++ byte ∷ []) after)
looked_at_request held byte stage None after tells given is = absurd is
looked_at_request held byte stage (Some xs) None tells given is = absurd given
looked_at_request held byte Looking (Some xs) (Some ys) tells given is =
    subst (λ (l : List ℕ). begins_request l ≡ true) (ap (λ (l : List ℕ). held ++ l) given ∙ sym (append_assoc held (byte ∷ []) ys)) is
looked_at_request held byte Passed (Some xs) (Some ys) tells given is =
    let same : held ++ xs ≡ (held ++ byte ∷ []) ++ ys = ap (λ (l : List ℕ). held ++ l) given ∙ sym (append_assoc held (byte ∷ []) ys) in
    let other : begins_request ((held ++ byte ∷ []) ++ ys) ≡ true = subst (λ (l : List ℕ). begins_request l ≡ true) same is in
    let none : begins_request ((held ++ byte ∷ []) ++ ys) ≡ false = tells ys in cc
looked_at_request held byte Turned (Some xs) (Some ys) tells given is = tt

-- what is left when the source was seen to be at its end
pub looked_to_end : (held : List ℕ) (before after : Option (List ℕ)) → IsOpen held → Consumes before after [] → IsAtEnd after
    → Keeps (left_at Looking (prepend_known held before)) (left_at Passed (prepend_known held after))
looked_to_end held None after is given end = tt
looked_to_end held (Some xs) None is given end = absurd given
looked_to_end held (Some xs) (Some ys) is given end =
    let nothing : xs ≡ [] = given ∙ end in
    let whole : held ++ xs ≡ held = ap (λ (l : List ℕ). held ++ l) nothing ∙ append-nil held in
    ap (λ (l : List ℕ). held ++ l) (sym given) ∙ sym (let_all (held ++ xs) (subst (λ (l : List ℕ). begins_request l ≡ false) (sym whole) is.none))

pub no_request_ends : (held : List ℕ) (before after : Option (List ℕ)) → IsOpen held → Consumes before after [] → IsAtEnd after
    → IsTurnedAt Looking (prepend_known held before) → ⊥
no_request_ends held None after is given end turned = turned
no_request_ends held (Some xs) None is given end turned = given
no_request_ends held (Some xs) (Some ys) is given end turned =
    let whole : held ++ xs ≡ held = ap (λ (l : List ℕ). held ++ l) (given ∙ end) ∙ append-nil held in
    let other : begins_request held ≡ true = subst (λ (l : List ℕ). begins_request l ≡ true) whole turned in
    let none : begins_request held ≡ false = is.none in cc

-- a read of one byte that gave some gave that
pub one_byte : (n : ℕ) (bytes : List ℕ) → length bytes ≡ 1 → n ≢ 0 → n ≤ length bytes → take n bytes ≡ get_or bytes 0 0 ∷ []
one_byte n [] one some within = absurd (omega arith)
one_byte n (b ∷ []) one some within = let whole : n ≡ 1 = omega arith in rw whole refl
one_byte n (b ∷ c ∷ bytes) one some within = absurd (omega arith)

-- a byte that was held is given
pub gives_first : (stage : Stage) (held rest : List ℕ) (byte : ℕ) (left : Option (List ℕ)) → stage ≢ Looking → stage ≢ Turned → Some byte ≡ slice_get held 0
    → rest ≡ remove held 0 → Consumes (left_at stage (prepend_known held left)) (left_at stage (prepend_known rest left)) (byte ∷ [])
gives_first Looking held rest byte left on off first others = absurd (on refl)
gives_first Turned held rest byte left on off first others = absurd (off refl)
gives_first Passed held rest byte None on off first others = tt
gives_first Passed [] rest byte (Some xs) on off first others = cc
gives_first Passed (b ∷ held) rest byte (Some xs) on off first others = cc

pub gives_later : (a b c : Option (List ℕ)) (xs : List ℕ) → Keeps a b → Consumes b c xs → Consumes a c xs
gives_later None b c xs kept given = tt
gives_later (Some us) None c xs kept given = absurd kept
gives_later (Some us) (Some vs) None xs kept given = absurd given
gives_later (Some us) (Some vs) (Some ws) xs kept given = sym kept ∙ given

pub on_ok_of : {A E : Type 0} (r : Result A E) (P : Type 0) → P → OnOk r P
on_ok_of (Ok x) P p = p
on_ok_of (Err e) P p = tt

pub first_set : (bytes : List ℕ) (byte : ℕ) → 0 < length bytes → take 1 (slice_set bytes 0 byte) ≡ byte ∷ []
first_set [] byte some = absurd (omega arith)
first_set (b ∷ bytes) byte some = refl

pub some_set : (bytes : List ℕ) (byte : ℕ) → 0 < length bytes → (1 ≤ length (slice_set bytes 0 byte)) × (1 ≡ length (take 1 (slice_set bytes 0 byte)))
some_set [] byte some = absurd (omega arith)
some_set (b ∷ bytes) byte some = (omega arith, refl)
