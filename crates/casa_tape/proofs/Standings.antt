-- What a crash leaves of a file in memory.
use Rattle.std.proofs.Common.{◌≡◌, ℕ, zero, suc, List, [], ◌∷◌, ◌++◌, ◌-◌, length, take, drop, refl, sym, ◌∙◌, ap, subst, arith, length-drop, take-append-drop}
use Rattle.std.proofs.lemmas.List.{append-nil, take_all}
use Rattle.casa_tape.specs.Tape.{IsTorn, TornBehind, CutTo}
use Rattle.casa_tape.specs.Memory.{shown_bytes, left_by}
use Rattle.casa_tape.specs.Standings.{shown_left}
use Rattle.casa_tape.specs.declared.memory.Standing.{Standing}
use Rattle.casa_tape.proofs.Torn.{torn_whole}

torn_of_none : (torn : List ℕ) → IsTorn [] torn → torn ≡ []
torn_of_none [] is = refl
torn_of_none (c ∷ cs) is = absurd is

take_none : (n : ℕ) → take {A = ℕ} n [] ≡ []
take_none zero = refl
take_none (suc n) = refl

pub append_not : (s new : Standing) (bytes c : List ℕ) → new ≡ s → left_by new c → (x : List ℕ) × left_by s x × TornBehind bytes x c
append_not s new bytes c is left = (c, subst (λ (x : Standing). left_by x c) is left, ([], tt, sym (append-nil c)))

pub appended : (s new : Standing) (bytes c : List ℕ) → new.solid.items ≡ shown_bytes s → new.loose.items ≡ bytes → left_by new c → (x : List ℕ) × left_by s x × TornBehind bytes x c
appended s new bytes c solid loose left =
    (shown_bytes s, shown_left s (shown_bytes s) refl, (left.0, subst (λ (l : List ℕ). IsTorn l left.0) loose left.1, left.2 ∙ ap (λ (l : List ℕ). l ++ left.0) solid))

pub cut_not : (s new : Standing) (len : ℕ) (c : List ℕ) → new ≡ s → left_by new c → (x : List ℕ) × left_by s x × CutTo len x c
cut_not s new len c is left = (c, subst (λ (x : Standing). left_by x c) is left, (drop len c, torn_whole (drop len c), sym (take-append-drop len c)))

pub cut_done : (s new : Standing) (len : ℕ) (c : List ℕ) → new.solid.items ≡ take len (shown_bytes s) → new.loose.items ≡ drop len (shown_bytes s) → left_by new c
    → (x : List ℕ) × left_by s x × CutTo len x c
cut_done s new len c solid loose left =
    (shown_bytes s, shown_left s (shown_bytes s) refl, (left.0, subst (λ (l : List ℕ). IsTorn l left.0) loose left.1, left.2 ∙ ap (λ (l : List ℕ). l ++ left.0) solid))

pub synced : (new : Standing) (c : List ℕ) → new.loose.items ≡ [] → left_by new c → c ≡ shown_bytes new
synced new c none left =
    left.2 ∙ ap (λ (l : List ℕ). new.solid.items ++ l) (torn_of_none left.0 (subst (λ (l : List ℕ). IsTorn l left.0) none left.1))
    ∙ ap (λ (l : List ℕ). new.solid.items ++ l) (sym (ap (λ (l : List ℕ). take new.shown l) none ∙ take_none new.shown))

pub sync_leaves : (s new : Standing) (c : List ℕ) → new.loose.items ≡ [] → new.solid.items ≡ shown_bytes s → left_by new c → left_by s c
sync_leaves s new c none solid left =
    let is : c ≡ shown_bytes s =
    left.2 ∙ ap (λ (l : List ℕ). new.solid.items ++ l) (torn_of_none left.0 (subst (λ (l : List ℕ). IsTorn l left.0) none left.1)) ∙ append-nil new.solid.items ∙ solid in
    shown_left s c is

pub rest_of : (n : ℕ) (xs : List ℕ) → take (length xs - n) (drop n xs) ≡ drop n xs
rest_of n xs = take_all (length xs - n) (drop n xs) (omega (arith, length-drop n xs))

pub new_synced : (s : Standing) → s.loose.items ≡ [] → (c : List ℕ) → left_by s c → c ≡ shown_bytes s
new_synced s none c left = synced s c none left
