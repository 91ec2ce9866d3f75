-- a location that is entered: at its first place, or at the end; and what is kept of many crossings
use Rattle.std.proofs.Common.{◌≡◌, ◌∙◌, ◌∷◌, ◌++◌, [], ℕ, zero, suc, ◌+◌, ◌<◌, arith, List, length, filter, Bool, true, false, cond, refl, sym, ap, Some, None, set, get_or, min}
use Rattle.std.specs.Prelude.{nat_lt, ◌&&◌, if◌then◌else◌}
use Rattle.std.specs.List.{list_any, position, position_from}
use Rattle.std.proofs.lemmas.Bool.{lt-ltb}
use Rattle.std.proofs.lemmas.Iterator.Adapters.{position_from-zero}
use Rattle.std.proofs.lemmas.List.Quantifiers.{position-Some}
use Rattle.casa_filing.specs.Text.{Text, same_text}
use Rattle.casa_filing.specs.declared.plan.Crossing.{Crossing}
use Rattle.casa_import.specs.Filing.{enter, kept}

abbrev pub is_there : Text → Crossing → Bool
is_there loc c = same_text c.loc loc

abbrev pub earlier : Crossing → Crossing → Crossing
earlier entry c = record c { eto = min c.eto entry.eto }

chosen : (entry c : Crossing) (via : List Crossing) (b : Bool) → is_there entry.loc c ≡ b
    → enter (c ∷ via) entry ≡ cond b (earlier entry c ∷ via) (c ∷ enter via entry)
chosen entry c via b e = ap (λ t. cond t (earlier entry c ∷ via) (c ∷ enter via entry)) e

at_place : (via : List Crossing) (i : ℕ) (entry d : Crossing) → i < length via → is_there entry.loc (get_or via i d) ≡ true
    → ((k : ℕ) → k < i → is_there entry.loc (get_or via k d) ≡ false) → set via i (earlier entry (get_or via i d)) ≡ enter via entry
at_place [] i entry d lt there first = absurd (omega arith)
at_place (c ∷ via) zero entry d lt there first = sym (chosen entry c via true there)
at_place (c ∷ via) (suc i) entry d lt there first =
    ap (λ (cs : List Crossing). c ∷ cs) (at_place via i entry d (omega arith) there (λ k below. first (suc k) (omega arith)))
    ∙ sym (chosen entry c via false (first zero (omega arith)))

-- where the location is entered already
pub enter-there : (via : List Crossing) (i : ℕ) (entry d : Crossing) → position (is_there entry.loc) via ≡ Some i
    → set via i (earlier entry (get_or via i d)) ≡ enter via entry
enter-there via i entry d e =
    let first = position-Some (is_there entry.loc) via i d e in at_place via i entry d first.0 first.1 first.2

at_end : (via : List Crossing) (entry : Crossing) (i : ℕ) → position_from (is_there entry.loc) i via ≡ None → via ++ entry ∷ [] ≡ enter via entry
at_end [] entry i e = refl
at_end (c ∷ via) entry i e = by (is_there entry.loc c) refl e (at_end via entry (i + 1))
  where
    by : (b : Bool) → is_there entry.loc c ≡ b → cond b (Some i) (position_from (is_there entry.loc) (i + 1) via) ≡ None
        → (position_from (is_there entry.loc) (i + 1) via ≡ None → via ++ entry ∷ [] ≡ enter via entry)
        → c ∷ (via ++ entry ∷ []) ≡ enter (c ∷ via) entry
    by true t f rest = absurd (cc)
    by false t f rest = ap (λ (cs : List Crossing). c ∷ cs) (rest f) ∙ sym (chosen entry c via false t)

-- where it is not
pub enter-apart : (via : List Crossing) (entry : Crossing) → position (is_there entry.loc) via ≡ None → via ++ entry ∷ [] ≡ enter via entry
enter-apart via entry e = at_end via entry 0 (sym (position_from-zero (is_there entry.loc) via) ∙ e)

abbrev chosen_of : Bool → List Text → List Crossing → List Crossing
chosen_of b locations via = if b then filter (λ (c : Crossing). list_any (λ loc. same_text loc c.loc) locations) via else via

-- of more than 32 crossings those at these locations
pub kept-many : (locations : List Text) (via : List Crossing) → 32 < length via → 0 < length locations
    → kept locations via ≡ filter (λ (c : Crossing). list_any (λ loc. same_text loc c.loc) locations) via
kept-many locations via many some =
    ap (λ b. chosen_of (b && nat_lt 0 (length locations)) locations via) (lt-ltb 32 (length via) many)
    ∙ ap (λ b. chosen_of b locations via) (lt-ltb 0 (length locations) some)
