-- The identifiers of what is opened are apart.
use Rattle.std.proofs.Common.{◌≡◌, ◌∙◌, ℕ, zero, suc, List, [], ◌∷◌, ◌++◌, take, refl, sym, ap, subst, arith, length-take, true, false}
use Rattle.std.specs.Prelude.{Bool, ◌||◌, map, fold, Option, None, Some, if◌then◌else◌}
use Rattle.std.specs.List.{AllByRecursion, IsDistinct, cons_option, filter_map, list_any}
use Rattle.std.proofs.lemmas.List.{length-map}
use Rattle.casa_grid.specs.declared.period.Period.{Period}
use Rattle.casa_grid.specs.declared.profile.ProfileFault.{ProfileFault}
use Rattle.casa_filing.specs.Text.{Text, same_text}
use Rattle.casa_grid.specs.ProfileFaults.{profile_fault}
use Rattle.casa_import.specs.declared.periods.RegulationPeriod.{RegulationPeriod}
use Rattle.casa_import.specs.declared.periods.RegulationRow.{RegulationRow}
use Rattle.casa_import.specs.declared.regulations.Opening.{Opening}
use Rattle.casa_import.specs.declared.reason.Reason.TheVariants.{NotWhole}
use Rattle.std.specs.Prelude.{Err}
use Rattle.casa_import.specs.Crossings.{made_of}
use Rattle.casa_import.specs.Regulations.{and_reg, first_of, is_whole, opening_from, opening_of, openings, periods_of, periods_said, regs_of, with_profile}
use Rattle.casa_import.specs.Opened.{AllMayOpen}

-- these are all apart from one
abbrev IsApart : Text → List Text → Type 0
IsApart x ys = AllByRecursion (λ y. same_text x y ≡ false) ys

neither : (a b : Bool) → (a || b) ≡ false → (a ≡ false) × (b ≡ false)
neither true b none = cc none
neither false b none = (refl, none)

apart_push : (x : Text) (ys : List Text) (y : Text) → IsApart x ys → same_text x y ≡ false → IsApart x (ys ++ y ∷ [])
apart_push x [] y all is = (is, tt)
apart_push x (z ∷ zs) y all is = (all.0, apart_push x zs y all.1 is)

distinct_push : (xs : List Text) (x : Text) → IsDistinct same_text xs → list_any (λ y. same_text y x) xs ≡ false → IsDistinct same_text (xs ++ x ∷ [])
unfolding IsDistinct
distinct_push [] x distinct none = (tt, tt)
distinct_push (y ∷ ys) x distinct none =
    let both = neither (same_text y x) (list_any (λ z. same_text z x) ys) none in
    (apart_push y ys x distinct.0 both.0, distinct_push ys x distinct.1 both.1)

-- one period more
with_reg : (regs : List Text) (reg : Text) → IsDistinct same_text regs → IsDistinct same_text (and_reg regs reg)
with_reg regs reg distinct = by (list_any (λ known. same_text known reg) regs) refl
  where
    by : (is_known : Bool) → list_any (λ known. same_text known reg) regs ≡ is_known → IsDistinct same_text (if is_known then regs else regs ++ reg ∷ [])
    by true is = distinct
    by false is = distinct_push regs reg distinct is

regs_distinct : (said : List RegulationPeriod) (regs : List Text) → IsDistinct same_text regs
    → IsDistinct same_text (fold (λ (known : List Text) (p : RegulationPeriod). and_reg known p.reg) regs said)
regs_distinct [] regs distinct = distinct
regs_distinct (p ∷ ps) regs distinct = regs_distinct ps (and_reg regs p.reg) (with_reg regs p.reg distinct)

-- what a regulation opens has its identifier
profile_reg : (reg loc : Text) (periods : List Period) (fault : Option ProfileFault) (o : Opening) → made_of (with_profile reg loc periods fault) ≡ Some o → o.reg ≡ reg
profile_reg reg loc periods None o is =
    let same : record { reg = reg; loc = loc; profile = periods } ≡ o = cc is in
    ap (λ (x : Opening). x.reg) (sym same)
profile_reg reg loc periods (Some fault) o is = cc is

from_reg : (reg : Text) (periods : List Period) (first : Option RegulationPeriod) (o : Opening) → made_of (opening_from reg periods first) ≡ Some o → o.reg ≡ reg
from_reg reg periods None o is = cc is
from_reg reg periods (Some p) o is = profile_reg reg p.loc periods (profile_fault periods) o is

own_reg : (rows : List RegulationRow) (reg : Text) (o : Opening) → made_of (opening_of rows reg) ≡ Some o → o.reg ≡ reg
own_reg rows reg o is = by (is_whole rows reg) is
  where
    by : (whole : Bool)
        → made_of (if whole then opening_from reg (periods_of (periods_said rows) reg) (first_of (periods_said rows) reg) else Err NotWhole) ≡ Some o
        → o.reg ≡ reg
    by true is = from_reg reg (periods_of (periods_said rows) reg) (first_of (periods_said rows) reg) o is
    by false is = cc is

abbrev reg_of : Opening → Text
reg_of o = o.reg

-- what opens has the identifier that it was asked for
abbrev Owns : (Text → Option Opening) → Type 0
Owns f = (reg : Text) (o : Opening) → f reg ≡ Some o → o.reg ≡ reg

apart_from : (f : Text → Option Opening) → Owns f → (x : Text) (regs : List Text) → IsApart x regs → IsApart x (map reg_of (filter_map f regs))
apart_from f owns x [] all = tt
apart_from f owns x (reg ∷ regs) all = by (f reg) refl (apart_from f owns x regs all.1)
  where
    by : (found : Option Opening) → f reg ≡ found → IsApart x (map reg_of (filter_map f regs)) → IsApart x (map reg_of (cons_option found (filter_map f regs)))
    by None is rest = rest
    by (Some o) is rest = (ap (same_text x) (owns reg o is) ∙ all.0, rest)

opened_distinct : (f : Text → Option Opening) → Owns f → (regs : List Text) → IsDistinct same_text regs → IsDistinct same_text (map reg_of (filter_map f regs))
unfolding IsDistinct
opened_distinct f owns [] distinct = tt
opened_distinct f owns (reg ∷ regs) distinct = by (f reg) refl (opened_distinct f owns regs distinct.1)
  where
    by : (found : Option Opening) → f reg ≡ found → IsDistinct same_text (map reg_of (filter_map f regs)) → IsDistinct same_text (map reg_of (cons_option found (filter_map f regs)))
    by None is rest = rest
    by (Some o) is rest =
        let apart : IsApart reg (map reg_of (filter_map f regs)) = apart_from f owns reg regs distinct.0 in
        let family : Text → Type 0 = λ x. IsApart x (map reg_of (filter_map f regs)) in
        (subst family (sym (owns reg o is)) apart, rest)

apart_take : (n : ℕ) (x : Text) (os : List Opening) → IsApart x (map reg_of os) → IsApart x (map reg_of (take n os))
apart_take zero x os all = tt
apart_take (suc n) x [] all = tt
apart_take (suc n) x (o ∷ os) all = (all.0, apart_take n x os all.1)

distinct_take : (n : ℕ) (os : List Opening) → IsDistinct same_text (map reg_of os) → IsDistinct same_text (map reg_of (take n os))
unfolding IsDistinct
distinct_take zero os distinct = tt
distinct_take (suc n) [] distinct = tt
distinct_take (suc n) (o ∷ os) distinct = (apart_take n o.reg os distinct.0, distinct_take n os distinct.1)

nothing_yet : IsDistinct same_text []
unfolding IsDistinct
nothing_yet = tt

pub all_may_open : AllMayOpen
all_may_open rows =
    let all = filter_map (λ reg. made_of (opening_of rows reg)) (regs_of (periods_said rows)) in
    let regs = regs_distinct (periods_said rows) [] nothing_yet in
    record {
      few = omega (arith, length-map (openings rows) reg_of, length-take 256 all);
      apart = distinct_take 256 all (opened_distinct (λ reg. made_of (opening_of rows reg)) (own_reg rows) (regs_of (periods_said rows)) regs);
    }
