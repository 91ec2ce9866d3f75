-- where a flight crosses what it crossed, and where it stands so already
use Rattle.std.proofs.Common.{◌≡◌, ℕ, List, [], ◌∷◌, Option, None, Some, is_some, refl, ap, ◌∙◌, unwrap_or}
use Rattle.std.specs.Prelude.{if◌then◌else◌}
use Rattle.std.specs.Option.{option_map}
use Rattle.std.specs.List.{AllByRecursion, cons_option}
use Rattle.casa_flight.specs.declared.row.Stance.{Stance}
use Rattle.casa_filing.specs.Text.{Text, at_name, put}
use Rattle.casa_filing.proofs.Entries.{each_found}
use Rattle.casa_flight.specs.Good.{AreInOrder}
use Rattle.casa_flight.specs.Listing.{Listing, stance_of}
use Rattle.casa_laws.proofs.Kept.{put_same}
use Rattle.casa_plan_spec.specs.Sight.{Sight, list_in, with_flight}
use Rattle.casa_plan_spec.specs.Write.{Lists, with_stances, stances_gone}
use Rattle.casa_stance.proofs.Standing.{with_same}

leaves_none : (has es : List (Text × ℕ)) → AllByRecursion (λ (e : Text × ℕ). at_name has e.0 ≡ Some e.1) es → stances_gone es has ≡ []
leaves_none has [] h = refl
leaves_none has (e ∷ es) h =
    λ i. cons_option {X = Text × Option Stance} (if is_some (h.0 i) then None else Some (e.0, None)) (leaves_none has es h.1 i)

-- where it crosses what it crossed it leaves no list
pub leaves_no_list : (has : List (Text × ℕ)) → AreInOrder has → stances_gone has has ≡ []
leaves_no_list has ordered = leaves_none has has (each_found has ordered)

-- a list that is written, and in which it stands so already, stays as it is written
pub stands_already : (v : Sight) (key id : Text) (ls : Lists) (l : Listing) (s : Option Stance) → AreInOrder ls → AreInOrder l.flights
    → at_name ls id ≡ Some (Some l) → stance_of l key ≡ s → with_stances v key ls ((id, s) ∷ []) ≡ ls
stands_already v key id ls l s ordered flights there stands =
    (λ i. put ls id (option_map (λ (k : Listing). with_flight k key s) (unwrap_or (there i) (list_in v id))))
    ∙ ap (λ (k : Listing). put ls id (Some k)) (with_same l key s flights stands)
    ∙ put_same id (Some l) ls ordered there
