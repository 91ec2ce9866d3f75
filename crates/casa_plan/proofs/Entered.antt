-- flights that enter one by one: from what the code has to what is defined
use Rattle.std.proofs.Common.{◌≡◌, ℕ, List, false, cond, sym, ap, ◌∙◌, ◌||◌, Option}
use Rattle.std.specs.Option.{option_map_or}
use Rattle.casa_filing.specs.declared.regulation.Regulation.{Regulation}
use Rattle.casa_flight.specs.declared.row.Row.{Row}
use Rattle.casa_filing.specs.Text.{Text}
use Rattle.casa_filing.specs.Subject.{is_gone}
use Rattle.casa_flight.specs.State.{is_exempt}
use Rattle.casa_flight.specs.Entry.{Offer, Situation, most_penalising, governed, choice, row_after_entry}
use Rattle.casa_footprint.specs.Finding.{crossed}
use Rattle.casa_plan_spec.specs.Sight.{Sight, Written, list_with}
use Rattle.casa_plan_spec.specs.OneFlight.{offers_of}
use Rattle.casa_plan_spec.specs.Enter.{situation_with}
use Rattle.casa_plan_spec.proofs.Crossings.{offers_same}

-- a flight takes the best of the offers of the regulations that its plan crosses
pub entered_as : (clock : ℕ) (rs : List Regulation) (v : Sight) (w : Written) (key : Text) (row : Row) (over : List (Text × ℕ)) (o : Option Offer)
    → is_exempt row ≡ false → is_gone clock row.plan ≡ false → over ≡ crossed row.plan rs → o ≡ most_penalising (offers_of (list_with v w) key over)
    → option_map_or (governed clock row) o row ≡ row_after_entry (situation_with clock rs v w) key row
entered_as clock rs v w key row over o plain here crosses best =
    let s : Situation = situation_with clock rs v w in
    let chosen : o ≡ choice s key row.plan =
    best ∙ ap (λ (es : List (Text × ℕ)). most_penalising (offers_of (list_with v w) key es)) crosses ∙ ap most_penalising (sym (offers_same s key row.plan rs)) in
    ap (λ (c : Option Offer). option_map_or (governed clock row) c row) chosen
    ∙ (λ i. cond (sym plain i || sym here i) row (option_map_or (governed clock row) (choice s key row.plan) row))
