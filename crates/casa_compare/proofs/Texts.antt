-- texts that are written part by part
use Rattle.std.proofs.Common.{◌≡◌, ℕ, List, [], ◌∷◌, ◌++◌, append_assoc, append-nil, refl}
use Rattle.std.specs.Prelude.{codes}
use Rattle.std.specs.List.{join_with_byte}
use Rattle.serde_json.specs.Data.{Data, string}
use Rattle.serde_json.specs.Written.{compact_text}
use Rattle.serde_json.proofs.OnLiterals.{serde_json_on_literals}
use Rattle.jiff_core.specs.declared.civil.date.Date.{Date}
use Rattle.casa_inquiry.specs.Summary.{mean_delay}
use Rattle.casa_wire.specs.LineTexts.{count, line_of, list_of, object_of, or_null}
use Rattle.casa_report.specs.Json.{day_data}
use Rattle.casa_difference.specs.declared.comparison.Comparison.{Comparison}
use Rattle.casa_difference.specs.declared.flights.Difference.{Difference}
use Rattle.casa_difference.specs.declared.standing.Standing.{Standing}
use Rattle.casa_difference.specs.declared.totals.Totals.{Totals}
use Rattle.casa_compare.specs.CompareJson.{compare_json, difference_data, standing_data, totals_data}

-- the columns of a flight: its key, and the three of either day
pub flight_written : (k r c d s t e : List ℕ)
    → ((k ++ 32 ∷ []) ++ ((r ++ 32 ∷ []) ++ ((c ++ 32 ∷ []) ++ (d ++ 32 ∷ [])))) ++ ((s ++ 32 ∷ []) ++ ((t ++ 32 ∷ []) ++ (e ++ 10 ∷ [])))
    ≡ join_with_byte 32 (k ∷ r ∷ c ∷ d ∷ s ∷ t ∷ e ∷ []) ++ 10 ∷ []
flight_written k r c d s t e = simp append_assoc refl

pub totals_text : (t : Totals)
    → (codes "{\"delay\":" ++ compact_text (count t.cost.delay))
    ++ ((codes ",\"forced\":" ++ compact_text (count t.cost.forced))
    ++ ((codes ",\"governed\":" ++ compact_text (count t.cost.governed))
    ++ ((codes ",\"issued\":" ++ compact_text (count t.cost.issued))
    ++ ((codes ",\"longest\":" ++ compact_text (count t.cost.longest))
    ++ ((codes ",\"mean\":" ++ compact_text (or_null count (mean_delay t.cost)))
    ++ ((codes ",\"over\":" ++ compact_text (count t.cost.over))
    ++ ((codes ",\"regs\":" ++ compact_text (count t.regulations))
    ++ ((codes ",\"slots\":" ++ compact_text (count t.cost.slots)) ++ codes "}")))))))) ≡ compact_text (totals_data t)
unfolding serde_json_on_literals
totals_text t = refl

pub standing_text : (s : Standing)
    → codes "{\"ctot\":" ++ (compact_text (or_null count s.ctot) ++ (codes ",\"delay\":" ++ (compact_text (count s.delay)
    ++ (codes ",\"reg\":" ++ (compact_text (or_null string s.reg) ++ (codes "}" ++ [])))))) ≡ compact_text (standing_data s)
unfolding serde_json_on_literals
standing_text s = simp (append_assoc, append-nil) refl

pub difference_text : (d : Difference)
    → codes "{\"base\":" ++ (compact_text (or_null standing_data d.base)
    ++ ((codes ",\"key\":" ++ (compact_text (string d.key) ++ (codes ",\"variant\":" ++ [])))
    ++ (compact_text (or_null standing_data d.variant) ++ codes "}"))) ≡ compact_text (difference_data d)
unfolding serde_json_on_literals
difference_text d = simp (append_assoc, append-nil) refl

whole_of : (base day flights variant : Data)
    → codes "{\"base\":" ++ (compact_text base
    ++ ((codes ",\"day\":" ++ (compact_text day ++ (codes ",\"flights\":" ++ [])))
    ++ (compact_text flights ++ (codes ",\"variant\":" ++ (compact_text variant ++ codes "}\n")))))
    ≡ line_of (object_of ((codes "base", base) ∷ (codes "day", day) ∷ (codes "flights", flights) ∷ (codes "variant", variant) ∷ []))
unfolding serde_json_on_literals
whole_of base day flights variant = simp (append_assoc, append-nil) refl

pub whole_compare : (day : Date) (found : Comparison)
    → codes "{\"base\":" ++ (compact_text (totals_data found.base)
    ++ ((codes ",\"day\":" ++ (compact_text (day_data day) ++ (codes ",\"flights\":" ++ [])))
    ++ (compact_text (list_of difference_data found.flights)
    ++ (codes ",\"variant\":" ++ (compact_text (totals_data found.variant) ++ codes "}\n"))))) ≡ compare_json day found
whole_compare day found = whole_of (totals_data found.base) (day_data day) (list_of difference_data found.flights) (totals_data found.variant)
