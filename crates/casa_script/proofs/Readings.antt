-- a line is read as the call and the label that it was written of
use Rattle.std.proofs.Common.{◌≡◌, ℕ, ◌<◌, ◌≤◌, ◌^◌, All, Some, Ok, refl, sym, ◌∙◌, ap, arith, le-leb}
use Rattle.std.specs.Prelude.{Result, codes}
use Rattle.serde_json.specs.Data.{Data}
use Rattle.serde_json.specs.Find.{get}
use Rattle.casa_flight.specs.declared.call.Call.{Call}
use Rattle.casa_flight.specs.declared.call.Call.TheVariants.{File, Amend, Cancel, Revise, Exempt, Show, OpenReg, CloseReg, Rates, List as Listing, Tick, Swap}
use Rattle.casa_wire.specs.LineTexts.{count}
use Rattle.casa_wire.specs.Members.{greatest_number, number_of}
use Rattle.casa_wire.specs.Commands.{line_call, line_value}
use Rattle.casa_lines.specs.Sayable.{IsSayable}
use Rattle.casa_lines.proofs.Plain.{ArePlain}
use Rattle.casa_lines.proofs.Readings.{read_beside, seen_beside, value_beside}
use Rattle.casa_script.specs.declared.line.Label.{Label}
use Rattle.casa_script.specs.declared.line.Line.{Line}
use Rattle.casa_script.specs.declared.fault.LineFault.{LineFault}
use Rattle.casa_script.specs.Lines.{label_members, line_data, line_text}
use Rattle.casa_script.specs.Sayable.{IsInRange}
use Rattle.casa_script.specs.Said.{label_of, label_said, line_said}

module _ (label : Label) where
  position_there : (call : Call) → get (codes "n") (line_data label call) ≡ Some (count label.position)
  position_there (File plan) = refl
  position_there (Amend plan) = refl
  position_there (Cancel key) = refl
  position_there (Revise key) = refl
  position_there (Exempt key) = refl
  position_there (Show key) = refl
  position_there (OpenReg reg loc periods) = refl
  position_there (CloseReg reg) = refl
  position_there (Rates reg periods) = refl
  position_there (Listing reg) = refl
  position_there (Tick at) = refl
  position_there (Swap key other) = refl

  desk_there : (call : Call) → get (codes "desk") (line_data label call) ≡ Some (count label.desk)
  desk_there (File plan) = refl
  desk_there (Amend plan) = refl
  desk_there (Cancel key) = refl
  desk_there (Revise key) = refl
  desk_there (Exempt key) = refl
  desk_there (Show key) = refl
  desk_there (OpenReg reg loc periods) = refl
  desk_there (CloseReg reg) = refl
  desk_there (Rates reg periods) = refl
  desk_there (Listing reg) = refl
  desk_there (Tick at) = refl
  desk_there (Swap key other) = refl

  rules_there : (call : Call) → get (codes "rules") (line_data label call) ≡ Some (count label.rules)
  rules_there (File plan) = refl
  rules_there (Amend plan) = refl
  rules_there (Cancel key) = refl
  rules_there (Revise key) = refl
  rules_there (Exempt key) = refl
  rules_there (Show key) = refl
  rules_there (OpenReg reg loc periods) = refl
  rules_there (CloseReg reg) = refl
  rules_there (Rates reg periods) = refl
  rules_there (Listing reg) = refl
  rules_there (Tick at) = refl
  rules_there (Swap key other) = refl

  sum_there : (call : Call) → get (codes "sum") (line_data label call) ≡ Some (count label.sum)
  sum_there (File plan) = refl
  sum_there (Amend plan) = refl
  sum_there (Cancel key) = refl
  sum_there (Revise key) = refl
  sum_there (Exempt key) = refl
  sum_there (Show key) = refl
  sum_there (OpenReg reg loc periods) = refl
  sum_there (CloseReg reg) = refl
  sum_there (Rates reg periods) = refl
  sum_there (Listing reg) = refl
  sum_there (Tick at) = refl
  sum_there (Swap key other) = refl

number_again : (n : ℕ) → n < 2 ^ 32 → number_of (count n) ≡ Some n
number_again n lt = rw (le-leb n greatest_number (omega (arith, lt))) refl

label_found : (label : Label) (d : Data) → IsInRange label → get (codes "n") d ≡ Some (count label.position) → get (codes "desk") d ≡ Some (count label.desk)
    → get (codes "rules") d ≡ Some (count label.rules) → get (codes "sum") d ≡ Some (count label.sum) → label_of d ≡ Ok label
unfolding label_of
label_found label d fits n desk rules sum = rw (n, desk, rules, sum, number_again label.desk fits.desk, number_again label.rules fits.rules, number_again label.sum fits.sum) refl

fits_64 : (n : ℕ) → n < 2 ^ 32 → n < 2 ^ 64
fits_64 n lt = omega (arith, lt)

label_plain : (label : Label) → IsInRange label → ArePlain 2 (label_members label)
label_plain label fits = ((refl, fits.position), ((refl, fits_64 label.desk fits.desk), ((refl, fits_64 label.rules fits.rules), ((refl, fits_64 label.sum fits.sum), tt))))

module _ (label : Label) (fits : IsInRange label) (call : Call) (is : IsSayable call) where
  value : line_value (line_text label call) ≡ Some (line_data label call)
  value = value_beside (label_members label) (label_plain label fits) call is

  pub line_seen : All (λ (b : ℕ). (32 ≤ b) × (b ≤ 126)) (line_text label call)
  line_seen = seen_beside (label_members label) (label_plain label fits) call is

  label_again : label_of (line_data label call) ≡ Ok label
  label_again = label_found label (line_data label call) fits (position_there label call) (desk_there label call) (rules_there label call) (sum_there label call)

  pub call_read : line_call (line_text label call) ≡ Ok call
  call_read = read_beside (label_members label) (label_plain label fits) call is

  label_read : label_said (line_text label call) ≡ Ok label
  unfolding label_said
  label_read = rw value label_again

  pub line_read : line_said (line_text label call) ≡ Ok (record { label = label; call = call })
  unfolding line_said
  line_read = rw (call_read, label_read) refl

abbrev said : Line → Result Line LineFault
said line = Ok line

same_lines : (a b : Line) → said a ≡ said b → (a.label ≡ b.label) × (a.call ≡ b.call)
same_lines a b same = (cc, cc)

pub apart : (label other : Label) (call another : Call) → IsInRange label → IsSayable call → IsInRange other → IsSayable another
    → line_text label call ≡ line_text other another → (label ≡ other) × (call ≡ another)
apart label other call another fits is others are same =
    same_lines (record { label = label; call = call }) (record { label = other; call = another })
    (sym (line_read label fits call is) ∙ ap line_said same ∙ line_read other others another are)
