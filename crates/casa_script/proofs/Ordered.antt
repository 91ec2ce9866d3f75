-- the members of a line, in the order of their names
use Rattle.std.proofs.Common.{◌≡◌, ℕ, List, [], ◌∷◌, ◌++◌, Ok, refl, ap, ◌∙◌}
use Rattle.std.specs.Prelude.{Result, Err, OnOk, codes}
use Rattle.serde_json.specs.Written.{compact_text}
use Rattle.casa_flight.specs.declared.call.Call.{Call}
use Rattle.casa_flight.specs.declared.call.Call.TheVariants.{File, Amend, Cancel, Revise, Exempt, Show, OpenReg, CloseReg, Rates, List as Listing, Tick, Swap}
use Rattle.casa_wire.specs.LineTexts.{count, object_of}
use Rattle.casa_lines.specs.declared.object.Member.{Member as WrittenMember}
use Rattle.casa_lines.specs.Lines.{Member}
use Rattle.casa_lines.specs.Texts.{in_order, member_of, merged, text_beside}
use Rattle.casa_script.specs.declared.line.Label.{Label}
use Rattle.casa_script.specs.Lines.{line_data, line_text}

abbrev label_in_order : Label → List Member
label_in_order label =
    (codes "desk", count label.desk) ∷ (codes "n", count label.position) ∷ (codes "rules", count label.rules) ∷ (codes "sum", count label.sum) ∷ []

ordered : (label : Label) (call : Call) → object_of (merged (in_order call) (label_in_order label)) ≡ line_data label call
unfolding merged
ordered label (File plan) = refl
ordered label (Amend plan) = refl
ordered label (Cancel key) = refl
ordered label (Revise key) = refl
ordered label (Exempt key) = refl
ordered label (Show key) = refl
ordered label (OpenReg reg loc periods) = refl
ordered label (CloseReg reg) = refl
ordered label (Rates reg periods) = refl
ordered label (Listing reg) = refl
ordered label (Tick at) = refl
ordered label (Swap key other) = refl

line_written : (label : Label) (call : Call) (desk position rules sum : WrittenMember) → member_of desk ≡ (codes "desk", count label.desk) → member_of position ≡ (codes "n", count label.position)
    → member_of rules ≡ (codes "rules", count label.rules) → member_of sum ≡ (codes "sum", count label.sum) → text_beside call (desk ∷ position ∷ rules ∷ sum ∷ []) ≡ line_text label call
line_written label call desk position rules sum one two three four = rw (one, two, three, four) (ap compact_text (ordered label call))

pub written : {U E : Type 0} (r : Result U E) (label mine : Label) (call other : Call) (old new : List ℕ) (desk position rules sum : WrittenMember) → mine ≡ label → other ≡ call
    → member_of desk ≡ (codes "desk", count mine.desk) → member_of position ≡ (codes "n", count mine.position) → member_of rules ≡ (codes "rules", count mine.rules)
    → member_of sum ≡ (codes "sum", count mine.sum) → OnOk r (new ≡ old ++ text_beside other (desk ∷ position ∷ rules ∷ sum ∷ [])) → OnOk r (new ≡ old ++ line_text label call)
written (Ok u) label mine call other old new desk position rules sum same too one two three four is =
    is ∙ ap (λ (text : List ℕ). old ++ text) (line_written mine other desk position rules sum one two three four ∙ rw (same, too) refl)
written (Err e) label mine call other old new desk position rules sum same too one two three four is = tt
