-- the members of a command line, in the order of their names
use Rattle.std.proofs.Common.{◌≡◌, ℕ, List, [], ◌∷◌, ◌++◌, Ok, refl, ap, ◌∙◌}
use Rattle.std.specs.Prelude.{Result, Err, OnOk}
use Rattle.serde_json.specs.Written.{compact_text}
use Rattle.casa_flight.specs.declared.call.Call.{Call}
use Rattle.casa_flight.specs.declared.call.Call.TheVariants.{File, Amend, Cancel, Revise, Exempt, Show, OpenReg, CloseReg, Rates, List as Listing, Tick, Swap}
use Rattle.casa_wire.specs.LineTexts.{object_of}
use Rattle.casa_lines.specs.Lines.{Member, call_members, call_text, object_with}
use Rattle.casa_lines.specs.Texts.{in_order, merged, text_beside}

ordered : (call : Call) → object_of (in_order call) ≡ object_with (call_members call)
ordered (File plan) = refl
ordered (Amend plan) = refl
ordered (Cancel key) = refl
ordered (Revise key) = refl
ordered (Exempt key) = refl
ordered (Show key) = refl
ordered (OpenReg reg loc periods) = refl
ordered (CloseReg reg) = refl
ordered (Rates reg periods) = refl
ordered (Listing reg) = refl
ordered (Tick at) = refl
ordered (Swap key other) = refl

alone : (members : List Member) → merged members [] ≡ members
unfolding merged
alone [] = refl
alone (m ∷ ms) = refl

text_of_none : (call : Call) → text_beside call [] ≡ call_text call
text_of_none call = rw (alone (in_order call)) (ap compact_text (ordered call))

pub written_alone : {U E : Type 0} (r : Result U E) (call other : Call) (old new : List ℕ) → other ≡ call → OnOk r (new ≡ old ++ text_beside other []) → OnOk r (new ≡ old ++ call_text call)
written_alone (Ok u) call other old new same is = is ∙ ap (λ (text : List ℕ). old ++ text) (rw same (text_of_none call))
written_alone (Err e) call other old new same is = tt
