-- a session of a browser's desk
use Rattle.std.proofs.Common.{◌≡◌, ℕ, List, [], subst, sym, ◌∙◌}
use Rattle.std.specs.Prelude.{Option, Some, Result, Ok, Err, IfOk, OnErr, ⊤}
use mathlib.Core.List.{IsPrefix}
use Rattle.casa_flight.specs.declared.call.Call.{Call}
use Rattle.casa_flight.specs.declared.reply.Reply.{Reply}
use Rattle.casa_history.specs.declared.entry.Entry.{Entry}
use Rattle.casa_history.specs.Entries.{receipts_of}
use Rattle.casa_plan.specs.Rooms.{IsSequential}
use Rattle.casa_session.specs.declared.fault.SessionFault.{SessionFault}
use Rattle.casa_session.specs.Receipts.{Receipts}
use Rattle.casa_session.specs.Transcript.{Ends, Sides}
use Rattle.casa_live.specs.Answered.{IsAnswered, text_told}
use Rattle.casa_live.proofs.Chunks.{longer}

-- what follows of a value, where there is one
pub if_ok : {U E : Type 0} {P Q : U → Type 0} (r : Result U E) → ((x : U) → P x → Q x) → IfOk r P → IfOk r Q
if_ok (Ok x) then here = then x here
if_ok (Err e) then here = here

-- and where there is none
pub on_err : {U E P Q : Type 0} (r : Result U E) → (P → Q) → OnErr r P → OnErr r Q
on_err (Ok x) then here = here
on_err (Err e) then here = then here

-- what a session has to do with that reads these lines and writes behind nothing
abbrev pub sides : List ℕ → Option (List ℕ) → (start written : List ℕ) → (before after : Receipts) → Sides
sides lines left start written before after = record {
  input = Some lines;
  input_left = left;
  receipts = before;
  receipts_now = after;
  output = Some start;
  output_now = Some written;
}

-- lines were answered by a desk, which has then seen a history, with which what is seen afterwards begins
pub answered : (lines : List ℕ) (text : Option (List ℕ)) (ended : Result ℕ SessionFault) (left : Option (List ℕ)) (start written : List ℕ)
    (before had after has : Receipts) (seen own both now : List (Entry Call Reply)) (desk : ℕ)
    → start ≡ [] → had ≡ before → has ≡ after → Ends ⊤ ended (sides lines left start written had has) → text_told ended written ≡ text
    → IsSequential own → has ≡ receipts_of desk own → IsPrefix own both → IsPrefix seen both → IsPrefix both now → IsSequential now
    → IsAnswered lines text before after seen now
answered lines text ended left start written before had after has seen own both now desk empty as_before as_after ends told legal of_desk
    own_in seen_in both_in sequential = record {
      ended = ended;
      left = left;
      written = written;
      ends = subst (λ (rs : Receipts). Ends ⊤ ended (sides lines left [] written before rs)) as_after
          (subst (λ (rs : Receipts). Ends ⊤ ended (sides lines left [] written rs has)) as_before
          (subst (λ (bytes : List ℕ). Ends ⊤ ended (sides lines left bytes written had has)) empty ends));
      told_is = sym told;
      history = own;
      of_one_thread = legal;
      desk = desk;
      receipts_are = sym as_after ∙ of_desk;
      known = longer own both now own_in both_in;
      sequential = sequential;
      longer = longer seen both now seen_in both_in;
    }
