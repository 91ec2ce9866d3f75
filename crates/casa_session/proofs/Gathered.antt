-- laws of what is gathered and written
use Rattle.std.proofs.Common.{◌≡◌, ℕ, ◌+◌, ◌<◌, List, [], ◌∷◌, ◌++◌, length, take, Option, ap, sym, ◌∙◌, subst, append-nil, arith, length-append, refl}
use Rattle.std.specs.Prelude.{Result, Ok}
use Rattle.std.specs.Io.KnownBytes.{Appends}
use Rattle.std.proofs.KnownBytes.{Appends-trans}
use Rattle.std.proofs.lemmas.List.{take-append-le}
use Rattle.std.proofs.Math.Seq.{take-append-add}
use Rattle.casa_flight.specs.declared.call.Call.{Call}
use Rattle.casa_flight.specs.declared.reply.Reply.{Reply}
use Rattle.casa_history.specs.declared.entry.Receipt.{Receipt}
use Rattle.casa_session.specs.Sending.{saturating_count}
use Rattle.casa_wire.specs.declared.fault.WireFault.{WireFault}
use Rattle.casa_wire.specs.LineTexts.{reply_line, too_long_line}
use Rattle.casa_session.specs.declared.fault.SessionFault.{SessionFault}
use Rattle.casa_session.specs.declared.fault.SessionFault.TheVariants.{LineTooLong, ReadFailed, WriteFailed, ForeignPass, NoMemory}
use Rattle.casa_session.specs.declared.replies.Replies.{Replies}
use Rattle.casa_session.specs.Replies.{CutText, IsUnwritten, Replied, TooLongEnds}
use Rattle.casa_session.specs.Receipts.{Receipts}

-- a call was answered
pub replied_call : (a b : Receipts) (meaning : Result Call WireFault) (call : Call) (r : Receipt Call Reply) → meaning ≡ Ok call → b ≡ a ++ r ∷ [] → r.entry.call ≡ call
    → Replied a b meaning (reply_line r.entry.reply r.position)
replied_call a b meaning call r is grows called = record {
  receipts = r ∷ [];
  grows = grows;
  called = rw is (ap (λ (c : Call). c ∷ []) called);
  answer = rw is refl;
}

-- what is cut within what was gathered is so whatever comes behind
cut_before : (text : List ℕ) (old : Replies) (n : ℕ) (v w : Option (List ℕ)) → CutText [] old n v w → CutText text old n v w
cut_before text old n v w q =
    let bytes : List ℕ = old.bytes.items in
    let inside : q.count < length bytes = subst (λ (l : List ℕ). q.count < length l) (append-nil bytes) q.within in
    record {
      count = q.count;
      within = omega (arith, inside, length-append bytes text);
      reported = q.reported;
      written = subst (Appends v w) (ap (take q.count) (append-nil bytes) ∙ sym (take-append-le q.count bytes text (omega (arith, inside)))) q.written;
    }

pub too_long_unwritten : (fault : SessionFault) (old : Replies) (v w : Option (List ℕ)) → IsUnwritten fault old v w → TooLongEnds fault old v w
too_long_unwritten (WriteFailed n) old v w h = cut_before too_long_line old n v w h
too_long_unwritten LineTooLong old v w h = absurd h
too_long_unwritten ReadFailed old v w h = absurd h
too_long_unwritten ForeignPass old v w h = absurd h
too_long_unwritten NoMemory old v w h = absurd h

-- a text is cut that is written after all that was gathered
pub cut_after : (text : List ℕ) (old : Replies) (k m n : ℕ) (v w x : Option (List ℕ)) → Appends v w old.bytes.items → m ≡ saturating_count (old.written + length old.bytes.items)
    → k < length text → Appends w x (take k text) → n ≡ saturating_count (m + k) → CutText text old n v x
cut_after text old k m n v w x sent count within cut reported =
    let bytes : List ℕ = old.bytes.items in
    record {
      count = length bytes + k;
      within = omega (arith, within, length-append bytes text);
      reported = omega (arith, count, reported);
      written = subst (Appends v x) (sym (take-append-add bytes text k)) (Appends-trans v w x bytes (take k text) sent cut);
    }
