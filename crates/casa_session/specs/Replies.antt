-- inner contracts: how the reply to a line is made, and how replies are gathered and written
use Rattle.std.specs.Prelude.{◌≡◌, ◌⊎◌, ℕ, ◌+◌, ◌<◌, List, [], ◌∷◌, ◌++◌, length, take, Option, Result}
use Rattle.std.specs.Io.KnownBytes.{Appends}
use Rattle.casa_flight.specs.declared.call.Call.{Call}
use Rattle.casa_session.specs.Sending.{saturating_count}
use Rattle.casa_wire.specs.declared.fault.WireFault.{WireFault}
use Rattle.casa_wire.specs.LineTexts.{too_long_line}
use Rattle.casa_session.specs.declared.fault.SessionFault.{SessionFault}
use Rattle.casa_session.specs.declared.fault.SessionFault.TheVariants.{LineTooLong, ReadFailed, WriteFailed, ForeignPass, NoMemory}
use Rattle.casa_session.specs.declared.replies.Replies.{Replies}
use Rattle.casa_session.specs.Receipts.{Receipts}
use Rattle.casa_session.specs.Transcript.{answer_text, call_list, calls_of}

-- from the receipts a to b a line of this meaning was answered, by this text
pub record Replied (a b : Receipts) (meaning : Result Call WireFault) (text : List ℕ) : Type 0 where
  pub receipts : Receipts
  pub grows : b ≡ a ++ receipts
  pub called : calls_of receipts ≡ call_list meaning
  pub answer : text ≡ answer_text meaning receipts

-- the line was answered, by a text that may not have been made; or nothing was answered
abbrev pub MayReply : (a b : Receipts) → Result Call WireFault → List ℕ → Type 0
MayReply a b meaning text = Replied a b meaning text ⊎ ((b ≡ a) × (text ≡ []))

-- a text was gathered behind the others; of all these the first part was written and counted, and the rest is left
pub record Gathers (text : List ℕ) (old new : Replies) (v w : Option (List ℕ)) : Type 0 where
  pub sent : List ℕ
  pub split : old.bytes.items ++ text ≡ sent ++ new.bytes.items
  pub reported : new.written ≡ saturating_count (old.written + length sent)
  pub written : Appends v w sent

-- a line of this meaning was answered, and its text gathered
abbrev pub Answers : Result Call WireFault → (a b : Receipts) (old new : Replies) (v w : Option (List ℕ)) → Type 0
Answers meaning a b old new v w = (text : List ℕ) × Replied a b meaning text × Gathers text old new v w

-- of what was gathered and a text behind it, the first bytes were written, not all, and n is how many were in all
pub record CutText (text : List ℕ) (old : Replies) (n : ℕ) (v w : Option (List ℕ)) : Type 0 where
  pub count : ℕ
  pub within : count < length (old.bytes.items ++ text)
  pub reported : n ≡ saturating_count (old.written + count)
  pub written : Appends v w (take count (old.bytes.items ++ text))

-- why a line has no reply: memory is refused, or a desk that may be foreign is so
abbrev pub IsRefused : (foreign : Type 0) → SessionFault → Type 0
IsRefused foreign NoMemory = Unit {0}
IsRefused foreign ForeignPass = foreign
IsRefused foreign LineTooLong = ⊥
IsRefused foreign ReadFailed = ⊥
IsRefused foreign (WriteFailed n) = ⊥

-- the line was not answered, or its text not made, and what was gathered before was written; or a write failed
abbrev pub Fails : (foreign : Type 0) → SessionFault → Result Call WireFault → (a b : Receipts) → Replies → (v w : Option (List ℕ)) → Type 0
Fails foreign (WriteFailed n) meaning a b old v w = (text : List ℕ) × MayReply a b meaning text × CutText text old n v w
Fails foreign NoMemory meaning a b old v w = (text : List ℕ) × MayReply a b meaning text × Appends v w old.bytes.items
Fails foreign ForeignPass meaning a b old v w = foreign × ((text : List ℕ) × MayReply a b meaning text × Appends v w old.bytes.items)
Fails foreign LineTooLong meaning a b old v w = ⊥
Fails foreign ReadFailed meaning a b old v w = ⊥

-- lines of these meanings were answered one after the other, and their texts gathered
abbrev pub AnswersAll : List (Result Call WireFault) → (a b : Receipts) (old new : Replies) (v w : Option (List ℕ)) → Type 0
AnswersAll [] a b old new v w = (b ≡ a) × ((new ≡ old) × (w ≡ v))
AnswersAll (meaning ∷ more) a b old new v w =
    (c : Receipts) × (mid : Replies) × (x : Option (List ℕ))
    × Answers meaning a c old mid v x × AnswersAll more c b mid new x w

-- one of the lines of these meanings has no reply, and those before it were answered
abbrev pub FailsAmong : (foreign : Type 0) → SessionFault → List (Result Call WireFault) → (a b : Receipts) → Replies → (v w : Option (List ℕ)) → Type 0
FailsAmong foreign fault [] a b old v w = ⊥
FailsAmong foreign fault (meaning ∷ more) a b old v w =
    Fails foreign fault meaning a b old v w
    ⊎ ((c : Receipts) × (mid : Replies) × (x : Option (List ℕ))
    × Answers meaning a c old mid v x × FailsAmong foreign fault more c b mid x w)

-- a write failed before all that was gathered was written
abbrev pub IsUnwritten : SessionFault → Replies → (v w : Option (List ℕ)) → Type 0
IsUnwritten (WriteFailed n) old v w = CutText [] old n v w
IsUnwritten LineTooLong old v w = ⊥
IsUnwritten ReadFailed old v w = ⊥
IsUnwritten ForeignPass old v w = ⊥
IsUnwritten NoMemory old v w = ⊥

-- the session ends by this fault, after all that was gathered was written; or a write failed before that
abbrev pub EndsBy : (ended fault : SessionFault) → Replies → (v w : Option (List ℕ)) → Type 0
EndsBy ended fault old v w = ((ended ≡ fault) × Appends v w old.bytes.items) ⊎ IsUnwritten ended old v w

-- what was gathered was written, and the text for a line that is too long; or a write failed before that
abbrev pub TooLongEnds : SessionFault → Replies → (v w : Option (List ℕ)) → Type 0
TooLongEnds LineTooLong old v w = Appends v w (old.bytes.items ++ too_long_line)
TooLongEnds (WriteFailed n) old v w = CutText too_long_line old n v w
TooLongEnds ReadFailed old v w = ⊥
TooLongEnds ForeignPass old v w = ⊥
TooLongEnds NoMemory old v w = ⊥
