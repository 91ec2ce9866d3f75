-- to believe: what a session writes for what it reads, whatever the desk answers
use Rattle.std.specs.Prelude.{◌≡◌, ℕ, ◌<◌, List, [], ◌∷◌, ◌++◌, ◌⊎◌, map, length, take, drop, true, false, Option, Result, Ok, Err, IfSome, if◌then◌else◌}
use Rattle.std.specs.Io.KnownBytes.{Appends, Consumes}
use Rattle.casa_flight.specs.declared.call.Call.{Call}
use Rattle.casa_flight.specs.declared.reply.Reply.{Reply}
use Rattle.casa_history.specs.declared.entry.Receipt.{Receipt}
use Rattle.casa_wire.specs.declared.fault.WireFault.{WireFault}
use Rattle.casa_session.specs.declared.fault.SessionFault.{SessionFault}
use Rattle.casa_session.specs.declared.fault.SessionFault.TheVariants.{LineTooLong, ReadFailed, WriteFailed, ForeignPass, NoMemory}
use Rattle.casa_wire.specs.Commands.{line_call}
use Rattle.casa_session.specs.Receipts.{Receipts}
use Rattle.casa_session.specs.Lines.{ended_lines, lines_of, is_too_long, has_too_long}
use Rattle.casa_wire.specs.LineTexts.{reply_line, fault_line, too_long_line}
use Rattle.casa_session.specs.Sending.{saturating_count}

abbrev pub calls_of : Receipts → List Call
calls_of receipts = map (λ (r : Receipt Call Reply). r.entry.call) receipts

-- the call that a line is, if it is one
abbrev pub call_list : Result Call WireFault → List Call
call_list (Ok call) = call ∷ []
call_list (Err fault) = []

-- the calls of these lines; a line that is too long is the last one
abbrev pub calls : List (List ℕ) → List Call
calls [] = []
calls (l ∷ ls) = if is_too_long l then [] else call_list (line_call l) ++ calls ls

-- the text for a line, where these are the receipts of its call and of the calls after it
abbrev pub answer_text : Result Call WireFault → Receipts → List ℕ
answer_text (Ok call) [] = []
answer_text (Ok call) (r ∷ rs) = reply_line r.entry.reply r.position
answer_text (Err fault) rs = fault_line fault

abbrev pub after_line : Result Call WireFault → Receipts → Receipts
after_line (Ok call) rs = drop 1 rs
after_line (Err fault) rs = rs

-- the transcript of these lines, where their calls have these receipts; a line that is too long ends it
abbrev pub transcript : Receipts → List (List ℕ) → List ℕ
transcript rs [] = []
transcript rs (l ∷ ls) =
    if is_too_long l then too_long_line
    else answer_text (line_call l) rs ++ transcript (after_line (line_call l) rs) ls

-- from the receipts a to b and the written bytes v to w: the calls of the lines were answered, and their transcript was
-- written and nothing else
pub record AnswersLines (a b : Receipts) (v w : Option (List ℕ)) (lines : List (List ℕ)) : Type 0 where
  pub receipts : Receipts
  pub grows : b ≡ a ++ receipts
  pub called : calls_of receipts ≡ calls lines
  pub written : Appends v w (transcript receipts lines)

-- the calls of the lines were answered, and the first n bytes of their transcript, not all of it, were written, where n is
-- counted
pub record Cut (a b : Receipts) (v w : Option (List ℕ)) (lines : List (List ℕ)) (n : ℕ) : Type 0 where
  pub receipts : Receipts
  pub grows : b ≡ a ++ receipts
  pub called : calls_of receipts ≡ calls lines
  pub count : ℕ
  pub within : count < length (transcript receipts lines)
  pub reported : n ≡ saturating_count count
  pub written : Appends v w (take count (transcript receipts lines))

-- none of the lines is too long; their calls were answered, and perhaps that of the next line, of those that are left; their
-- transcript was written and nothing else
pub record Stopped (a b : Receipts) (v w : Option (List ℕ)) (lines left : List (List ℕ)) : Type 0 where
  pub short : has_too_long lines ≡ false
  pub receipts : Receipts
  pub last : Receipts
  pub of_next : (last ≡ []) ⊎ (calls_of last ≡ calls (take 1 left))
  pub grows : b ≡ (a ++ receipts) ++ last
  pub called : calls_of receipts ≡ calls lines
  pub written : Appends v w (transcript receipts lines)

-- what a session has to do with, before it and after: what there is to read, the desk's receipts, and what was written
pub record Sides : Type 0 where
  pub input : Option (List ℕ)
  pub input_left : Option (List ℕ)
  pub receipts : Receipts
  pub receipts_now : Receipts
  pub output : Option (List ℕ)
  pub output_now : Option (List ℕ)

-- the lines were answered by the receipts that the desk has got, and their transcript was written
abbrev pub HasAnswered : Sides → List (List ℕ) → Type 0
HasAnswered s lines = AnswersLines s.receipts s.receipts_now s.output s.output_now lines

-- the first lines were answered, none of them too long, and perhaps the next one; the transcript of the first was written
abbrev pub HasStopped : Sides → Type 0
HasStopped s =
    IfSome s.input (λ xs. (lines rest : List (List ℕ)) × (lines_of xs ≡ lines ++ rest)
    × Stopped s.receipts s.receipts_now s.output s.output_now lines rest)

-- how a session ends: with the transcript of all its lines; with that up to a line that is too long; with that of the lines
-- ended before a read failed, where no line is too long, the unfinished one neither; within that of the first lines, before
-- its end, where a write failed; or with that of the first lines, none too long, where memory was refused or a desk that may
-- be foreign was so
abbrev pub Ends : (foreign : Type 0) → Result ℕ SessionFault → Sides → Type 0
Ends foreign (Ok n) s =
    IfSome s.input (λ xs.
    HasAnswered s (lines_of xs) × (has_too_long (lines_of xs) ≡ false) × (n ≡ length (lines_of xs)))
Ends foreign (Err LineTooLong) s =
    IfSome s.input (λ xs. HasAnswered s (lines_of xs) × (has_too_long (lines_of xs) ≡ true))
Ends foreign (Err ReadFailed) s =
    (taken : List ℕ) × Consumes s.input s.input_left taken × HasAnswered s (ended_lines taken)
    × (has_too_long (lines_of taken) ≡ false)
Ends foreign (Err (WriteFailed n)) s =
    IfSome s.input (λ xs. (lines rest : List (List ℕ)) × (lines_of xs ≡ lines ++ rest)
    × Cut s.receipts s.receipts_now s.output s.output_now lines n)
Ends foreign (Err ForeignPass) s = foreign × HasStopped s
Ends foreign (Err NoMemory) s = HasStopped s
