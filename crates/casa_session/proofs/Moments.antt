-- the moments of a session
use Rattle.std.specs.Prelude.{ℕ, List, Option, Result}
use Rattle.casa_flight.specs.declared.call.Call.{Call}
use Rattle.casa_wire.specs.declared.fault.WireFault.{WireFault}
use Rattle.casa_wire.specs.Commands.{line_call}
use Rattle.casa_session.specs.declared.fault.SessionFault.{SessionFault}
use Rattle.casa_session.specs.declared.replies.Replies.{Replies}
use Rattle.casa_session.specs.Receipts.{Receipts}
use Rattle.casa_session.specs.Replies.{Answers, AnswersAll, Fails, FailsAmong}
use Rattle.casa_session.specs.Transcript.{Ends}

-- what a session starts with: what there is to read, the desk's receipts, and what was written
pub record Start : Type 0 where
  pub input : Option (List ℕ)
  pub receipts : Receipts
  pub output : Option (List ℕ)

-- how it stands at a moment: what is left to read, the receipts and the output by then, and what is gathered
pub record Moment : Type 0 where
  pub left : Option (List ℕ)
  pub receipts : Receipts
  pub output : Option (List ℕ)
  pub replies : Replies

-- the first moment: nothing was read, answered or written since the start
abbrev pub first_moment : Start → Replies → Moment
first_moment start replies = record {
  left = start.input;
  receipts = start.receipts;
  output = start.output;
  replies = replies;
}

-- from one moment to the next a line was answered, and its text gathered
abbrev pub IsAnswered : List ℕ → (now next : Moment) → Type 0
IsAnswered line now next =
    Answers (line_call line) now.receipts next.receipts now.replies next.replies now.output next.output

-- from one moment to the next this fault came instead of the reply to a line
abbrev pub IsFailed : (foreign : Type 0) → SessionFault → List ℕ → (now next : Moment) → Type 0
IsFailed foreign fault line now next =
    Fails foreign fault (line_call line) now.receipts next.receipts now.replies now.output next.output

-- from one moment to the next lines of these meanings were answered, and their texts gathered
abbrev pub AreAnswered : List (Result Call WireFault) → (now next : Moment) → Type 0
AreAnswered asked now next =
    AnswersAll asked now.receipts next.receipts now.replies next.replies now.output next.output

-- from one moment to the next this fault came instead of the reply to one of them
abbrev pub AreFailed : (foreign : Type 0) → SessionFault → List (Result Call WireFault) → (now next : Moment) → Type 0
AreFailed foreign fault asked now next =
    FailsAmong foreign fault asked now.receipts next.receipts now.replies now.output next.output

-- a session ends rightly by this result at this moment
abbrev pub EndsAt : (foreign : Type 0) → Result ℕ SessionFault → Start → Moment → Type 0
EndsAt foreign result start now =
    Ends foreign result (record {
      input = start.input;
      input_left = now.left;
      receipts = start.receipts;
      receipts_now = now.receipts;
      output = start.output;
      output_now = now.output;
    })
