-- to believe: what a line says
use Rattle.std.specs.Prelude.{◌≡◌, ℕ, ◌==◌, ◌&&◌, if◌then◌else◌, Bool, false, List, Option, None, Some, Result, Ok, Err, option_and_then, codes}
use Rattle.std.specs.Option.{option_map_or}
use Rattle.std.specs.Result.{result_ok}
use Rattle.serde_json.specs.Data.{Data}
use Rattle.casa_flight.specs.declared.call.Call.{Call}
use Rattle.casa_flight.specs.declared.reply.Reply.{Reply}
use Rattle.casa_wire.specs.declared.fault.WireFault.{WireFault}
use Rattle.casa_wire.specs.Members.{number_of, part, whole_number}
use Rattle.casa_wire.specs.Commands.{line_call, line_value}
use Rattle.casa_script.specs.declared.line.Label.{Label}
use Rattle.casa_script.specs.declared.line.Line.{Line}
use Rattle.casa_script.specs.declared.fault.LineFault.{LineFault}
use Rattle.casa_script.specs.declared.fault.LineFault.TheVariants.{NoCall, NoPosition, NoDesk, NoRules, NoSum, NoMemory}
use Rattle.casa_script.specs.Lines.{present_rules}
use Rattle.casa_script.specs.Sums.{reply_sum}

infixl 10 ◌>>=◌
abbrev pub ◌>>=◌ : {A B : Type 0} → Result A LineFault → (A → Result B LineFault) → Result B LineFault
(Ok x) >>= next = next x
(Err fault) >>= next = Err fault

-- the call, or why the line is none
abbrev pub call_or_fault : Result Call WireFault → Result Call LineFault
call_or_fault (Ok call) = Ok call
call_or_fault (Err fault) = Err (NoCall fault)

abbrev pub or_fault : {A : Type 0} → LineFault → Option A → Result A LineFault
or_fault fault None = Err fault
or_fault fault (Some x) = Ok x

-- the label that a JSON value has, or the first of its members that is not what it must be
unfoldable pub label_of : Data → Result Label LineFault
label_of d = do
  position ← or_fault NoPosition (part (codes "n") whole_number d)
  desk ← or_fault NoDesk (part (codes "desk") number_of d)
  rules ← or_fault NoRules (part (codes "rules") number_of d)
  sum ← or_fault NoSum (part (codes "sum") number_of d)
  Ok (record { position = position; desk = desk; rules = rules; sum = sum })

-- the label of a line, or its first fault
unfoldable pub label_said : List ℕ → Result Label LineFault
label_said bytes = do
  d ← or_fault NoPosition (line_value bytes)
  label_of d

-- what a line says, its call and its label, or its first fault; the call comes first, so that the line is JSON
unfoldable pub line_said : List ℕ → Result Line LineFault
line_said bytes = do
  call ← call_or_fault (line_call bytes)
  label ← label_said bytes
  Ok (record { label = label; call = call })

-- whether a label is that of a position, by the present rules
abbrev pub is_at : ℕ → Label → Bool
is_at position label = (label.position == position) && (label.rules == present_rules)

-- the call of a line of this position, by the present rules
abbrev pub call_if_at : ℕ → Line → Option Call
call_if_at position line = if is_at position line.label then Some line.call else None

-- the call that a text says at a position, if it is a line of that position by the present rules
abbrev pub call_at : ℕ → List ℕ → Option Call
call_at position bytes = option_and_then (call_if_at position) (result_ok (line_said bytes))

-- whether a label vouches for the reply at a position: it has the reply's sum
abbrev pub vouches_for : Reply → ℕ → Label → Bool
vouches_for reply position label = label.sum == reply_sum reply position

-- whether a text vouches for the reply at a position: it has a label, and that does
abbrev pub line_vouches_for : ℕ → List ℕ → Reply → Bool
line_vouches_for position bytes reply = option_map_or (vouches_for reply position) (result_ok (label_said bytes)) false

abbrev pub Fails : {X : Type 0} → LineFault → Result X LineFault → Type 0
Fails (NoCall fault) meaning = meaning ≡ Err (NoCall fault)
Fails NoPosition meaning = meaning ≡ Err NoPosition
Fails NoDesk meaning = meaning ≡ Err NoDesk
Fails NoRules meaning = meaning ≡ Err NoRules
Fails NoSum meaning = meaning ≡ Err NoSum
Fails NoMemory meaning = Unit {0}

-- what a function returned, as `view` sees it, is the meaning; nothing is claimed where memory is refused
abbrev pub GivesAs : {X Y : Type 0} → (X → Y) → Result X LineFault → Result Y LineFault → Type 0
GivesAs view (Ok x) meaning = meaning ≡ Ok (view x)
GivesAs view (Err fault) meaning = Fails fault meaning

-- what a function returned is the meaning; nothing is claimed where memory is refused
abbrev pub Gives : {X : Type 0} → Result X LineFault → Result X LineFault → Type 0
Gives result meaning = GivesAs (λ x. x) result meaning
