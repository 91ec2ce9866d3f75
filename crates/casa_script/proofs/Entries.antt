-- the line of an entry says its call at its position
use Rattle.std.proofs.Common.{◌≡◌, ◌≢◌, ℕ, suc, ◌*◌, ◌%◌, ◌<◌, ◌≤◌, ◌^◌, List, [], ◌∷◌, Bool, true, false, cond, Some, None, Ok, refl, ap, arith}
use Rattle.std.specs.Prelude.{All, Result, Err, OnOk, bit_xor, option_and_then}
use Rattle.std.specs.List.{fold}
use Rattle.std.specs.Result.{result_ok}
use Rattle.std.proofs.lemmas.Bool.Decides.{nat_tests}
use Rattle.casa_flight.specs.declared.call.Call.{Call}
use Rattle.casa_flight.specs.declared.reply.Reply.{Reply}
use Rattle.casa_history.specs.declared.entry.Entry.{Entry}
use Rattle.casa_tape.specs.Lines.{IsLine}
use Rattle.casa_wire.specs.declared.fault.WireFault.{WireFault}
use Rattle.casa_wire.specs.Commands.{line_call}
use Rattle.casa_wire.specs.LineTexts.{reply_data}
use Rattle.serde_json.specs.Written.{compact_text}
use Rattle.casa_script.specs.declared.fault.LineFault.{LineFault}
use Rattle.casa_script.specs.declared.line.Label.{Label}
use Rattle.casa_script.specs.declared.line.Line.{Line}
use Rattle.casa_script.specs.Sums.{with_byte}
use Rattle.casa_script.specs.Lines.{entry_label, entry_text}
use Rattle.casa_lines.specs.Sayable.{IsSayable}
use Rattle.casa_script.specs.Sayable.{IsInRange}
use Rattle.casa_script.specs.Said.{◌>>=◌, call_at, call_if_at, call_or_fault, is_at, label_said, line_said, line_vouches_for, vouches_for}
use Rattle.casa_script.proofs.Readings.{line_read}

-- a sum has 32 bits
sum_fits : (sum : ℕ) (bytes : List ℕ) → sum < 2 ^ 32 → fold with_byte sum bytes < 2 ^ 32
sum_fits sum [] lt = lt
sum_fits sum (b ∷ bs) lt = sum_fits (with_byte sum b) bs (let n = bit_xor sum b * 16777619 in let is : with_byte sum b ≡ n % 2 ^ 32 = refl in omega arith)

module _ (position : ℕ) (entry : Entry Call Reply) (at : position < 2 ^ 64) (by : entry.desk < 2 ^ 32) (is : IsSayable entry.call) where
  fits : IsInRange (entry_label position entry)
  fits = record { position = at; desk = by; rules = omega arith; sum = sum_fits 2166136261 (compact_text (reply_data entry.reply position)) (omega arith) }

  pub entry_read : line_said (entry_text position entry) ≡ Ok (record { label = entry_label position entry; call = entry.call })
  entry_read = line_read (entry_label position entry) fits entry.call is

  pub call_there : call_at position (entry_text position entry) ≡ Some entry.call
  call_there = rw entry_read (grind (arith, nat_tests))

  pub no_call_elsewhere : (other : ℕ) → other ≢ position → call_at other (entry_text position entry) ≡ None
  no_call_elsewhere other apart = rw entry_read (grind (arith, nat_tests))

abbrev read : Call → Result Call WireFault
read call = Ok call

-- the call of what a line says is that of the line
of_parts : (position : ℕ) (call : Result Call WireFault) (label : Result Label LineFault) (found : Call)
    → option_and_then (call_if_at position) (result_ok (call_or_fault call >>= (λ c. label >>= (λ l. Ok (record { label = l; call = c }))))) ≡ Some found
    → call ≡ Ok found
of_parts position (Err fault) label found is = absurd (cc)
of_parts position (Ok call) (Err fault) found is = absurd (cc)
of_parts position (Ok call) (Ok l) found is = ap read (of_test (is_at position l) is)
  where
    of_test : (b : Bool) → cond b (Some call) None ≡ Some found → call ≡ found
    of_test true is = cc
    of_test false is = absurd (cc)

pub call_of_line : (position : ℕ) (line : List ℕ) (call : Call) → call_at position line ≡ Some call → line_call line ≡ Ok call
unfolding line_said
call_of_line position line call is = of_parts position (line_call line) (label_said line) call is

-- what says something has the label of what it says
pub label_of_said : (bytes : List ℕ) (line : Line) → line_said bytes ≡ Ok line → label_said bytes ≡ Ok line.label
unfolding line_said
label_of_said bytes line is = of (call_or_fault (line_call bytes)) (label_said bytes) is
  where
    given : Label → Result Label LineFault
    given label = Ok label

    of : (call : Result Call LineFault) (label : Result Label LineFault) → (call >>= (λ c. label >>= (λ l. Ok (record { label = l; call = c })))) ≡ Ok line → label ≡ Ok line.label
    of (Err fault) label is = absurd (cc)
    of (Ok call) (Err fault) is = absurd (cc)
    of (Ok call) (Ok l) is = ap given cc

-- a text of characters from the space to the tilde is a line
pub is_line : (text : List ℕ) → All (λ (byte : ℕ). (32 ≤ byte) × (byte ≤ 126)) text → IsLine text
is_line [] all = tt
is_line (b ∷ bs) all =
    let first = all 0 b (omega arith) in
    ((λ (is : b ≡ 10). absurd (omega (arith, is, first.0)), λ (is : b ≡ 0). absurd (omega (arith, is, first.0))), is_line bs (λ k d lt. all (suc k) d (omega (arith, lt))))

-- a line that says something, whose label has the sum, vouches for the reply
pub vouched : {X E : Type 0} → (result : Result X E) (position : ℕ) (bytes : List ℕ) (reply : Reply) (line : Line)
    → OnOk result (line_said bytes ≡ Ok line) → vouches_for reply position line.label ≡ true → OnOk result (line_vouches_for position bytes reply ≡ true)
vouched (Ok x) position bytes reply line is same = rw (label_of_said bytes line is) same
vouched (Err e) position bytes reply line is same = tt
