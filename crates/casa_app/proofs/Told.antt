-- what is told of replies
use Rattle.std.proofs.Common.{◌≡◌, ◌≢◌, ℕ, ◌^◌, ◌<◌, ◌≤◌, ◌∙◌, List, [], ◌∷◌, ◌++◌, length, refl, ap, arith, length-append}
use Rattle.std.proofs.lemmas.Fmt.{length-decimal-le}
use Rattle.std.proofs.lemmas.List.{take_all}
use Rattle.std.specs.Prelude.{codes, decimal}
use Rattle.serde_json.specs.Written.{compact_text}
use Rattle.serde_json.proofs.OnLiterals.{serde_json_on_literals}
use Rattle.casa_flight.specs.declared.call.Refusal.{Refusal}
use Rattle.casa_flight.specs.declared.call.Refusal.TheVariants.{Duplicate, NoFlight, Late, AlreadyExempt, DuplicateRegulation, NoRegulation, TooManyRegulations, SpanChanged, BackInTime, NotIssued, OtherRegulation, TooEarly}
use Rattle.casa_flight.specs.declared.reply.Answer.{Answer}
use Rattle.casa_flight.specs.declared.reply.Answer.TheVariants.{Done, Flight, List as Listing}
use Rattle.casa_flight.specs.declared.reply.Message.{Message}
use Rattle.casa_flight.specs.declared.reply.Reply.TheVariants.{Answered, Refused}
use Rattle.casa_flight.specs.Refusals.{name_of}
use Rattle.casa_wire.specs.declared.fault.Field.TheVariants.{Key, Eobt, Taxi, Via, Sts, Reg, Loc, Periods, At, Other}
use Rattle.casa_wire.specs.declared.fault.WireFault.{WireFault}
use Rattle.casa_wire.specs.declared.fault.WireFault.TheVariants.{NotJson, NoCommand, BadField, NoMemory}
use Rattle.casa_wire.specs.LineTexts.{fault_text, reply_data}
use Rattle.casa_app.specs.Remarks.{head, remark_on, spaced, told, word}
use Rattle.casa_app.specs.Told.{IsTold, fault_told}
use Rattle.casa_app.proofs.Words.{decimal_no_mark, word_behind}

pub of_fault : (fault : WireFault) → fault ≢ NoMemory → IsTold (fault_text fault) (fault_told fault)
unfolding serde_json_on_literals
of_fault NotJson some = record { remark = λ n. refl; text_is = refl }
of_fault NoCommand some = record { remark = λ n. refl; text_is = refl }
of_fault (BadField Key) some = record { remark = λ n. refl; text_is = refl }
of_fault (BadField Eobt) some = record { remark = λ n. refl; text_is = refl }
of_fault (BadField Taxi) some = record { remark = λ n. refl; text_is = refl }
of_fault (BadField Via) some = record { remark = λ n. refl; text_is = refl }
of_fault (BadField Sts) some = record { remark = λ n. refl; text_is = refl }
of_fault (BadField Reg) some = record { remark = λ n. refl; text_is = refl }
of_fault (BadField Loc) some = record { remark = λ n. refl; text_is = refl }
of_fault (BadField Periods) some = record { remark = λ n. refl; text_is = refl }
of_fault (BadField At) some = record { remark = λ n. refl; text_is = refl }
of_fault (BadField Other) some = record { remark = λ n. refl; text_is = refl }
of_fault NoMemory some = absurd (some refl)

-- the reply to a refused call
abbrev refusal_text : ℕ → ℕ → List ℕ → List ℕ
refusal_text c n name = codes "{\"code\":" ++ (decimal c ++ (codes ",\"n\":" ++ (decimal n ++ (codes ",\"refused\":\"" ++ (name ++ codes "\"}")))))

name_behind : (c n : ℕ) (name : List ℕ) → c < 2 ^ 64 → n < 2 ^ 64 → told (refusal_text c n name) ≡ codes "refused" ++ spaced (word 0 (name ++ codes "\"}"))
name_behind c n name small fits =
    let last = codes ",\"refused\":\"" ++ (name ++ codes "\"}") in
    let rest = codes ",\"n\":" ++ (decimal n ++ last) in
    let fifth : word 5 (refusal_text c n name) ≡ codes "refused" = word_behind 2 (58 ∷ decimal c) rest (decimal_no_mark c small) ∙ word_behind 0 (58 ∷ decimal n) last (decimal_no_mark n fits) in
    let seventh : word 7 (refusal_text c n name) ≡ word 0 (name ++ codes "\"}") =
    word_behind 4 (58 ∷ decimal c) rest (decimal_no_mark c small) ∙ word_behind 2 (58 ∷ decimal n) last (decimal_no_mark n fits) in
    ap (λ (t : List ℕ). t ++ spaced (word 7 (refusal_text c n name))) fifth ∙ ap (λ (t : List ℕ). codes "refused" ++ spaced t) seventh

short : (c n : ℕ) (name : List ℕ) → c < 100 → n < 2 ^ 64 → length name ≤ 20 → length (refusal_text c n name) ≤ 80
short c n name small fits brief =
    simp length-append (omega (arith, length-decimal-le 2 c (omega arith) small (omega arith), length-decimal-le 20 n (omega arith) (omega arith) fits))

of_refusal_text : (c n : ℕ) (name : List ℕ) → c < 100 → n < 2 ^ 64 → length name ≤ 20 → spaced (word 0 (name ++ codes "\"}")) ≡ 32 ∷ name → IsTold (refusal_text c n name) (codes "refused " ++ name)
of_refusal_text c n name small fits brief is =
    let whole : head (refusal_text c n name) ≡ refusal_text c n name = take_all 80 (refusal_text c n name) (short c n name small fits brief) in
    record {
      remark = λ number. ap (remark_on number) whole;
      text_is = name_behind c n name (omega arith) fits ∙ ap (λ (t : List ℕ). codes "refused" ++ t) is;
    }

pub of_refusal : (refusal : Refusal) (n : ℕ) → n < 2 ^ 64 → IsTold (compact_text (reply_data (Refused refusal) n)) (codes "refused " ++ name_of refusal)
unfolding serde_json_on_literals
of_refusal Duplicate n fits = of_refusal_text 1 n (codes "Duplicate") (omega arith) fits (omega arith) refl
of_refusal NoFlight n fits = of_refusal_text 2 n (codes "NoFlight") (omega arith) fits (omega arith) refl
of_refusal Late n fits = of_refusal_text 3 n (codes "Late") (omega arith) fits (omega arith) refl
of_refusal AlreadyExempt n fits = of_refusal_text 4 n (codes "AlreadyExempt") (omega arith) fits (omega arith) refl
of_refusal DuplicateRegulation n fits = of_refusal_text 5 n (codes "DuplicateRegulation") (omega arith) fits (omega arith) refl
of_refusal NoRegulation n fits = of_refusal_text 6 n (codes "NoRegulation") (omega arith) fits (omega arith) refl
of_refusal TooManyRegulations n fits = of_refusal_text 7 n (codes "TooManyRegulations") (omega arith) fits (omega arith) refl
of_refusal SpanChanged n fits = of_refusal_text 8 n (codes "SpanChanged") (omega arith) fits (omega arith) refl
of_refusal BackInTime n fits = of_refusal_text 9 n (codes "BackInTime") (omega arith) fits (omega arith) refl
of_refusal NotIssued n fits = of_refusal_text 10 n (codes "NotIssued") (omega arith) fits (omega arith) refl
of_refusal OtherRegulation n fits = of_refusal_text 11 n (codes "OtherRegulation") (omega arith) fits (omega arith) refl
of_refusal TooEarly n fits = of_refusal_text 12 n (codes "TooEarly") (omega arith) fits (omega arith) refl

pub of_answer : (answer : Answer) (messages : List Message) (n number : ℕ) → remark_on number (head (compact_text (reply_data (Answered answer messages) n))) ≡ []
unfolding serde_json_on_literals
of_answer Done messages n number = refl
of_answer (Flight flight) messages n number = refl
of_answer (Listing list) messages n number = refl
