-- inner contracts: texts that are written part by part
use Rattle.std.specs.Prelude.{◌≡◌, ℕ, List, ◌∷◌, ◌++◌, flat_map, codes, Bool, not, ◌&&◌, ◌==◌, nat_le, Result, Ok, Err}
use Rattle.serde_json.specs.Data.{Data, string}
use Rattle.serde_json.specs.Written.{compact_text}
use Rattle.casa_wire.specs.declared.parts.Part.{Part}
use Rattle.casa_wire.specs.declared.parts.Part.TheVariants.{Text, Number, Name}
use Rattle.casa_flight.specs.declared.reply.Answer.{Answer}
use Rattle.casa_flight.specs.declared.reply.Answer.TheVariants.{Done, Flight, List as Listing}
use Rattle.casa_flight.specs.declared.reply.ListReply.{ListReply}
use Rattle.casa_wire.specs.LineTexts.{count, flight_data, list_data}

abbrev pub part_text : Part → List ℕ
part_text (Text text) = text.now
part_text (Number n) = compact_text (count n)
part_text (Name name) = compact_text (string name.now)

abbrev pub parts_text : List Part → List ℕ
parts_text parts = flat_map part_text parts

-- a byte that stands for itself in a JSON string: no control character, quotation mark or backslash
abbrev pub is_plain_byte : ℕ → Bool
is_plain_byte b = nat_le 32 b && (not (b == 34) && not (b == 92))

-- the text was written behind the bytes that stood there; where memory is refused, perhaps others were
abbrev pub Writes : {U E : Type 0} → Result U E → (old new text : List ℕ) → Type 0
Writes (Ok u) old new text = new ≡ old ++ text
Writes (Err e) old new text = (more : List ℕ) × (new ≡ old ++ more)

-- what stands before the messages of an answer
abbrev pub answer_opening : Answer → List ℕ
answer_opening Done = codes "{\"done\":true,\"msgs\":"
answer_opening (Flight f) = codes "{\"flight\":" ++ (compact_text (flight_data f) ++ codes ",\"msgs\":")
answer_opening (Listing l) = codes "{\"list\":" ++ (compact_text (list_data l) ++ codes ",\"msgs\":")

-- what stands before the rows of a list
abbrev pub list_opening : ListReply → List ℕ
list_opening l =
    codes "{\"end\":" ++ (compact_text (count l.end) ++ (codes ",\"loc\":" ++ (compact_text (string l.loc)
    ++ (codes ",\"reg\":" ++ (compact_text (string l.reg) ++ codes ",\"rows\":")))))

-- the items of a list behind its first one
abbrev pub more_text : {A : Type 0} → (A → Data) → List A → List ℕ
more_text written xs = flat_map (λ x. 44 ∷ compact_text (written x)) xs
