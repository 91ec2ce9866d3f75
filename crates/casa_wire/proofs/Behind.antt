-- what is written behind bytes, one text after the other
use Rattle.std.proofs.Common.{◌≡◌, ℕ, ◌+◌, ◌<◌, Bool, List, [], ◌∷◌, ◌++◌, length, take, get_or, append_assoc, append-nil, refl, ap, sym, ◌∙◌, true}
use Rattle.std.specs.Prelude.{Result, Ok, Err, IsErr, if◌then◌else◌, map, codes}
use Rattle.std.proofs.lemmas.Grind.{flat_map-append}
use Rattle.std.proofs.lemmas.List.{take_more}
use Rattle.serde_json.specs.Data.{Data, boolean, string}
use Rattle.serde_json.specs.View.{items_of}
use Rattle.serde_json.specs.Written.{compact_text, items_text}
use Rattle.serde_json.proofs.OnLiterals.{serde_json_on_literals}
use Rattle.casa_flight.specs.declared.reply.Answer.{Answer}
use Rattle.casa_flight.specs.declared.reply.Answer.TheVariants.{Done, Flight, List as Listing}
use Rattle.casa_flight.specs.declared.reply.FlightReply.{FlightReply}
use Rattle.casa_flight.specs.declared.reply.ListReply.{ListReply}
use Rattle.casa_flight.specs.declared.reply.ListRow.{ListRow}
use Rattle.casa_flight.specs.declared.reply.Message.{Message}
use Rattle.casa_wire.specs.LineTexts.{count, or_null, kind_name, list_of, messages_data, flight_data, list_data, row_data, answer_data}
use Rattle.casa_wire.specs.Parts.{Writes, answer_opening, list_opening, more_text}

pub both : (a b c t u : List ℕ) → b ≡ a ++ t → c ≡ b ++ u → c ≡ a ++ (t ++ u)
both a b c t u first second = second ∙ ap (λ l. l ++ u) first ∙ append_assoc a t u

-- the first text, and then a function that writes the second
pub writes_after : {U E : Type 0} (r : Result U E) (a b c t u : List ℕ) → b ≡ a ++ t → Writes r b c u → Writes r a c (t ++ u)
writes_after (Ok x) a b c t u first second = both a b c t u first second
writes_after (Err e) a b c t u first second = (t ++ second.0, both a b c t second.0 first second.1)

-- the first text, and then a function that is refused memory
pub cut_after : {U E : Type 0} (r : Result U E) (a b c t u : List ℕ) → IsErr r → b ≡ a ++ t → ((more : List ℕ) × (c ≡ b ++ more)) → Writes r a c u
cut_after (Ok x) a b c t u err first second = absurd (cc)
cut_after (Err e) a b c t u err first second = (t ++ second.0, both a b c t second.0 first second.1)

-- two texts, and then a function that writes the third
pub writes_third : {U E : Type 0} (r : Result U E) (a b c d t u v : List ℕ) → b ≡ a ++ t → c ≡ b ++ u → Writes r c d v → Writes r a d (t ++ (u ++ v))
writes_third r a b c d t u v first second third = writes_after r a b d t (u ++ v) first (writes_after r b c d u v second third)

-- the same text in other words
pub writes_as : {U E : Type 0} (r : Result U E) (a b t u : List ℕ) → t ≡ u → Writes r a b t → Writes r a b u
writes_as r a b t u e h = rw (← e) h

-- one item more
pub more_text-next : {A : Type 0} (written : A → Data) (xs : List A) (i : ℕ) (x : A) → i < length xs → x ≡ get_or xs i x
    → more_text written (take (i + 1) xs) ≡ more_text written (take i xs) ++ (44 ∷ compact_text (written x))
more_text-next written xs i x h e =
    rw (take_more xs i x h) (flat_map-append (λ y. 44 ∷ compact_text (written y)) (take i xs) (get_or xs i x ∷ [])
    ∙ rw (← e) (ap (λ l. more_text written (take i xs) ++ (44 ∷ l)) (append-nil (compact_text (written x)))))

items_behind : {A : Type 0} (written : A → Data) (xs : List A) → items_text true (items_of (map written xs)) ≡ more_text written xs ++ (93 ∷ [])
items_behind written [] = refl
items_behind written (x ∷ xs) = rw (items_behind written xs) (ap (λ l. 44 ∷ l) (sym (append_assoc (compact_text (written x)) (more_text written xs) (93 ∷ []))))

-- a list that is not empty
pub list_text : {A : Type 0} (written : A → Data) (x : A) (xs : List A)
    → (91 ∷ compact_text (written x)) ++ (more_text written xs ++ (93 ∷ [])) ≡ compact_text (list_of written (x ∷ xs))
list_text written x xs = rw (← items_behind written xs) refl

-- an answer with its messages and its position
pub answer_text : (answer : Answer) (ms : List Message) (n : ℕ)
    → answer_opening answer ++ (compact_text (messages_data ms) ++ (codes ",\"n\":" ++ (compact_text (count n) ++ codes "}"))) ≡ compact_text (answer_data answer ms n)
unfolding serde_json_on_literals
answer_text Done ms n = refl
answer_text (Flight f) ms n = ap (λ l. codes "{\"flight\":" ++ l) (append_assoc (compact_text (flight_data f)) (codes ",\"msgs\":") _)
answer_text (Listing l) ms n = ap (λ l. codes "{\"list\":" ++ l) (append_assoc (compact_text (list_data l)) (codes ",\"msgs\":") _)

-- a list reply
pub list_reply_text : (l : ListReply)
    → list_opening l ++ (compact_text (list_of row_data l.rows) ++ (codes ",\"slots\":" ++ (compact_text (count l.slots)
    ++ (codes ",\"start\":" ++ (compact_text (count l.start) ++ codes "}"))))) ≡ compact_text (list_data l)
unfolding serde_json_on_literals
list_reply_text l = simp append_assoc refl

-- a row, behind the bracket or a comma
pub row_text : (is_first : Bool) (r : ListRow)
    → ((if is_first then 91 else 44) ∷ codes "{\"cto\":") ++ (compact_text (count r.cto) ++ (codes ",\"eto\":" ++ (compact_text (count r.eto)
    ++ (codes ",\"key\":" ++ (compact_text (string r.key) ++ ((codes ",\"kind\":" ++ (compact_text (string (kind_name r.kind)) ++ codes ",\"slot\":"))
    ++ (compact_text (or_null count r.slot) ++ codes "}"))))))) ≡ (if is_first then 91 else 44) ∷ compact_text (row_data r)
unfolding serde_json_on_literals
row_text is_first r = simp append_assoc refl

-- a flight reply
pub flight_text : (f : FlightReply)
    → codes "{\"ctot\":" ++ (compact_text (count f.ctot) ++ (codes ",\"delay\":" ++ (compact_text (count f.delay) ++ (codes ",\"eobt\":" ++ (compact_text (count f.eobt)
    ++ (codes ",\"etot\":" ++ (compact_text (count f.etot) ++ ((codes ",\"exempt\":" ++ (compact_text (boolean f.exempt) ++ (codes ",\"issued\":" ++ (compact_text (boolean f.issued) ++ codes ",\"key\":"))))
    ++ (compact_text (string f.key) ++ (codes ",\"reg\":" ++ (compact_text (or_null string f.reg) ++ codes "}"))))))))))) ≡ compact_text (flight_data f)
unfolding serde_json_on_literals
flight_text f = simp append_assoc refl
