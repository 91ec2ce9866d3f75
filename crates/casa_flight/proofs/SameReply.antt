-- `==` of replies is equality
use Rattle.std.proofs.Common.{◌≡◌, ℕ, List, Bool, true, false, refl, ap, rules}
use Rattle.std.specs.Prelude.{Option, None, Some, nat_eq}
use Rattle.std.specs.Cmp.Lexicographic.{pointwise}
use Rattle.std.specs.Option.{option_eq}
use Rattle.std.specs.Bool.{beq}
use Rattle.std.proofs.lemmas.Bool.{and_parts, eqb-true}
use Rattle.casa_grid.proofs.Equal.{pointwise-true}
use Rattle.casa_filing.proofs.Same.{text_same}
use Rattle.casa_flight.specs.declared.call.Refusal.{Refusal}
use Rattle.casa_flight.specs.declared.reply.Message.{Message}
use Rattle.casa_flight.specs.declared.reply.ListRow.{ListRow}
use Rattle.casa_flight.specs.declared.reply.ListReply.{ListReply}
use Rattle.casa_flight.specs.declared.reply.FlightReply.{FlightReply}
use Rattle.casa_flight.specs.declared.reply.Answer.{Answer}
use Rattle.casa_flight.specs.declared.reply.Answer.TheVariants.{Done, Flight, List as ListAnswer}
use Rattle.casa_flight.specs.declared.reply.Reply.{Reply}
use Rattle.casa_flight.specs.declared.reply.Reply.TheVariants.{Refused, Answered}
use Rattle.casa_flight.specs.contracts.call.RefusalPartialEq.TheImpl.{ghosts as refusal}
use Rattle.casa_flight.specs.contracts.reply.MessagePartialEq.TheImpl.{ghosts as message}
use Rattle.casa_flight.specs.contracts.reply.ListRowPartialEq.TheImpl.{ghosts as list_row}
use Rattle.casa_flight.specs.contracts.reply.ListReplyPartialEq.TheImpl.{ghosts as list_reply}
use Rattle.casa_flight.specs.contracts.reply.FlightReplyPartialEq.TheImpl.{ghosts as flight_reply}
use Rattle.casa_flight.specs.contracts.reply.AnswerPartialEq.TheImpl.{ghosts as answer}
use Rattle.casa_flight.specs.contracts.reply.ReplyPartialEq.TheImpl.{ghosts as reply}

refusal_same : (a b : Refusal) → refusal.eq a b ≡ true → a ≡ b
refusal_same a b h = search rules

message_same : (a b : Message) → message.eq a b ≡ true → a ≡ b
message_same a b h = search rules

list_row_same : (a b : ListRow) → list_row.eq a b ≡ true → a ≡ b
list_row_same a b h = search rules

pub flag_same : (a b : Bool) → beq a b ≡ true → a ≡ b
flag_same true true h = refl
flag_same false false h = refl
flag_same a b h = cc

pub id_same : (a b : Option (List ℕ)) → option_eq (pointwise nat_eq) a b ≡ true → a ≡ b
id_same None None h = refl
id_same (Some a) (Some b) h = ap Some (text_same a b h)
id_same a b h = cc

flight_same : (a b : FlightReply) → flight_reply.eq a b ≡ true → a ≡ b
flight_same a b h =
    let p = and_parts _ _ h in
    let q = and_parts _ _ p.1 in
    let r = and_parts _ _ q.1 in
    let s = and_parts _ _ r.1 in
    let t = and_parts _ _ s.1 in
    let u = and_parts _ _ t.1 in
    let v = and_parts _ _ u.1 in
    let key_is : a.key ≡ b.key = text_same _ _ p.0 in
    let eobt_is : a.eobt ≡ b.eobt = eqb-true _ _ q.0 in
    let etot_is : a.etot ≡ b.etot = eqb-true _ _ r.0 in
    let ctot_is : a.ctot ≡ b.ctot = eqb-true _ _ s.0 in
    let delay_is : a.delay ≡ b.delay = eqb-true _ _ t.0 in
    let exempt_is : a.exempt ≡ b.exempt = flag_same a.exempt b.exempt u.0 in
    let issued_is : a.issued ≡ b.issued = flag_same a.issued b.issued v.0 in
    let reg_is : a.reg ≡ b.reg = id_same a.reg b.reg v.1 in
    λ i. record { key = key_is i; eobt = eobt_is i; etot = etot_is i; ctot = ctot_is i; delay = delay_is i; exempt = exempt_is i; issued = issued_is i; reg = reg_is i }

list_same : (a b : ListReply) → list_reply.eq a b ≡ true → a ≡ b
list_same a b h =
    let p = and_parts _ _ h in
    let q = and_parts _ _ p.1 in
    let r = and_parts _ _ q.1 in
    let s = and_parts _ _ r.1 in
    let t = and_parts _ _ s.1 in
    let reg_is : a.reg ≡ b.reg = text_same _ _ p.0 in
    let loc_is : a.loc ≡ b.loc = text_same _ _ q.0 in
    let start_is : a.start ≡ b.start = eqb-true _ _ r.0 in
    let end_is : a.end ≡ b.end = eqb-true _ _ s.0 in
    let slots_is : a.slots ≡ b.slots = eqb-true _ _ t.0 in
    let rows_is : a.rows ≡ b.rows = pointwise-true _ list_row_same _ _ t.1 in
    λ i. record { reg = reg_is i; loc = loc_is i; start = start_is i; end = end_is i; slots = slots_is i; rows = rows_is i }

answer_same : (a b : Answer) → answer.eq a b ≡ true → a ≡ b
answer_same Done Done h = refl
answer_same (Flight p) (Flight q) h = ap Flight (flight_same p q h)
answer_same (ListAnswer p) (ListAnswer q) h = ap ListAnswer (list_same p q h)
answer_same a b h = cc

pub reply_same : (a b : Reply) → reply.eq a b ≡ true → a ≡ b
reply_same (Refused p) (Refused q) h = ap Refused (refusal_same p q h)
reply_same (Answered p ms) (Answered q ns) h =
    let k = and_parts _ _ h in
    λ i. Answered (answer_same p q k.0 i) (pointwise-true _ message_same ms ns k.1 i)
reply_same a b h = cc
