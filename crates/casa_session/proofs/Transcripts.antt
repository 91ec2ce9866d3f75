-- laws of transcripts
use Rattle.std.proofs.Common.{◌≡◌, ℕ, List, [], ◌∷◌, ◌++◌, cond, Bool, true, false, refl, sym, ap, ◌∙◌, append-nil, append_assoc}
use Rattle.std.specs.Prelude.{Result, Ok, Err}
use Rattle.std.specs.List.{list_any}
use Rattle.std.proofs.lemmas.List.{map-append}
use Rattle.casa_flight.specs.declared.call.Call.{Call}
use Rattle.casa_flight.specs.declared.reply.Reply.{Reply}
use Rattle.casa_history.specs.declared.entry.Receipt.{Receipt}
use Rattle.casa_wire.specs.declared.fault.WireFault.{WireFault}
use Rattle.casa_wire.specs.Commands.{line_call}
use Rattle.casa_wire.specs.LineTexts.{reply_line, fault_line}
use Rattle.casa_session.specs.Lines.{is_too_long, has_too_long}
use Rattle.casa_session.specs.Receipts.{Receipts}
use Rattle.casa_session.specs.Transcript.{calls_of, calls, call_list, answer_text, after_line, transcript}
use Rattle.casa_session.proofs.Splitting.{or_false}

nothing_left : (rs : Receipts) → calls_of rs ≡ [] → rs ≡ []
nothing_left [] e = refl
nothing_left (r ∷ rs) e = absurd (cc)

calls-append : (ls ms : List (List ℕ)) → has_too_long ls ≡ false → calls (ls ++ ms) ≡ calls ls ++ calls ms
calls-append [] ms h = refl
calls-append (l ∷ ls) ms h =
    let (short, rest) = or_false (is_too_long l) (list_any is_too_long ls) h in
    rw short (ap (λ cs. call_list (line_call l) ++ cs) (calls-append ls ms rest) ∙ sym (append_assoc (call_list (line_call l)) (calls ls) (calls ms)))

transcript_at : (r : Result Call WireFault) (rs ss : Receipts) (ls ms : List (List ℕ)) → calls_of rs ≡ call_list r ++ calls ls
    → ((rs : Receipts) → calls_of rs ≡ calls ls → transcript (rs ++ ss) (ls ++ ms) ≡ transcript rs ls ++ transcript ss ms)
    → answer_text r (rs ++ ss) ++ transcript (after_line r (rs ++ ss)) (ls ++ ms) ≡ (answer_text r rs ++ transcript (after_line r rs) ls) ++ transcript ss ms
transcript_at (Ok c) [] ss ls ms e ih = absurd (cc)
transcript_at (Ok c) (r ∷ rs) ss ls ms e ih =
    let tail : calls_of rs ≡ calls ls = cc in
    ap (λ t. reply_line r.entry.reply r.position ++ t) (ih rs tail) ∙ sym (append_assoc (reply_line r.entry.reply r.position) (transcript rs ls) (transcript ss ms))
transcript_at (Err f) rs ss ls ms e ih = ap (λ t. fault_line f ++ t) (ih rs e) ∙ sym (append_assoc (fault_line f) (transcript rs ls) (transcript ss ms))

transcript_step : (t : Bool) (l : List ℕ) (rs ss : Receipts) (ls ms : List (List ℕ)) → is_too_long l ≡ t → t ≡ false
    → calls_of rs ≡ cond t [] (call_list (line_call l) ++ calls ls)
    → ((rs : Receipts) → calls_of rs ≡ calls ls → transcript (rs ++ ss) (ls ++ ms) ≡ transcript rs ls ++ transcript ss ms)
    → transcript (rs ++ ss) ((l ∷ ls) ++ ms) ≡ transcript rs (l ∷ ls) ++ transcript ss ms
transcript_step true l rs ss ls ms e f called ih = absurd (cc)
transcript_step false l rs ss ls ms e f called ih = rw e (transcript_at (line_call l) rs ss ls ms called ih)

later : (ss : Receipts) (ms ls : List (List ℕ)) → has_too_long ls ≡ false → (rs : Receipts) → calls_of rs ≡ calls ls → transcript (rs ++ ss) (ls ++ ms) ≡ transcript rs ls ++ transcript ss ms
later ss ms [] h rs e = rw (nothing_left rs e) refl
later ss ms (l ∷ ls) h rs e =
    let (short, rest) = or_false (is_too_long l) (list_any is_too_long ls) h in
    transcript_step (is_too_long l) l rs ss ls ms refl short e (later ss ms ls rest)

pub transcript-append : (rs ss : Receipts) (ls ms : List (List ℕ)) → has_too_long ls ≡ false → calls_of rs ≡ calls ls → transcript (rs ++ ss) (ls ++ ms) ≡ transcript rs ls ++ transcript ss ms
transcript-append rs ss ls ms h e = later ss ms ls h rs e

pub called-append : (rs ss : Receipts) (ls ms : List (List ℕ)) → has_too_long ls ≡ false → calls_of rs ≡ calls ls → calls_of ss ≡ calls ms → calls_of (rs ++ ss) ≡ calls (ls ++ ms)
called-append rs ss ls ms h p q = map-append (λ (r : Receipt Call Reply). r.entry.call) rs ss ∙ rw (p, q) (sym (calls-append ls ms h))

pub grown : (a b c rs ss : Receipts) → b ≡ a ++ rs → c ≡ b ++ ss → c ≡ a ++ (rs ++ ss)
grown a b c rs ss p q = q ∙ ap (λ l. l ++ ss) p ∙ append_assoc a rs ss

pub one_line : (l : List ℕ) (rs : Receipts) → is_too_long l ≡ false → transcript rs (l ∷ []) ≡ answer_text (line_call l) rs
one_line l rs h = rw h (append-nil (answer_text (line_call l) rs))

pub one_call : (l : List ℕ) → is_too_long l ≡ false → calls (l ∷ []) ≡ call_list (line_call l)
one_call l h = rw h (append-nil (call_list (line_call l)))
