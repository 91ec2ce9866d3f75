-- lines that are answered one after the other
use Rattle.std.proofs.Common.{◌≡◌, ℕ, ◌+◌, List, [], ◌∷◌, ◌++◌, take, drop, Option, refl, sym, ap, ◌∙◌, subst, append_assoc, take-append-drop, inl, inr}
use Rattle.std.specs.Prelude.{Result}
use Rattle.casa_flight.specs.declared.call.Call.{Call}
use Rattle.casa_wire.specs.declared.fault.WireFault.{WireFault}
use Rattle.casa_session.specs.declared.fault.SessionFault.{SessionFault}
use Rattle.casa_session.specs.declared.replies.Replies.{Replies}
use Rattle.casa_session.specs.Receipts.{Receipts}
use Rattle.casa_session.specs.Replies.{Answers, AnswersAll, Fails, FailsAmong}

-- one line more is answered behind the others
answers_behind : (first : List (Result Call WireFault)) (meaning : Result Call WireFault) (a c b : Receipts)
    (old mid new : Replies) (v x w : Option (List ℕ))
    → AnswersAll first a c old mid v x → Answers meaning c b mid new x w
    → AnswersAll (first ++ meaning ∷ []) a b old new v w
answers_behind [] meaning a c b old mid new v x w (receipts, (replies, output)) answers =
    (b, new, w, rw (receipts, replies, output) at answers, (refl, (refl, refl)))
answers_behind (m ∷ ms) meaning a c b old mid new v x w (d, then, y, answers, more) last =
    (d, then, y, answers, answers_behind ms meaning d c b then mid new y x w more last)

-- a line has no reply behind others that were answered
fails_behind : (foreign : Type 0) (fault : SessionFault) (first : List (Result Call WireFault))
    (meaning : Result Call WireFault) (rest : List (Result Call WireFault)) (a c b : Receipts) (old mid : Replies)
    (v x w : Option (List ℕ))
    → AnswersAll first a c old mid v x → Fails foreign fault meaning c b mid x w
    → FailsAmong foreign fault (first ++ meaning ∷ rest) a b old v w
fails_behind foreign fault [] meaning rest a c b old mid v x w (receipts, (replies, output)) fails =
    inl (rw (receipts, replies, output) at fails)
fails_behind foreign fault (m ∷ ms) meaning rest a c b old mid v x w (d, then, y, answers, more) fails =
    inr (d, then, y, answers, fails_behind foreign fault ms meaning rest d c b then mid y x w more fails)

module _ (asked : List (Result Call WireFault)) (i : ℕ) (meaning : Result Call WireFault)
    (is : take (i + 1) asked ≡ take i asked ++ meaning ∷ []) (a c b : Receipts) (old mid : Replies)
    (v x w : Option (List ℕ)) (first : AnswersAll (take i asked) a c old mid v x) where
  -- the next of some lines is answered
  pub answers_next : (new : Replies) → Answers meaning c b mid new x w → AnswersAll (take (i + 1) asked) a b old new v w
  answers_next new answers =
      subst (λ ms. AnswersAll ms a b old new v w) (sym is)
      (answers_behind (take i asked) meaning a c b old mid new v x w first answers)

  -- the next of some lines has no reply
  pub fails_next : (foreign : Type 0) (fault : SessionFault) → Fails foreign fault meaning c b mid x w
      → FailsAmong foreign fault asked a b old v w
  fails_next foreign fault fails =
      let all : take i asked ++ meaning ∷ drop (i + 1) asked ≡ asked =
      sym (append_assoc (take i asked) (meaning ∷ []) (drop (i + 1) asked))
      ∙ ap (λ l. l ++ drop (i + 1) asked) (sym is) ∙ take-append-drop (i + 1) asked in
      subst (λ ms. FailsAmong foreign fault ms a b old v w) all
      (fails_behind foreign fault (take i asked) meaning (drop (i + 1) asked) a c b old mid v x w first fails)
