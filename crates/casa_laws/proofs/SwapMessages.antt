-- the messages of Swap, from a good state
use Rattle.std.proofs.Common.{◌≡◌, ℕ, true, false, sym, ap, subst, ◌∙◌, inl, inr, Option, None, Some, is_some}
use Rattle.std.specs.Option.{option_map_or}
use Rattle.std.proofs.lemmas.Bool.{both_ways}
use Rattle.std.proofs.lemmas.Cmp.{nat_list_eq_equiv}
use Rattle.casa_flight.specs.declared.call.Call.TheVariants.{Swap}
use Rattle.casa_flight.specs.declared.reply.Message.{Message}
use Rattle.casa_flight.specs.declared.reply.Message.TheVariants.{Srm}
use Rattle.casa_flight.specs.declared.row.Row.{Row}
use Rattle.casa_flight.specs.declared.state.State.{State}
use Rattle.casa_filing.specs.Text.{Text, same_text}
use Rattle.casa_flight.specs.State.{row_of, is_governed_by}
use Rattle.casa_flight.specs.Listing.{ctot_of}
use Rattle.casa_flight.specs.Steps.{step, with_issued_time, Exchange, with_exchange}
use Rattle.casa_flight.specs.Replies.{message, is_issued, ctot_before}
use Rattle.casa_flight.specs.Good.{AreInOrder, IsGood}
use Rattle.casa_flight.specs.Messages.{Passes, CanCome}
use Rattle.casa_laws.proofs.ChangeMessages.{message_cases, each_message, stays, message_none}
use Rattle.casa_laws.proofs.Outcomes.{CanExchange, swap_cases}
use Rattle.casa_laws.proofs.Swap.{exchange-good, exchanged_row}
use Rattle.casa_laws.proofs.CallMessages.{Comes, refused_comes}

-- a flight that stays issued at another time has an SRM or nothing
reissued_message : (Q : Message → Type 0) (m n : State) (key : Text) (old : Row) (t c : ℕ) (z : Message) → row_of m key ≡ Some old → old.issued ≡ Some c
    → ((reg : Text) → old.governing ≡ Some reg → Q (Srm key (ctot_of n key (with_issued_time old t)) reg)) → message m n key (with_issued_time old t) ≡ Some z → Q z
reissued_message Q m n key old t c z found issued f h =
    let was_issued : is_issued (row_of m key) ≡ true = ap is_issued found ∙ ap is_some issued in
    message_cases Q key old.governing (is_issued (row_of m key)) true (ctot_before m key) (ctot_of n key (with_issued_time old t))
    (λ reg governs was now. absurd (both_ways _ was was_issued))
    (λ reg governs was now other. f reg governs)
    (λ was now. cc) z h

passes_governed : (m : State) (key reg : Text) (row : Row) → row_of m key ≡ Some row → row.governing ≡ Some reg → Passes m key (is_governed_by reg)
passes_governed m key reg row found governs =
    ap (λ (w : Option Row). option_map_or (is_governed_by reg) w false) found
    ∙ ap (λ (w : Option Text). option_map_or (same_text reg) w false) governs ∙ nat_list_eq_equiv.refl reg

exchange_message : (m : State) (x : Exchange) (q : Text) (row : Row) (z : Message) → let n : State = with_exchange m x in
    IsGood m → CanExchange m x → AreInOrder n.rows → row_of n q ≡ Some row → message m n q row ≡ Some z → CanCome m (Swap x.key x.other) z
exchange_message m x q row z good can sorted found h =
    elim (exchanged_row m x q) [
      | inl mate ↦
          let both : Some row ≡ Some (with_issued_time x.mate x.cto) = sym found ∙ mate.1 in
          let same : row ≡ with_issued_time x.mate x.cto = cc in
          let there : row_of m q ≡ Some x.mate = ap (row_of m) mate.0 ∙ can.there in
          reissued_message Q m n q x.mate x.cto x.time z there can.mate_issued (λ reg governs. (inr mate.0, passes_governed m q reg x.mate there governs)) (subst (λ r. message m n q r ≡ Some z) same h)
      | inr rest ↦ elim rest [
        | inl own ↦
            let both : Some row ≡ Some (with_issued_time x.row x.time) = sym found ∙ own.1 in
            let same : row ≡ with_issued_time x.row x.time = cc in
            let here : row_of m q ≡ Some x.row = ap (row_of m) own.0 ∙ can.here in
            reissued_message Q m n q x.row x.time x.cto z here can.issued (λ reg governs. (inl own.0, passes_governed m q reg x.row here governs)) (subst (λ r. message m n q r ≡ Some z) same h)
        | inr others ↦
            let none : None ≡ Some z = sym (message_none m n q row good sorted (λ id governs. stays m n id (λ a opened. opened)) (sym others.2 ∙ found) found) ∙ h in
            cc
      ]
    ]
  where
    n : State
    n = with_exchange m x

    Q : Message → Type 0
    Q = CanCome m (Swap x.key x.other)

pub swap_comes : (m : State) (key other : Text) → IsGood m → Comes m (Swap key other) (step m (Swap key other))
swap_comes m key other good =
    swap_cases m (Comes m (Swap key other)) (refused_comes m (Swap key other)) key other
    (λ row mate cto time can.
    let x : Exchange = record { key = key; row = row; cto = cto; other = other; mate = mate; time = time } in
    let later : IsGood (with_exchange m x) = exchange-good m x good can in
    each_message Q m (with_exchange m x) later.rows_in_order (λ q r z found h. exchange_message m x q r z good can later.rows_in_order found h))
  where
    Q : Message → Type 0
    Q = CanCome m (Swap key other)
