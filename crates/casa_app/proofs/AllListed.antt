-- the lists of all open regulations, by their numbers in the catalogue
use Rattle.std.proofs.Common.{◌≡◌, ℕ, zero, suc, List, [], ◌∷◌, map, Option, None, Some, refl, sym, ap, ◌∙◌, inl, inr}
use Rattle.std.specs.Prelude.{◌⊎◌, slice_get, Result, Ok, Err, IfErr, IsErrAnd}
use Rattle.std.specs.Option.{option_map_or}
use Rattle.std.specs.List.{AllByRecursion}
use Rattle.casa_flight.specs.declared.call.Call.{Call}
use Rattle.casa_flight.specs.declared.call.Call.TheVariants.{List as ListOf}
use Rattle.casa_filing.specs.declared.regulation.Measure.{Measure}
use Rattle.casa_filing.specs.declared.regulation.Regulation.{Regulation}
use Rattle.casa_flight.specs.declared.reply.Answer.TheVariants.{Done, List as ListAnswer}
use Rattle.casa_flight.specs.declared.reply.ListReply.{ListReply}
use Rattle.casa_flight.specs.declared.state.State.{State}
use Rattle.casa_flight.specs.Good.{IsGood}
use Rattle.casa_flight.specs.Listing.{listing}
use Rattle.casa_flight.specs.Replies.{list_reply, reply, reply_of}
use Rattle.casa_filing.specs.Subject.{regulation}
use Rattle.casa_flight.specs.State.{catalogue, measure_of}
use Rattle.casa_flight.specs.Steps.{list}
use Rattle.casa_filing.specs.Text.{Text, at_name}
use Rattle.casa_filing.proofs.Entries.{each_found}
use Rattle.casa_inquiry.specs.Summary.{lists_told}
use Rattle.casa_session.specs.Played.{state_after_calls}
use Rattle.casa_app.specs.declared.fault.PrintFault.{PrintFault}
use Rattle.casa_app.specs.declared.fault.PrintFault.TheVariants.{NoMemory, NoRegulation}
use Rattle.casa_app.specs.Listed.{list_as, list_in}
use Rattle.casa_app.specs.Reports.{list_after}
use Rattle.casa_app.proofs.LastReply.{good_after}

-- the list that the allocator tells of an open regulation
told_of : (m : State) (id : Text) (measure : Measure) → measure_of m id ≡ Some measure
    → list_in (reply m (ListOf id)) ≡ Some (list_reply m (regulation id measure) (listing m.rows id measure))
told_of m id measure opens =
    ap (λ (o : Option Measure). list_in (reply_of m (ListOf id) (list m o))) opens
    ∙ ap (λ (o : Option Measure). list_as (option_map_or (λ (x : Measure). ListAnswer (list_reply m (regulation id x) (listing m.rows id x))) o Done)) opens

nth_in : (m : State) (es : List (Text × Measure)) (i : ℕ) (r : Regulation)
    → AllByRecursion (λ (e : Text × Measure). at_name m.regs e.0 ≡ Some e.1) es
    → slice_get (map (λ (e : Text × Measure). regulation e.0 e.1) es) i ≡ Some r
    → (shown : ListReply) × (list_in (reply m (ListOf r.id)) ≡ Some shown)
    × (slice_get (map (λ (e : Text × Measure). list_reply m (regulation e.0 e.1) (listing m.rows e.0 e.1)) es) i ≡ Some shown)
nth_in m [] i r held found = cc
nth_in m (e ∷ es) zero r held found =
    let id : e.0 ≡ r.id = cc in (
      list_reply m (regulation e.0 e.1) (listing m.rows e.0 e.1),
      sym (ap (λ (name : Text). list_in (reply m (ListOf name))) id) ∙ told_of m e.0 e.1 held.0,
      refl,
    )
nth_in m (e ∷ es) (suc i) r held found = nth_in m es i r held.1 found

-- the list that is told of a regulation has the regulation's number
pub nth_told : (m : State) → IsGood m → (i : ℕ) (r : Regulation) → slice_get (catalogue m) i ≡ Some r
    → (shown : ListReply) × (list_in (reply m (ListOf r.id)) ≡ Some shown) × (slice_get (lists_told m) i ≡ Some shown)
nth_told m good i r found = nth_in m m.regs i r (each_found m.regs good.regs_in_order) found

-- where a regulation is open, its list is refused for want of memory alone
pub only_no_memory : {X : Type 0} {Untold : Type 0} (result : Result X PrintFault) (fault : PrintFault) → IsErrAnd result (λ f. f ≡ fault)
    → (fault ≡ NoMemory) ⊎ ((fault ≡ NoRegulation) × Untold) → (Untold → ⊥) → IfErr result (λ f. f ≡ NoMemory)
only_no_memory (Ok x) fault e why open_now = absurd e
only_no_memory (Err f) fault e (inl p) open_now = e ∙ p
only_no_memory (Err f) fault e (inr p) open_now = absurd (open_now p.1)

-- a list that is told in the same state is the one with its regulation's number, and one is told
module _ (before now : List Call) (same : state_after_calls now ≡ state_after_calls before) (i : ℕ) (r : Regulation)
    (found : slice_get (catalogue (state_after_calls before)) i ≡ Some r) where
  pub next_told : (list : ListReply) → list_after now r.id ≡ Some list → slice_get (lists_told (state_after_calls before)) i ≡ Some list
  next_told list told =
      let (shown, is_told, there) = nth_told (state_after_calls before) (good_after before) i r found in
      there ∙ sym is_told ∙ ap (λ (m : State). list_in (reply m (ListOf r.id))) (sym same) ∙ told

  pub is_listed : list_after now r.id ≡ None → ⊥
  is_listed untold =
      let (shown, is_told, there) = nth_told (state_after_calls before) (good_after before) i r found in
      let some : Some shown ≡ None = sym is_told ∙ ap (λ (m : State). list_in (reply m (ListOf r.id))) (sym same) ∙ untold in
      cc
