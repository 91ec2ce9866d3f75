-- the lists of the open regulations, by their numbers in the catalogue
use Rattle.std.proofs.Common.{◌≡◌, ℕ, zero, suc, ◌+◌, List, [], ◌∷◌, ◌++◌, map, take, Some, refl, sym, ap, subst, ◌∙◌, append-nil, arith}
use Rattle.std.proofs.Math.Seq.{take-nil}
use Rattle.std.specs.Option.{option_map}
use Rattle.std.specs.List.{AllByRecursion, slice_get, cons_option}
use Rattle.casa_flight.specs.declared.call.Call.{Call}
use Rattle.casa_filing.specs.declared.regulation.Measure.{Measure}
use Rattle.casa_filing.specs.declared.regulation.Regulation.{Regulation}
use Rattle.casa_flight.specs.declared.reply.Reply.{Reply}
use Rattle.casa_flight.specs.declared.state.State.{State}
use Rattle.casa_filing.specs.Text.{Text, at_name}
use Rattle.casa_filing.specs.Subject.{regulation}
use Rattle.casa_flight.specs.State.{catalogue}
use Rattle.casa_flight.specs.Good.{AreInOrder}
use Rattle.casa_flight.specs.Listing.{listing, list_of}
use Rattle.casa_filing.proofs.Entries.{each_found}
use Rattle.casa_history.specs.declared.entry.Entry.{Entry}
use Rattle.casa_footprint.specs.Stamps.{state_after}
use Rattle.casa_view.specs.BoardState.{BoardState}
use Rattle.casa_plan.specs.Rooms.{IsBoardAfter}
use Rattle.casa_engine.specs.Delays.{lists_in}

nth_in : (m : State) (es : List (Text × Measure)) (i : ℕ) (r : Regulation)
    → AllByRecursion (λ (e : Text × Measure). at_name m.regs e.0 ≡ Some e.1) es
    → slice_get (map (λ (e : Text × Measure). regulation e.0 e.1) es) i ≡ Some r
    → slice_get (map (λ (e : Text × Measure). listing m.rows e.0 e.1) es) i ≡ list_of m r.id
nth_in m [] i r held found = cc
nth_in m (e ∷ es) zero r held found =
    let id : e.0 ≡ r.id = cc in
    sym (ap (option_map (listing m.rows e.0)) held.0) ∙ ap (list_of m) id
nth_in m (e ∷ es) (suc i) r held found = nth_in m es i r held.1 found

-- the list of a regulation has the regulation's number
pub nth_listed : (m : State) → AreInOrder m.regs → (i : ℕ) (r : Regulation) → slice_get (catalogue m) i ≡ Some r
    → slice_get (lists_in m) i ≡ list_of m r.id
nth_listed m in_order i r found = nth_in m m.regs i r (each_found m.regs in_order) found

-- the list that a board keeps of a regulation has the regulation's number
pub nth_list : {history : List (Entry Call Reply)} {s : BoardState} → IsBoardAfter history s → (i : ℕ) (r : Regulation)
    → slice_get s.catalogue i ≡ Some r → slice_get (lists_in (state_after history)) i ≡ s.list r.id
nth_list {history} {s} stands i r found =
    let there : slice_get (catalogue s.state) i ≡ Some r = subst (λ (rs : List Regulation). slice_get rs i ≡ Some r) stands.catalogue_is found in
    ap (λ (m : State). slice_get (lists_in m) i) (sym stands.state)
    ∙ nth_listed s.state stands.good.regs_in_order i r there ∙ sym (stands.lists r.id)

-- the first elements with the next one, if there is one
pub take_next : {X : Type 0} → (xs : List X) (i : ℕ) → take (i + 1) xs ≡ take i xs ++ cons_option (slice_get xs i) []
take_next [] zero = refl
take_next {X} [] (suc i) = take-nil {A = X} (suc i + 1) ∙ sym (append-nil (take (suc i) []) ∙ take-nil {A = X} (suc i))
take_next (x ∷ xs) zero = refl
take_next {X} (x ∷ xs) (suc i) =
    let next : suc i + 1 ≡ suc (i + 1) = omega arith in
    ap (λ (n : ℕ). take n (x ∷ xs)) next ∙ ap (λ (ys : List X). x ∷ ys) (take_next xs i)
