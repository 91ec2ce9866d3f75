-- the regulations that are shown: their delays are those that their lists tell
use Rattle.std.proofs.Common.{◌≡◌, ℕ, zero, suc, List, [], ◌∷◌, map, Some, refl, arith}
use Rattle.std.proofs.lemmas.List.Sums.{sum_by-cons}
use Rattle.std.proofs.lemmas.Option.{same_Some}
use Rattle.std.specs.Prelude.{slice_get}
use Rattle.std.specs.List.{sum_by}
use Rattle.casa_filing.specs.declared.regulation.Measure.{Measure}
use Rattle.casa_filing.specs.declared.regulation.Regulation.{Regulation}
use Rattle.casa_filing.specs.Text.{Text}
use Rattle.casa_filing.specs.Subject.{regulation}
use Rattle.casa_flight.specs.declared.reply.ListReply.{ListReply}
use Rattle.casa_flight.specs.declared.state.State.{State}
use Rattle.casa_flight.specs.Listing.{Listing, listing}
use Rattle.casa_flight.specs.Replies.{list_reply}
use Rattle.casa_inquiry.specs.Summary.{rows_of, total_delay}
use Rattle.casa_inquiry.proofs.Summed.{delays-append}
use Rattle.casa_look.specs.declared.state.OpenRegulation.{OpenRegulation}
use Rattle.casa_look.specs.StateText.{open_regulation}

pub shown_delays : (list : Text × Measure → ListReply) (es : List (Text × Measure))
    → sum_by (λ (r : OpenRegulation). r.cost.delay) (map (λ (e : Text × Measure). open_regulation e.0 e.1 (list e)) es) ≡ total_delay (map list es)
shown_delays list [] = refl
shown_delays list (e ∷ es) =
    let shown : Text × Measure → OpenRegulation = λ e. open_regulation e.0 e.1 (list e) in
    let delay : OpenRegulation → ℕ = λ r. r.cost.delay in
    let first = sum_by-cons delay (shown e) (map shown es) in
    let told = delays-append (list e).rows (rows_of (map list es)) in
    let later = shown_delays list es in
    omega (arith, first, told, later)

-- an open regulation is shown by the catalogue and the list that have its number
pub shown_at : (m : State) (es : List (Text × Measure)) (k : ℕ) (r : Regulation) (l : Listing)
    → slice_get (map (λ (e : Text × Measure). regulation e.0 e.1) es) k ≡ Some r
    → slice_get (map (λ (e : Text × Measure). listing m.rows e.0 e.1) es) k ≡ Some l
    → slice_get (map (λ (e : Text × Measure). open_regulation e.0 e.1 (list_reply m (regulation e.0 e.1) (listing m.rows e.0 e.1))) es) k
    ≡ Some (open_regulation r.id (record { loc = r.loc; profile = l.profile }) (list_reply m r l))
shown_at m [] k r l regulated listed = cc
shown_at m (e ∷ es) zero r l regulated listed =
    let one : regulation e.0 e.1 ≡ r = same_Some (regulation e.0 e.1) r regulated in
    let its : listing m.rows e.0 e.1 ≡ l = same_Some (listing m.rows e.0 e.1) l listed in
    λ i. Some (open_regulation (one i).id (record { loc = (one i).loc; profile = (its i).profile }) (list_reply m (one i) (its i)))
shown_at m (e ∷ es) (suc k) r l regulated listed = shown_at m es k r l regulated listed
