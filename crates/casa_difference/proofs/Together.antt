-- what regulations cost together, list by list
use Rattle.std.proofs.Common.{◌≡◌, ◌∙◌, ℕ, zero, suc, ◌+◌, List, [], ◌∷◌, ◌++◌, map, take, Option, Some, sym, ap, append-nil, arith}
use Rattle.std.proofs.lemmas.Grind.{flat_map-append}
use Rattle.std.proofs.lemmas.List.Sums.{sum_by_push}
use Rattle.std.specs.List.{AllByRecursion, slice_get, sum_by}
use Rattle.std.specs.Option.{option_map}
use Rattle.casa_filing.specs.declared.regulation.Measure.{Measure}
use Rattle.casa_filing.specs.declared.regulation.Regulation.{Regulation}
use Rattle.casa_filing.specs.Subject.{regulation}
use Rattle.casa_filing.specs.Text.{Text, at_name}
use Rattle.casa_filing.proofs.Entries.{each_found}
use Rattle.casa_flight.specs.declared.reply.ListReply.{ListReply}
use Rattle.casa_flight.specs.declared.reply.ListRow.{ListRow}
use Rattle.casa_flight.specs.declared.state.State.{State}
use Rattle.casa_flight.specs.Good.{IsGood}
use Rattle.casa_flight.specs.Listing.{Listing, list_of, listing}
use Rattle.casa_flight.specs.Replies.{list_reply}
use Rattle.casa_flight.specs.State.{catalogue}
use Rattle.casa_inquiry.specs.Summary.{cost, cost_of, cost_of_all, is_forced, is_governed, is_issued, is_over, lists_told, rows_of}
use Rattle.casa_inquiry.proofs.Summed.{count-append, delays-append, longest-append}
use Rattle.casa_difference.specs.Totals.{together}

-- the rows of two lists cost what both cost
cost-append : (slots more : ℕ) (rows next : List ListRow) → cost (slots + more) (rows ++ next) ≡ together (cost slots rows) (cost more next)
cost-append slots more rows next = λ i. record {
  slots = slots + more;
  governed = count-append is_governed rows next i;
  issued = count-append is_issued rows next i;
  forced = count-append is_forced rows next i;
  over = count-append is_over rows next i;
  delay = delays-append rows next i;
  longest = longest-append rows next i;
}

-- one list more
pub cost-next : (lists : List ListReply) (list : ListReply) → cost_of_all (lists ++ list ∷ []) ≡ together (cost_of_all lists) (cost_of list)
cost-next lists list =
    let slots_of : ListReply → ℕ = λ list. list.slots in
    let rows_in : ListReply → List ListRow = λ list. list.rows in
    let slots : sum_by slots_of (lists ++ list ∷ []) ≡ sum_by slots_of lists + list.slots = sum_by_push slots_of lists list in
    let rows : rows_of (lists ++ list ∷ []) ≡ rows_of lists ++ list.rows =
    flat_map-append rows_in lists (list ∷ []) ∙ ap (λ more. rows_of lists ++ more) (append-nil list.rows) in
    (λ i. cost (slots i) (rows i)) ∙ cost-append (sum_by slots_of lists) list.slots (rows_of lists) list.rows

-- the first elements with the one at a number
take_at : {X : Type 0} (xs : List X) (i : ℕ) (x : X) → slice_get xs i ≡ Some x → take (i + 1) xs ≡ take i xs ++ x ∷ []
take_at [] i x here = cc
take_at (y ∷ ys) zero x here = let same : y ≡ x = cc in ap (λ z. z ∷ []) same
take_at {X} (y ∷ ys) (suc i) x here =
    let next : suc i + 1 ≡ suc (i + 1) = omega arith in
    ap (λ (n : ℕ). take n (y ∷ ys)) next ∙ ap (λ (zs : List X). y ∷ zs) (take_at ys i x here)

-- a regulation of the catalogue has its list among those that are told, at the same number
module _ (m : State) where
  abbrev told : Text × Measure → ListReply
  told e = list_reply m (regulation e.0 e.1) (listing m.rows e.0 e.1)

  told_at : (es : List (Text × Measure)) → AllByRecursion (λ (e : Text × Measure). at_name m.regs e.0 ≡ Some e.1) es
      → (i : ℕ) (r : Regulation) (l : Listing) → slice_get (map (λ (e : Text × Measure). regulation e.0 e.1) es) i ≡ Some r → list_of m r.id ≡ Some l
      → slice_get (map told es) i ≡ Some (list_reply m r l)
  told_at [] found i r l here is = cc
  told_at (e ∷ es) found zero r l here is =
      let own : regulation e.0 e.1 ≡ r = cc in
      let kept : Some (listing m.rows e.0 e.1) ≡ Some l =
      sym (ap (λ (o : Option Measure). option_map (listing m.rows e.0) o) found.0) ∙ ap (λ (s : Regulation). list_of m s.id) own ∙ is in
      let list : listing m.rows e.0 e.1 ≡ l = cc in
      λ j. Some (list_reply m (own j) (list j))
  told_at (e ∷ es) found (suc i) r l here is = told_at es found.1 i r l here is

  pub lists-next : IsGood m → (i : ℕ) (r : Regulation) (l : Listing) → slice_get (catalogue m) i ≡ Some r → list_of m r.id ≡ Some l
      → take (i + 1) (lists_told m) ≡ take i (lists_told m) ++ list_reply m r l ∷ []
  lists-next good i r l here is =
      take_at (lists_told m) i (list_reply m r l) (told_at m.regs (each_found m.regs good.regs_in_order) i r l here is)
