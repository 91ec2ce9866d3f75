-- what is told of rows by parts of them is the same in whichever order they come
use Rattle.std.proofs.Common.{◌≡◌, ℕ, ◌+◌, List, [], ◌∷◌, ◌++◌, Bool, length, take, drop, max, sym, ap, ◌∙◌, append-nil, arith}
use Rattle.std.specs.Prelude.{filter, not, position, unwrap_or}
use Rattle.std.specs.List.{fold, sum_by}
use Rattle.std.proofs.lemmas.List.{take-append-drop}
use Rattle.casa_flight.specs.declared.reply.ListRow.{ListRow}
use Rattle.casa_flight.specs.Listing.{insert_sorted, sorted_by}
use Rattle.casa_inquiry.specs.Summary.{count, delay, governed_delays, greatest, is_governed}
use Rattle.casa_inquiry.proofs.Summed.{count-append, delays-append, longest-append}

-- what is told of a list by its parts, in whichever order, is told of it in order too
module _ {X : Type 0} (f : List X → ℕ) (op : ℕ → ℕ → ℕ) (append : (xs ys : List X) → f (xs ++ ys) ≡ op (f xs) (f ys))
    (swapped : (a b : ℕ) → op a b ≡ op b a) (grouped : (a b c : ℕ) → op (op a b) c ≡ op a (op b c)) (precedes : X → X → Bool) where
  put_in : (x : X) (ys : List X) → f (insert_sorted precedes x ys) ≡ op (f ys) (f (x ∷ []))
  put_in x ys =
      let n : ℕ = unwrap_or (position (λ y. not (precedes y x)) ys) (length ys) in
      append (take n ys) (x ∷ drop n ys)
      ∙ ap (op (f (take n ys))) (append (x ∷ []) (drop n ys) ∙ swapped (f (x ∷ [])) (f (drop n ys)))
      ∙ sym (grouped (f (take n ys)) (f (drop n ys)) (f (x ∷ [])))
      ∙ ap (λ (k : ℕ). op k (f (x ∷ []))) (sym (append (take n ys) (drop n ys)) ∙ ap f (take-append-drop n ys))

  folded : (ys xs : List X) → f (fold (λ (zs : List X) (x : X). insert_sorted precedes x zs) ys xs) ≡ op (f ys) (f xs)
  folded ys [] = ap f (sym (append-nil ys)) ∙ append ys []
  folded ys (x ∷ xs) =
      folded (insert_sorted precedes x ys) xs ∙ ap (λ (k : ℕ). op k (f xs)) (put_in x ys) ∙ grouped (f ys) (f (x ∷ [])) (f xs)
      ∙ ap (op (f ys)) (sym (append (x ∷ []) xs))

  told_in_order : (xs : List X) → f (sorted_by precedes xs) ≡ f xs
  told_in_order xs = folded [] xs ∙ sym (append [] xs)

module _ (precedes : ListRow → ListRow → Bool) (rows : List ListRow) where
  pub count-in_order : (is_so : ListRow → Bool) → count is_so (sorted_by precedes rows) ≡ count is_so rows
  count-in_order is_so =
      told_in_order (count is_so) (λ a b. a + b) (count-append is_so) (λ a b. omega arith) (λ a b c. omega arith) precedes rows

  pub delays-in_order : sum_by delay (filter is_governed (sorted_by precedes rows)) ≡ sum_by delay (filter is_governed rows)
  delays-in_order =
      told_in_order (λ (rs : List ListRow). sum_by delay (filter is_governed rs)) (λ a b. a + b) delays-append
      (λ a b. omega arith) (λ a b c. omega arith) precedes rows

  pub longest-in_order : greatest (governed_delays (sorted_by precedes rows)) ≡ greatest (governed_delays rows)
  longest-in_order =
      told_in_order (λ (rs : List ListRow). greatest (governed_delays rs)) max longest-append
      (λ a b. omega arith) (λ a b c. omega arith) precedes rows
