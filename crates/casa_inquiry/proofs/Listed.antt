-- a list that is looked up regulation by regulation
use Rattle.std.proofs.Common.{◌≡◌, ℕ, zero, suc, ◌+◌, List, [], ◌∷◌, Bool, true, false, cond, map, drop, Option, Some, sym, ap, subst, ◌∙◌, arith}
use Rattle.std.specs.List.{slice_get}
use Rattle.std.specs.Option.{option_map}
use Rattle.std.specs.Ordering.{is_eq}
use Rattle.casa_filing.specs.declared.regulation.Measure.{Measure}
use Rattle.casa_filing.specs.declared.regulation.Regulation.{Regulation}
use Rattle.casa_filing.specs.Text.{Text, at_name, same_text}
use Rattle.casa_filing.specs.Subject.{regulation}
use Rattle.casa_filing.proofs.Entries.{apart, itself, named, text_cmp}
use Rattle.casa_flight.specs.declared.row.Row.{Row}
use Rattle.casa_flight.specs.Listing.{Listing, listing}

module _ (rows : List (Text × Row)) (id : Text) where
  -- the list of the regulation that has the identifier among these
  abbrev pub list_among : List (Text × Measure) → Option Listing
  list_among es = option_map (listing rows id) (at_name es id)

  abbrev list_by : Bool → Text × Measure → List (Text × Measure) → Option Listing
  list_by here e es = option_map (listing rows id) (cond here (Some e.1) (at_name es id))

  -- it is the list of the first one, if that has the identifier
  pub listed_here : (es : List (Text × Measure)) (k : ℕ) (r : Regulation) → slice_get (map (λ (e : Text × Measure). regulation e.0 e.1) es) k ≡ Some r
      → same_text r.id id ≡ true → list_among (drop k es) ≡ slice_get (map (λ (e : Text × Measure). listing rows e.0 e.1) es) k
  listed_here [] k r found same = cc
  listed_here (e ∷ es) zero r found same =
      let own : e.0 ≡ r.id = cc in
      let is : e.0 ≡ id = own ∙ named r.id id same in
      let here : is_eq (text_cmp id e.0) ≡ true = subst (λ (q : Text). is_eq (text_cmp id q) ≡ true) (sym is) (itself id) in
      ap (λ (b : Bool). list_by b e es) here ∙ ap (λ (q : Text). Some (listing rows q e.1)) (sym is)
  listed_here (e ∷ es) (suc k) r found same = listed_here es k r found same

  -- and else that of a later one
  pub listed_later : (es : List (Text × Measure)) (k : ℕ) (r : Regulation) → slice_get (map (λ (e : Text × Measure). regulation e.0 e.1) es) k ≡ Some r
      → same_text r.id id ≡ false → list_among (drop k es) ≡ list_among (drop (k + 1) es)
  listed_later [] k r found other = cc
  listed_later (e ∷ es) zero r found other =
      let own : e.0 ≡ r.id = cc in
      let past : is_eq (text_cmp id e.0) ≡ false = subst (λ (q : Text). is_eq (text_cmp id q) ≡ false) (sym own) (apart r.id id other) in
      ap (λ (b : Bool). list_by b e es) past
  listed_later (e ∷ es) (suc k) r found other =
      let next : suc k + 1 ≡ suc (k + 1) = omega arith in
      listed_later es k r found other ∙ ap (λ (n : ℕ). list_among (drop n (e ∷ es))) (sym next)
