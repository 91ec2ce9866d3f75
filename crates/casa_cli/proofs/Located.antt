-- the locations that texts name, one after another
use Rattle.std.proofs.Common.{◌≡◌, ◌∙◌, ◌<◌, ◌+◌, ◌&&◌, ℕ, Bool, true, false, cond, refl, sym, ap, List, [], ◌∷◌, ◌++◌, length, map, take, get_or, Option, Some, None}
use Rattle.std.specs.Prelude.{unwrap_or}
use Rattle.std.specs.List.{list_all}
use Rattle.std.proofs.lemmas.List.{map_more}
use Rattle.std.proofs.lemmas.List.Folds.{list_all-append, list_all-map, list_all_at}
use Rattle.casa_filing.specs.Text.{Text, is_name}
use Rattle.casa_cli.specs.Words.{are_locations, name_of}

-- a text that names is a name, and itself
is_named : (text name : Text) → Some name ≡ name_of text → (is_name text ≡ true) × (text ≡ name)
is_named text name found = go (is_name text) refl found
  where
    go : (b : Bool) → is_name text ≡ b → Some name ≡ cond b (Some text) None → (is_name text ≡ true) × (text ≡ name)
    go true is e = (is, ap (λ (o : Option Text). unwrap_or o text) (sym e))
    go false is e = absurd (cc)

is_unnamed : (text : Text) → None ≡ name_of text → is_name text ≡ false
is_unnamed text found = go (is_name text) refl found
  where
    go : (b : Bool) → is_name text ≡ b → None ≡ cond b (Some text) None → is_name text ≡ false
    go true is e = absurd (cc)
    go false is e = is

one_more : (parts locations : List Text) (part : Text) → are_locations parts ≡ Some locations → is_name part ≡ true
    → are_locations (parts ++ part ∷ []) ≡ Some (locations ++ part ∷ [])
one_more parts locations part so_far named = go (list_all is_name parts) refl so_far
  where
    go : (b : Bool) → list_all is_name parts ≡ b → cond b (Some parts) None ≡ Some locations
        → are_locations (parts ++ part ∷ []) ≡ Some (locations ++ part ∷ [])
    go true are found =
        let all : list_all is_name (parts ++ part ∷ []) ≡ true =
        list_all-append is_name parts (part ∷ []) ∙ ap (λ b. b && (is_name part && true)) are ∙ ap (λ b. b && true) named in
        let same : parts ≡ locations = ap (λ (o : Option (List Text)). unwrap_or o locations) found in
        ap (λ b. cond b (Some (parts ++ part ∷ [])) None) all ∙ ap (λ (ls : List Text). Some (ls ++ part ∷ [])) same
    go false are found = absurd (cc)

module _ {X : Type 0} (text : X → Text) (xs : List X) (i : ℕ) (d : X) (within : i < length xs) where
  -- the next one is a name
  pub located_more : (locations : List Text) (part : Text) → are_locations (map text (take i xs)) ≡ Some locations
      → Some part ≡ name_of (text (get_or xs i d)) → are_locations (map text (take (i + 1) xs)) ≡ Some (locations ++ part ∷ [])
  located_more locations part so_far found =
      let named = is_named (text (get_or xs i d)) part found in
      ap are_locations (map_more text xs i d within)
      ∙ one_more (map text (take i xs)) locations (text (get_or xs i d)) so_far named.0
      ∙ ap (λ (p : Text). Some (locations ++ p ∷ [])) named.1

  -- or it is none
  pub unlocated_at : None ≡ name_of (text (get_or xs i d)) → are_locations (map text xs) ≡ None
  unlocated_at found =
      ap (λ b. cond b (Some (map text xs)) None)
      (list_all-map is_name text xs ∙ list_all_at (λ x. is_name (text x)) xs i d within (is_unnamed (text (get_or xs i d)) found))
