-- texts between brackets are those of JSON
use Rattle.std.proofs.Common.{◌≡◌, ℕ, ◌+◌, ◌<◌, List, [], ◌∷◌, ◌++◌, map, length, take, get_or, append_assoc, append-nil, true, refl, ap, sym, ◌∙◌}
use Rattle.std.proofs.lemmas.Grind.{flat_map-append}
use Rattle.std.proofs.lemmas.List.{take_more}
use Rattle.serde_json.specs.Data.{Data}
use Rattle.serde_json.specs.View.{items_of}
use Rattle.serde_json.specs.Written.{compact_text, items_text}
use Rattle.casa_wire.specs.LineTexts.{list_of}
use Rattle.casa_lines.specs.Texts.{behind_commas, between}

-- one text more
pub behind_commas-next : {A : Type 0} (text : A → List ℕ) (xs : List A) (i : ℕ) (x : A) → i < length xs → x ≡ get_or xs i x
    → behind_commas text (take (i + 1) xs) ≡ behind_commas text (take i xs) ++ (44 ∷ text x)
behind_commas-next text xs i x h e =
    rw (take_more xs i x h) (flat_map-append (λ y. 44 ∷ text y) (take i xs) (get_or xs i x ∷ [])
    ∙ rw (← e) (ap (λ l. behind_commas text (take i xs) ++ (44 ∷ l)) (append-nil (text x))))

items_behind : {A : Type 0} (written : A → Data) (xs : List A) → items_text true (items_of (map written xs)) ≡ behind_commas (λ x. compact_text (written x)) xs ++ (93 ∷ [])
items_behind written [] = refl
items_behind written (x ∷ xs) =
    rw (items_behind written xs) (ap (λ l. 44 ∷ l) (sym (append_assoc (compact_text (written x)) (behind_commas (λ x. compact_text (written x)) xs) (93 ∷ []))))

pub list_text : {A : Type 0} (written : A → Data) (xs : List A) → between (λ x. compact_text (written x)) 91 xs 93 ≡ compact_text (list_of written xs)
list_text written [] = refl
list_text written (x ∷ xs) =
    rw (items_behind written xs) (ap (λ l. 91 ∷ l) (append_assoc (compact_text (written x)) (behind_commas (λ x. compact_text (written x)) xs) (93 ∷ [])))
