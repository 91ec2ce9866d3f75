-- lines that are appended one after the other
use Rattle.std.proofs.Common.{◌≡◌, ℕ, ◌+◌, ◌<◌, ◌∙◌, sym, ap, refl, List, ◌∷◌, ◌++◌, length, drop, get_or, suc, add-one, append_assoc, drop-cons}
use Rattle.std.specs.List.{flat_map}

-- the next element's line, and those of the elements after it
pub next_line : {X : Type 0} (line_of : X → List ℕ) (xs : List X) (i : ℕ) (x : X) (done text : List ℕ) → i < length xs → x ≡ get_or xs i x → done ++ flat_map line_of (drop i xs) ≡ text
    → (done ++ line_of x) ++ flat_map line_of (drop (i + 1) xs) ≡ text
next_line line_of xs i x done text lt is whole =
    let here : drop i xs ≡ x ∷ drop (i + 1) xs = rw add-one (drop-cons xs i x lt ∙ ap (λ y. y ∷ drop (suc i) xs) (sym is)) in
    append_assoc done (line_of x) (flat_map line_of (drop (i + 1) xs)) ∙ (rw here at whole)

-- the same where another text stands behind the lines
pub next_line_before : {X : Type 0} (line_of : X → List ℕ) (xs : List X) (i : ℕ) (x : X) (done rest text : List ℕ) → i < length xs → x ≡ get_or xs i x
    → done ++ (flat_map line_of (drop i xs) ++ rest) ≡ text → (done ++ line_of x) ++ (flat_map line_of (drop (i + 1) xs) ++ rest) ≡ text
next_line_before line_of xs i x done rest text lt is whole =
    sym (append_assoc (done ++ line_of x) (flat_map line_of (drop (i + 1) xs)) rest)
    ∙ ap (λ t. t ++ rest) (next_line line_of xs i x done (done ++ flat_map line_of (drop i xs)) lt is refl)
    ∙ append_assoc done (flat_map line_of (drop i xs)) rest ∙ whole
