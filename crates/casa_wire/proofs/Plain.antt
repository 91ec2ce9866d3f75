-- a name is written as it is
use Rattle.std.proofs.Common.{◌≡◌, ℕ, List, [], ◌∷◌, ◌++◌, Bool, true, false, ◌&&◌, refl, arith}
use Rattle.std.proofs.lemmas.Bool.Decides.{nat_tests}
use Rattle.std.specs.List.{list_all}
use Rattle.json.specs.Print.{escape, escape_byte, escape_letter}
use Rattle.serde_json.specs.Data.{string}
use Rattle.serde_json.specs.Written.{compact_text}
use Rattle.casa_wire.specs.Parts.{is_plain_byte}

plain_letter : (b : ℕ) → is_plain_byte b ≡ true → escape_letter b ≡ 0
plain_letter b h = grind (arith, nat_tests)

plain_byte : (b : ℕ) → is_plain_byte b ≡ true → escape_byte b ≡ b ∷ []
unfolding escape_byte
plain_byte b h = rw (plain_letter b h) (grind (arith, nat_tests))

and_true : (a b : Bool) → a && b ≡ true → (a ≡ true) × (b ≡ true)
and_true true b h = (refl, h)
and_true false b h = absurd (cc)

plain_text : (s : List ℕ) → list_all is_plain_byte s ≡ true → escape s ≡ s
plain_text [] h = refl
plain_text (b ∷ bs) h =
    let (first, rest) = and_true (is_plain_byte b) (list_all is_plain_byte bs) h in
    rw (plain_byte b first, plain_text bs rest) refl

pub plain_name : (s : List ℕ) → list_all is_plain_byte s ≡ true → compact_text (string s) ≡ 34 ∷ (s ++ 34 ∷ [])
plain_name s h = rw (plain_text s h) refl
