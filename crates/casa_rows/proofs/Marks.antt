-- A byte order mark at the beginning of a text.
use Rattle.std.proofs.Common.{◌≡◌, ◌∙◌, ℕ, List, [], ◌∷◌, take, drop, refl, sym, true, false, nat_eq}
use Rattle.std.specs.Prelude.{Bool, ◌&&◌}
use Rattle.std.specs.Cmp.Lexicographic.{pointwise}
use Rattle.csv.specs.Reading.{strip_bom}

abbrev pub mark : List ℕ
mark = 239 ∷ 187 ∷ 191 ∷ []

same_tests : (p q r : Bool) → (p && (q && (r && true))) ≡ (p && q && r)
same_tests true true true = refl
same_tests true true false = refl
same_tests true false r = refl
same_tests false q r = refl

second_fails : (p : Bool) → (p && false) ≡ true → true ≡ false
second_fails true e = sym e
second_fails false e = sym e

third_fails : (p q : Bool) → (p && (q && false)) ≡ true → true ≡ false
third_fails true true e = sym e
third_fails true false e = sym e
third_fails false q e = sym e

pub stripped : (text : List ℕ) → pointwise nat_eq (take 3 text) mark ≡ true → drop 3 text ≡ strip_bom text
unfolding strip_bom
stripped [] is = refl
stripped (a ∷ []) is = cc (second_fails (nat_eq a 239) is)
stripped (a ∷ b ∷ []) is = cc (third_fails (nat_eq a 239) (nat_eq b 187) is)
stripped (a ∷ b ∷ c ∷ rest) is = rw (sym (same_tests (nat_eq a 239) (nat_eq b 187) (nat_eq c 191)) ∙ is) refl

pub unmarked : (text : List ℕ) → pointwise nat_eq (take 3 text) mark ≡ false → text ≡ strip_bom text
unfolding strip_bom
unmarked [] is = refl
unmarked (a ∷ []) is = refl
unmarked (a ∷ b ∷ []) is = refl
unmarked (a ∷ b ∷ c ∷ rest) is = rw (sym (same_tests (nat_eq a 239) (nat_eq b 187) (nat_eq c 191)) ∙ is) refl
