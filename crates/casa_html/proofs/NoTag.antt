-- no byte that is written in a script is `<`
use Rattle.std.proofs.Common.{◌≡◌, ℕ, List, [], ◌∷◌, Bool, true, false, cond, refl, arith}
use Rattle.std.proofs.lemmas.Bool.Decides.{nat_tests}
use Rattle.std.proofs.lemmas.List.Elements.{All-append, All-cons, All-nil}
use Rattle.std.specs.Prelude.{◌≢◌, ◌==◌, All, codes}
use Rattle.casa_html.specs.Recorded.{script_text, scripted}

abbrev no_tag : ℕ → Type 0
no_tag byte = byte ≢ 60

written : All no_tag (codes "\\u003c")
written =
    All-cons no_tag 92 (codes "u003c") (λ e. omega (arith, e)) (All-cons no_tag 117 (codes "003c") (λ e. omega (arith, e))
    (All-cons no_tag 48 (codes "03c") (λ e. omega (arith, e)) (All-cons no_tag 48 (codes "3c") (λ e. omega (arith, e))
    (All-cons no_tag 51 (codes "c") (λ e. omega (arith, e)) (All-cons no_tag 99 [] (λ e. omega (arith, e)) (All-nil no_tag))))))

as_told : (byte : ℕ) (is_tag : Bool) → (byte == 60) ≡ is_tag → All no_tag (cond is_tag (codes "\\u003c") (byte ∷ []))
as_told byte true e = written
as_told byte false e = All-cons no_tag byte [] (λ is. grind (arith, nat_tests, e, is)) (All-nil no_tag)

pub no_tags : (json : List ℕ) → All no_tag (scripted json)
no_tags [] = All-nil no_tag
no_tags (byte ∷ json) = All-append no_tag (script_text byte) (scripted json) (as_told byte (byte == 60) refl) (no_tags json)
