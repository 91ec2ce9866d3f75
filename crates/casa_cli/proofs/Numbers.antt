-- the numbers of options, as the getters of clap read them
use Rattle.std.proofs.Common.{◌≡◌, ◌<◌, ℕ, List, Option, Some, None, Result, Ok, IfSome, refl, ap, subst, option_map}
use Rattle.std.specs.Prelude.{◌^◌, pos}
use Rattle.std.specs.Str.Parse.{ParsesUnsigned, digits_value, without_leading_plus}
use Rattle.clap.specs.Matches.{ReadsOne}
use Rattle.clap.specs.Words.{IsSignedIn, without_minus}
use Rattle.clap.specs.Walk.{Text}
use Rattle.clap.proofs.CallerReads.{signed_reads}

abbrev IsTaken : ℕ → ℕ → Text → Type 0
IsTaken low high text = (value : Text) × (text ≡ without_minus value) × IsSignedIn (pos low) (pos high) value

abbrev number : Text → ℕ
number text = digits_value 10 (without_leading_plus text)

-- a text that clap takes for a number is read as it
pub number_read : (bits low high : ℕ) (E : Type 0) (G : List ℕ → Result ℕ E → Type 0) (o : Option Text) (r : Option ℕ)
    → (o ≡ None → r ≡ None) → ((t : Text) → o ≡ Some t → ReadsOne G t r)
    → ((u : List ℕ) (x : Result ℕ E) → G u x → ParsesUnsigned bits 10 u x) → high < 2 ^ bits
    → IfSome o (IsTaken low high) → r ≡ option_map number o
number_read bits low high E G None r none some only fits taken = none refl
number_read bits low high E G (Some t) r none some only fits taken = go r (some t refl)
  where
    go : (p : Option ℕ) → ReadsOne G t p → p ≡ Some (number t)
    go (Some v) read = ap (λ n. Some n) (only t (Ok v) read).1
    go None read =
        let bad = signed_reads E G bits low high taken.0 None (subst (λ u. ReadsOne G u None) taken.1 read) only fits taken.2 in
        absurd (cc)
