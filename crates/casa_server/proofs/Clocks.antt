-- what a clock shows, and how long after a day's midnight that is
use Rattle.std.proofs.Common.{◌≡◌, ◌≢◌, ℕ, ◌+◌, ◌*◌, ◌<◌, Result, Ok, Err, IfOk, IfSome, arith}
use Rattle.std.specs.Prelude.{ℤ, pos, ◌+ℤ◌, ◌-ℤ◌, ◌≤ℤ◌, ◌<ℤ◌, ◌*ℤ◌, ◌⊎◌}
use Rattle.std.specs.Result.{result_ok}
use Rattle.std.proofs.lemmas.Int.{ints}

-- day f is so many days after day d, and the clock shows second s of it and a part of the next
pub within : (d f n : ℤ) (days s sub : ℕ) → f ≡ d +ℤ pos days
    → ((f *ℤ pos 86400000000000) +ℤ pos (s * 1000000000 + sub)) ≡ n → sub < 1000000000
    → (pos ((days * 86400 + s) * 1000000000) ≤ℤ (n -ℤ (d *ℤ pos 86400000000000)))
    × ((n -ℤ (d *ℤ pos 86400000000000)) <ℤ pos ((days * 86400 + s + 1) * 1000000000))
within d f n days s sub later whole part = (omega (arith, ints), omega (arith, ints))

-- day f is neither day d nor the next
pub elsewhere : (d f n : ℤ) (s sub : ℕ) → f ≢ d → f ≢ d +ℤ pos 1
    → ((f *ℤ pos 86400000000000) +ℤ pos (s * 1000000000 + sub)) ≡ n → s < 86400 → sub < 1000000000
    → ((n -ℤ (d *ℤ pos 86400000000000)) <ℤ pos 0) ⊎ (pos 172800000000000 ≤ℤ (n -ℤ (d *ℤ pos 86400000000000)))
elsewhere d f n s sub other later whole in_day part = grind (arith, ints)

pub ok_some : {E : Type 0} (r : Result ℕ E) (n : ℕ) (P : ℕ → Type 0) → IfOk r (λ m. m ≡ n) → P n → IfSome (result_ok r) P
ok_some (Ok m) n P same p = rw same p
ok_some (Err e) n P same p = tt
