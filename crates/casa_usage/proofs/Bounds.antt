-- the bounds that clap keeps of numbers of 32 bits
use Rattle.std.proofs.Common.{ℕ, ◌≡◌, ◌<◌, ◌^◌, false, refl, pos, arith}
use Rattle.std.specs.Prelude.{int_lt}
use Rattle.std.specs.Int.{int_max, int_min}
use Rattle.std.proofs.lemmas.Int.{clamps, ints}
use Rattle.clap.specs.Values.{signed_between}
use Rattle.clap.specs.declared.builder.value_parser.ValueParser.TheVariants.{Signed}

-- those from one number to another are kept as they are
pub bounds_kept : (least most : ℕ) → least < 2 ^ 32 → most < 2 ^ 32
    → signed_between (int_max (pos 0) (pos least)) (int_min (pos 4294967295) (pos most)) ≡ Signed (pos least) (pos most)
bounds_kept least most low high =
    let from : int_max (pos 0) (pos least) ≡ pos least = omega (arith, ints, clamps) in
    let to : int_min (pos 4294967295) (pos most) ≡ pos most = omega (arith, ints, clamps) in
    let small : int_lt (pos 9223372036854775807) (pos least) ≡ false = grind arith in
    rw (from, to, small) refl
