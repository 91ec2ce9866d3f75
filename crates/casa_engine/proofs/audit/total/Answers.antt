use Rattle.std.proofs.Common.{◌≡◌, ◌*◌, ◌%◌, ◌^◌, ◌≤◌, List, [], ◌∷◌, ℕ, length, ap, ◌∙◌, arith}
use Rattle.std.specs.List.{sum, sum_by}
use Rattle.std.proofs.lemmas.List.Sums.{sum-map, sum_by-le}
use Rattle.std.proofs.lemmas.Slice.Zip.{AllZip-map}
use Rattle.rayon.proofs.ListFacts.{sum-append, AllZip-weaken}
use Rattle.rayon.proofs.Reducing.{Reduces-elim}
use Rattle.rayon.proofs.ToStd.{slice-AllZip}
use Rattle.casa_engine.specs.Delays.{numbered_delay}
use Rattle.casa_engine.proofs.Sums.{IsWithin, all_within}
use Rattle.casa_engine.proofs.audit.total.Goals as goal

abbrev IsWrappedSum : List ℕ → ℕ → Type 0
IsWrappedSum xs r = r ≡ sum xs % 2 ^ 128

pub returns : goal.returns
returns g c =
    let done = c.reduce.ensures in
    let flights = c.args.flights.now in
    let f = numbered_delay in
    let slice = ap (λ it. it.slice.now) c.map.ensures.base ∙ c.par_iter.ensures in
    let each = slice-AllZip done.1.0 flights (done.1.1 ∙ slice) (IsWithin f 172800) done.0 done.1.2 in
    let delays = AllZip-map f flights done.0 (AllZip-weaken (IsWithin f 172800) (λ x y. y ≡ f x) (λ x y h. h.0) flights done.0 each) in
    let bound : sum_by f flights ≤ length flights * 172800 = sum_by-le f 172800 flights (all_within f 172800 flights done.0 each) in
    let wrapped : IsWrappedSum done.0 c.reduce.result =
    Reduces-elim _ _ IsWrappedSum
    (λ e zero. zero)
    (λ xs a x r before step. let one : sum (x ∷ []) ≡ x = omega arith in omega (arith, sum-append xs (x ∷ [])))
    (λ xs ys a b r left right step. omega (arith, sum-append xs ys))
    done.0 c.reduce.result done.2 in
    let all : sum done.0 ≡ sum_by f flights = ap sum delays ∙ sum-map f flights in
    omega (arith, wrapped, all, bound, c.requires)
