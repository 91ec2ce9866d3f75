-- `==` of calls is equality
use Rattle.std.proofs.Common.{◌≡◌, true, ap}
use Rattle.std.proofs.lemmas.Bool.{and_parts, eqb-true}
use Rattle.casa_grid.proofs.Equal.{profile_same}
use Rattle.casa_filing.proofs.Same.{text_same, plan_same}
use Rattle.casa_flight.specs.declared.call.Call.{Call}
use Rattle.casa_flight.specs.declared.call.Call.TheVariants.{File, Amend, Cancel, Revise, Exempt, OpenReg, CloseReg, Rates, Tick, Show, List as ListOf, Swap}
use Rattle.casa_flight.specs.contracts.call.CallPartialEq.TheImpl.{ghosts as call}

pub call_same : (a b : Call) → call.eq a b ≡ true → a ≡ b
call_same (File p) (File q) h = ap File (plan_same p q h)
call_same (Amend p) (Amend q) h = ap Amend (plan_same p q h)
call_same (Cancel p) (Cancel q) h = ap Cancel (text_same p q h)
call_same (Revise p) (Revise q) h = ap Revise (text_same p q h)
call_same (Exempt p) (Exempt q) h = ap Exempt (text_same p q h)
call_same (CloseReg p) (CloseReg q) h = ap CloseReg (text_same p q h)
call_same (Show p) (Show q) h = ap Show (text_same p q h)
call_same (ListOf p) (ListOf q) h = ap ListOf (text_same p q h)
call_same (Tick p) (Tick q) h = ap Tick (eqb-true p q h)
call_same (Rates p s) (Rates q t) h = let k = and_parts _ _ h in λ i. Rates (text_same p q k.0 i) (profile_same s t k.1 i)
call_same (OpenReg p s u) (OpenReg q t v) h = let k = and_parts _ _ h in let j = and_parts _ _ k.1 in λ i. OpenReg (text_same p q k.0 i) (text_same s t j.0 i) (profile_same u v j.1 i)
call_same (Swap p s) (Swap q t) h = let k = and_parts _ _ h in λ i. Swap (text_same p q k.0 i) (text_same s t k.1 i)
call_same a b h = cc
