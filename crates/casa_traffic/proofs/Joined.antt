-- the lines of calls that are made of other things
use Rattle.std.proofs.Common.{◌≡◌, ◌∙◌, ℕ, List, [], ◌∷◌, ◌++◌, map, refl, sym, ap}
use Rattle.std.specs.List.{flat_map}
use Rattle.std.proofs.lemmas.List.Concat.{flat_map-append}
use Rattle.casa_filing.specs.FlightPlan.{FlightPlan}
use Rattle.casa_flight.specs.declared.call.Call.{Call}
use Rattle.casa_import.specs.declared.regulations.Opening.{Opening}
use Rattle.casa_traffic.specs.Calls.{calls, file_call, open_call}
use Rattle.casa_traffic.specs.Lines.{line, lines}

made : {X : Type 0} (f : X → Call) (xs : List X) → flat_map (λ x. line (f x)) xs ≡ flat_map line (map f xs)
made f [] = refl
made f (x ∷ xs) = ap (λ t. line (f x) ++ t) (made f xs)

pub joined : (os : List Opening) (plans : List FlightPlan)
    → flat_map (λ o. line (open_call o)) os ++ flat_map (λ p. line (file_call p)) plans ≡ lines (calls os plans)
joined os plans =
    ap (λ t. t ++ flat_map (λ p. line (file_call p)) plans) (made open_call os)
    ∙ ap (λ t. flat_map line (map open_call os) ++ t) (made file_call plans)
    ∙ sym (flat_map-append line (map open_call os) (map file_call plans))
