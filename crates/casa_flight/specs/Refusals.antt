-- to believe: the numbers and names of refusals
use Rattle.std.specs.Prelude.{ℕ, List, codes}
use Rattle.casa_flight.specs.declared.call.Refusal.{Refusal}
use Rattle.casa_flight.specs.declared.call.Refusal.TheVariants.{Duplicate, NoFlight, Late, AlreadyExempt, DuplicateRegulation, NoRegulation, TooManyRegulations, SpanChanged, BackInTime, NotIssued, OtherRegulation, TooEarly}

-- the number of a refusal, as replies have it (profile)
abbrev pub code_of : Refusal → ℕ
code_of Duplicate = 1
code_of NoFlight = 2
code_of Late = 3
code_of AlreadyExempt = 4
code_of DuplicateRegulation = 5
code_of NoRegulation = 6
code_of TooManyRegulations = 7
code_of SpanChanged = 8
code_of BackInTime = 9
code_of NotIssued = 10
code_of OtherRegulation = 11
code_of TooEarly = 12

-- and its name
abbrev pub name_of : Refusal → List ℕ
name_of Duplicate = codes "Duplicate"
name_of NoFlight = codes "NoFlight"
name_of Late = codes "Late"
name_of AlreadyExempt = codes "AlreadyExempt"
name_of DuplicateRegulation = codes "DuplicateRegulation"
name_of NoRegulation = codes "NoRegulation"
name_of TooManyRegulations = codes "TooManyRegulations"
name_of SpanChanged = codes "SpanChanged"
name_of BackInTime = codes "BackInTime"
name_of NotIssued = codes "NotIssued"
name_of OtherRegulation = codes "OtherRegulation"
name_of TooEarly = codes "TooEarly"
