-- to believe: what is shown of how a flight stands on a day that may not have it
use Rattle.std.specs.Prelude.{ℕ, Option}
use Rattle.std.specs.Option.{option_and_then, option_map}
use Rattle.casa_filing.specs.Text.{Text}
use Rattle.casa_difference.specs.declared.standing.Standing.{Standing}

-- the regulation that governs it; none where none does, or there is no such flight
abbrev pub reg_in : Option Standing → Option Text
reg_in standing = option_and_then (λ (s : Standing). s.reg) standing

-- its calculated take-off time, likewise
abbrev pub ctot_in : Option Standing → Option ℕ
ctot_in standing = option_and_then (λ (s : Standing). s.ctot) standing

-- its delay; none where there is no such flight
abbrev pub delay_in : Option Standing → Option ℕ
delay_in standing = option_map (λ (s : Standing). s.delay) standing
