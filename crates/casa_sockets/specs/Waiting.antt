-- to believe: how long an end of a connection waits for its peer
use Rattle.std.specs.Prelude.{◌≡◌, ℕ, ◌*◌, ◌-◌, ◌^◌, Option, None, Some, IfSome}
use Rattle.std.specs.Option.{IsSomeAnd}
use Rattle.std.specs.Duration.{as_nanos}
use Rattle.casa_sockets.specs.declared.streams.Waits.{Waits}

-- it waits for so many seconds in all; where these are not bounded, without end, or 2^64 - 1 times
abbrev pub WaitsFor : Option ℕ → Waits → Type 0
WaitsFor (Some seconds) waits = IsSomeAnd waits.at_a_time (λ time. as_nanos time * waits.times ≡ seconds * 1_000_000_000)
WaitsFor None waits = IfSome waits.at_a_time (λ time. waits.times ≡ 2 ^ 64 - 1)

-- it waits for a second at a time
abbrev pub WaitsBySeconds : Waits → Type 0
WaitsBySeconds waits = IsSomeAnd waits.at_a_time (λ time. as_nanos time ≡ 1_000_000_000)
