-- to believe: the command lines of calls
use Rattle.std.specs.Prelude.{◌≡◌, ℕ, List, [], ◌∷◌, ◌++◌, flat_map, Ok}
use Rattle.casa_flight.specs.declared.call.Call.{Call}
use Rattle.casa_lines.specs.Lines.{call_text}
use Rattle.casa_wire.specs.Commands.{line_call}

-- the command line of a call, with its line end; the lines of calls
unfoldable pub line : Call → List ℕ
line call = call_text call ++ 10 ∷ []

abbrev pub lines : List Call → List ℕ
lines calls = flat_map line calls

-- the line of a call is read as this call
unfoldable pub IsReadAgain : Call → Type 0
IsReadAgain call = line_call (call_text call) ≡ Ok call
