-- inner contracts: what a reader of lines gives
use Rattle.std.specs.Prelude.{◌≡◌, ℕ, ◌+◌, ◌-◌, ◌*◌, List, [], ◌∷◌, ◌++◌, Bool, true, false, Option, Result}
use Rattle.std.specs.List.{slice_range}
use Rattle.std.specs.Io.KnownBytes.{Consumes, IsAtEnd}
use Rattle.casa_flight.specs.declared.call.Call.{Call}
use Rattle.casa_wire.specs.declared.fault.WireFault.{WireFault}
use Rattle.casa_wire.specs.Commands.{line_call}
use Rattle.casa_session.specs.declared.lines.LineReader.{LineReader}
use Rattle.casa_session.specs.declared.lines.Chunk.{Chunk}
use Rattle.casa_session.specs.declared.lines.Chunk.TheVariants.{More, End, Failed}

-- the bytes that were read and not yet given
abbrev pub pending : LineReader → List ℕ
pending r = slice_range r.buffer r.start r.end

-- how many steps the reader can still take at most: bytes that are pending, and reads of a full buffer
abbrev pub steps_left : LineReader → ℕ
steps_left r = r.reads_left * 65537 + (r.end - r.start)

-- the part of the pending bytes that goes on with a line: up to the LF if there is one, else all of them
abbrev pub IsPart : Bool → List ℕ → List ℕ → List ℕ → Type 0
IsPart true old part new = old ≡ part ++ 10 ∷ new
IsPart false old part new = (old ≡ part) × (new ≡ [])

-- what a read gave, of what the source had left
abbrev pub IsGiven : Chunk → (r s : Option (List ℕ)) → List ℕ → Type 0
IsGiven More r s bytes = Consumes r s bytes
IsGiven End r s bytes = Consumes r s [] × IsAtEnd s
IsGiven Failed r s bytes = Consumes r s []

-- so many lines are read, where they are there, before the first of them is answered
abbrev pub most_asked : ℕ
most_asked = 64

-- where a line is whole it is read behind those that were asked, and the next one begins; else it is only begun
abbrev pub IsTaken : Bool → (whole line : List ℕ) → (old new : List (Result Call WireFault)) → Type 0
IsTaken true whole line old new = (line ≡ []) × (new ≡ old ++ line_call whole ∷ [])
IsTaken false whole line old new = (line ≡ whole) × (new ≡ old)
