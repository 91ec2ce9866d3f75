-- inner contracts: where records end, found without their fields
use Rattle.std.specs.Prelude.{◌≡◌, ℕ, ◌≤◌, List, [], ◌∷◌, length, take, true, false, Option, None, Some, if◌then◌else◌}
use Rattle.csv.specs.Machine.{is_end, step}
use Rattle.csv.specs.declared.parser.Action.{Action}
use Rattle.csv.specs.declared.parser.Config.{Config}
use Rattle.csv.specs.declared.parser.State.{State}
use Rattle.csv.specs.declared.parser.State.TheVariants as st
use Rattle.casa_rows.specs.Lines.{line_behind}
use Rattle.casa_rows.specs.declared.walk.Within.{Within}
use Rattle.casa_rows.specs.declared.walk.Within.TheVariants as within
use Rattle.casa_rows.specs.declared.walk.Place.{Place}

-- how csv calls it
abbrev pub state : Within → State
state within.Before = st.StartRecord
state within.FieldStart = st.StartField
state within.Plain = st.InField
state within.Quoted = st.InQuoted
state within.Quote = st.AfterQuote

-- a walk stops where csv's record ends, and else goes on as csv does
abbrev pub GoesOn : State × Action → Option Within → Type 0
GoesOn reached None = is_end reached.1 ≡ true
GoesOn reached (Some to) = (is_end reached.1 ≡ false) × (reached.0 ≡ state to)

-- what csv leaves of a text behind the first record
unfoldable pub behind_record : Config → State → List ℕ → List ℕ
behind_record how from [] = []
behind_record how from (byte ∷ bytes) = if is_end (step how from byte).1 then bytes else behind_record how (step how from byte).0 bytes

-- a place of a text, and its line
abbrev pub IsPlace : List ℕ → Place → Type 0
IsPlace text place = (place.at ≤ length text) × (place.line ≡ line_behind (take place.at text))
