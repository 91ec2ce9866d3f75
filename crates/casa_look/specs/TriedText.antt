-- to believe: what is told behind the replies to lines that are tried
use Rattle.std.specs.Prelude.{ℕ, [], ◌∷◌, codes}
use Rattle.serde_json.specs.Data.{Data}
use Rattle.casa_filing.specs.Text.{Text}
use Rattle.casa_flight.specs.declared.state.State.{State}
use Rattle.casa_wire.specs.LineTexts.{line_of, object_of}
use Rattle.casa_look.specs.StateText.{open_regulations, state_data}

-- a state after so many calls
abbrev pub shown_data : (calls : ℕ) → State → Data
shown_data calls m = state_data calls m.clock (open_regulations m)

-- the states before the lines and after them, each after so many calls: one line
abbrev pub states_line : (calls_before : ℕ) (before : State) (calls_after : ℕ) (after : State) → Text
states_line calls_before before calls_after after =
    line_of (object_of ((codes "after", shown_data calls_after after) ∷ (codes "before", shown_data calls_before before) ∷ []))
