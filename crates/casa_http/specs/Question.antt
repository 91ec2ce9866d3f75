-- to believe: what can be looked at
use Rattle.std.specs.Prelude.{ℕ, List}

pub data Question : Type 0 where
  whole_state : Question
  list_named : (name : List ℕ) → Question
  flight_named : (name : List ℕ) → Question
  calls_behind : (position : ℕ) → Question
  server_metrics : Question
  -- what would come of lines, of which nothing stays
  lines_tried : (lines : List ℕ) → Question
