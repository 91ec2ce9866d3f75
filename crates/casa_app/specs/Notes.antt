-- inner contracts: what is kept of the replies
use Rattle.std.specs.Prelude.{◌≡◌, ℕ, List, [], ◌∷◌, length, take, Bool, false}
use Rattle.std.specs.List.{flat_map}
use Rattle.casa_session.specs.Sending.{saturating_count}
use Rattle.casa_session.specs.Lines.{ended_lines, rest_from}
use Rattle.casa_app.specs.declared.notes.Notes.{Notes}
use Rattle.casa_app.specs.Remarks.{head, remark_line, remarks, tells_no_json}

-- the first of these replies tells that its line is no JSON
abbrev pub first_no_json : List (List ℕ) → Bool
first_no_json [] = false
first_no_json (r ∷ rs) = tells_no_json (head r)

-- what is kept of these bytes of a transcript
pub record AreOf (notes : Notes) (bytes : List ℕ) : Type 0 where
  pub head_is : notes.head.items ≡ head (rest_from [] bytes)
  pub lines_are : notes.lines ≡ saturating_count (length (ended_lines bytes))
  pub count_is : notes.count ≡ saturating_count (length (remarks bytes))
  pub text_is : notes.text.items ≡ flat_map (remark_line false) (take 10 (remarks bytes))
  pub first_is : notes.first_no_json ≡ first_no_json (ended_lines bytes)
