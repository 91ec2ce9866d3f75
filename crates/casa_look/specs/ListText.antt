-- to believe: what is shown of a regulation's list
use Rattle.std.specs.Prelude.{ℕ, [], ◌∷◌, codes}
use Rattle.serde_json.specs.Data.{Data}
use Rattle.serde_json.specs.Written.{compact_text}
use Rattle.casa_filing.specs.Text.{Text}
use Rattle.casa_flight.specs.declared.reply.ListReply.{ListReply}
use Rattle.casa_wire.specs.LineTexts.{count, list_data, object_of}

-- the list after so many calls, as a reply to `list` has it
abbrev pub listed_data : ℕ → ListReply → Data
listed_data calls list = object_of ((codes "list", list_data list) ∷ (codes "n", count calls) ∷ [])

abbrev pub list_text : ℕ → ListReply → Text
list_text calls list = compact_text (listed_data calls list)
