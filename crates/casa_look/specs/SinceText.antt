-- to believe: what is shown of the calls behind a position
use Rattle.std.specs.Prelude.{ℕ, ◌+◌, ◌==◌, ◌&&◌, List, [], ◌∷◌, length, Option, None, Some, is_none, codes, if◌then◌else◌}
use Rattle.std.specs.List.{cons_option}
use Rattle.serde_json.specs.Data.{Data}
use Rattle.serde_json.specs.Written.{compact_text}
use Rattle.casa_filing.specs.Text.{Text}
use Rattle.casa_flight.specs.declared.call.Call.{Call}
use Rattle.casa_flight.specs.declared.call.Call.TheVariants.{Tick}
use Rattle.casa_flight.specs.declared.reply.Reply.{Reply}
use Rattle.casa_flight.specs.declared.reply.Reply.TheVariants.{Refused, Answered}
use Rattle.casa_history.specs.declared.entry.Entry.{Entry}
use Rattle.casa_wire.specs.LineTexts.{count, list_of, messages_data, object_of, or_null}
use Rattle.casa_look.specs.declared.since.News.{News}

-- where an accepted call sets the clock, if it does
abbrev pub clock_set : Call → Option ℕ
clock_set (Tick at) = Some at
clock_set call = None

-- what came of a call of this desk with this reply: nothing of a refused one, and of one that neither set the clock nor
-- caused a message
abbrev pub news_from : (position desk : ℕ) → Call → Reply → Option News
news_from position desk call (Refused refusal) = None
news_from position desk call (Answered answer messages) =
    if is_none (clock_set call) && (length messages == 0) then None
    else Some (record { position = position; desk = desk; clock = clock_set call; messages = messages })

-- what came of the entry at a position
abbrev pub news_of : ℕ → Entry Call Reply → Option News
news_of position entry = news_from position entry.desk entry.call entry.reply

-- what came of each of these entries, of which the first stands right behind this position
abbrev pub news_behind : ℕ → List (Entry Call Reply) → List News
news_behind position [] = []
news_behind position (e ∷ es) = cons_option (news_of (position + 1) e) (news_behind (position + 1) es)

abbrev pub news_data : News → Data
news_data news = object_of (
    (codes "at", or_null count news.clock) ∷
    (codes "desk", count news.desk) ∷
    (codes "msgs", messages_data news.messages) ∷
    (codes "n", count news.position) ∷ [])

abbrev pub since_data : ℕ → List (Entry Call Reply) → Data
since_data position entries =
    object_of ((codes "n", count (position + length entries)) ∷ (codes "news", list_of news_data (news_behind position entries)) ∷ [])

abbrev pub since_text : ℕ → List (Entry Call Reply) → Text
since_text position entries = compact_text (since_data position entries)
