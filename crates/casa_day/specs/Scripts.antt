-- to believe: the entries that lines say, and the texts of entries
use Rattle.std.specs.Prelude.{◌≡◌, ℕ, Some, List, map}
use Rattle.std.specs.List.{AllZip, enumerate_from}
use Rattle.casa_history.specs.declared.entry.Entry.{Entry}
use Rattle.casa_tape.specs.Lines.{AreLines, journal_of}
use Rattle.casa_day.specs.declared.script.Script.{Ghosts as ScriptOf}

-- the calls of entries
abbrev pub calls_in : {C R : Type 0} → List (Entry C R) → List C
calls_in es = map (λ (e : Entry _ _). e.call) es

-- the calls with their replies
abbrev pub answers_in : {C R : Type 0} → List (Entry C R) → List (C × R)
answers_in es = map (λ (e : Entry _ _). (e.call, e.reply)) es

-- a line says an entry at a position: its call is said there, and its reply is vouched for
pub record Says {S C R : Type 0} (script : ScriptOf S C R) (position : ℕ) (line : List ℕ) (e : Entry C R) : Type 0 where
  pub call : script.says position line ≡ Some e.call
  pub reply : script.vouches_for position line e.reply

-- the lines say these entries, one each, the first of them at this position
abbrev pub Say : {S C R : Type 0} → ScriptOf S C R → ℕ → List (List ℕ) → List (Entry C R) → Type 0
Say script position lines es = AllZip (λ line at. Says script at.0 line at.1) lines (enumerate_from position es)

-- a text of these entries, the first of them at this position: lines that say them, each with its LF
pub record IsTextOf {S C R : Type 0} (script : ScriptOf S C R) (position : ℕ) (es : List (Entry C R)) (text : List ℕ) : Type 0 where
  pub lines : List (List ℕ)
  pub are : AreLines lines
  pub is : text ≡ journal_of lines
  pub said : Say script position lines es
