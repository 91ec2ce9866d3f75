-- inner contracts: which value of an option can be wrong, in the order of the checks, and what is asked for else
use Rattle.std.specs.Prelude.{◌≡◌, Bool, false, not, ◌&&◌, ◌==◌, if◌then◌else◌, List, [], ◌∷◌, find, Option, Some, None, is_none, option_and_then, option_map, codes, bytes_eq, Result, Ok, Err}
use Rattle.std.specs.Option.{option_map_or}
use Rattle.clap.specs.Words.{Row, fault_of, first_of, subcommand_of}
use Rattle.casa_filing.specs.Text.{Text}
use Rattle.casa_usage.specs.Usage.{whole_app}
use Rattle.casa_cli.specs.Words.{Request, WrongValue, needs, excludes, no_list, no_table, no_port, clashing, run, import, report, load, summary, why, messages, compare, page, serve, stay, check_journal, wrong_reg, wrong_key, wrong_location, wrong_day, wrong_word, clash_of, connections_of, day_in, day_of, every_of, format_of, is_given, is_strict, journal_of, locations_of, messages_format_of, name_of, named_in, number_of, order_of, page_port_of, seats_of, socket_of, sort_of, step_of, taxi_of, turns_of, word_of}

-- clap finds no fault in the words, and they are this subcommand with these options
abbrev pub AreRead : List Text → Text → List Row → Type 0
AreRead words name rows = (fault_of whole_app words ≡ []) × (subcommand_of whole_app words ≡ Some (name, rows))

-- and their options go together, for a server that stays or for one that ends
abbrev pub AreServed : List Text → Bool → List Row → Type 0
AreServed words stays rows =
    AreRead words (codes "serve") rows × (clash_of rows ≡ None) × (is_given (codes "stay") rows ≡ stays)

-- whether something is wrong, and the value that this is
abbrev pub Check : Type 0
Check = Bool × WrongValue

-- the value of the first check that holds
abbrev pub first_wrong : List Check → Option WrongValue
first_wrong checks = option_map (λ (check : Check). check.1) (find (λ (check : Check). check.0) checks)

-- of `run`: force is given, and no journal
abbrev pub run_checks : List Row → List Check
run_checks rows = (
  is_given (codes "force") rows && not (is_given (codes "journal") rows),
  clashing (needs (codes "force") (codes "journal")),
) ∷ []

-- of `import`: crossings are given, and no flights; neither flights nor regulations are; what stands after `--by` is no
-- order; what stands after `--locations` is not names with commas between; what stands after `--day` is no day
abbrev pub import_checks : List Row → List Check
import_checks rows =
    (is_given (codes "crossings") rows && not (is_given (codes "flights") rows), clashing (needs (codes "crossings") (codes "flights"))) ∷
    (not (is_given (codes "flights") rows) && not (is_given (codes "regs") rows), clashing no_table) ∷
    (is_none (order_of rows), wrong_word (codes "by")) ∷
    (is_none (locations_of rows), wrong_location) ∷
    (is_none (day_in rows), wrong_day) ∷ []

-- what stands after `--format` is no form
abbrev pub format_check : List Row → Check
format_check rows = (is_none (format_of rows), wrong_word (codes "format"))

-- of `report`: a regulation and all are given; neither is; what stands after `--format` is no form; what stands after
-- `--sort` is no order; what stands after `--reg`, where it is given, is no identifier; what stands after `--day` is no day
abbrev pub report_checks : List Row → List Check
report_checks rows =
    (is_given (codes "reg") rows && is_given (codes "all") rows, clashing (excludes (codes "reg") (codes "all"))) ∷
    (not (is_given (codes "reg") rows) && not (is_given (codes "all") rows), clashing no_list) ∷
    format_check rows ∷
    (is_none (sort_of rows), wrong_word (codes "sort")) ∷
    (option_map_or (λ text. is_none (name_of text)) (first_of (codes "reg") rows) false, wrong_reg) ∷
    (is_none (day_in rows), wrong_day) ∷ []

-- of `load`: what stands after `--format` is no form; what stands after `--reg` is no identifier; what stands after
-- `--day` is no day
abbrev pub load_checks : List Row → List Check
load_checks rows =
    format_check rows ∷ (is_none (named_in (codes "reg") rows), wrong_reg) ∷ (is_none (day_in rows), wrong_day) ∷ []

-- of `summary` and `compare`: what stands after `--format` is no form; what stands after `--day` is no day
abbrev pub summary_checks : List Row → List Check
summary_checks rows = format_check rows ∷ (is_none (day_in rows), wrong_day) ∷ []

-- of `messages`: what stands after `--format` is no form of theirs; what stands after `--day` is no day
abbrev pub messages_checks : List Row → List Check
messages_checks rows =
    (is_none (messages_format_of rows), wrong_word (codes "format")) ∷ (is_none (day_in rows), wrong_day) ∷ []

-- of `page`: what stands after `--day` is no day
abbrev pub page_checks : List Row → List Check
page_checks rows = (is_none (day_in rows), wrong_day) ∷ []

-- of `why`: what stands after `--format` is no form; what stands after `--key` is no key of a flight; what stands after
-- `--day` is no day
abbrev pub why_checks : List Row → List Check
why_checks rows =
    format_check rows ∷ (is_none (named_in (codes "key") rows), wrong_key) ∷ (is_none (day_in rows), wrong_day) ∷ []

-- of `journal`: what stands first is not `check`
abbrev pub journal_checks : List Row → List Check
journal_checks rows = (not (bytes_eq (word_of (codes "action") rows) (codes "check")), wrong_word (codes "action")) ∷ []

-- what stands after `--day` is no day
abbrev pub day_check : List Row → Check
day_check rows = (option_map_or (λ text. is_none (day_of text)) (first_of (codes "day") rows) false, wrong_day)

-- of `serve` without `--stay`: the port is missing; the day is none; the clock is to be moved, and no day is given
abbrev pub serve_checks : List Row → List Check
serve_checks rows =
    (is_none (number_of (codes "port") rows), clashing no_port) ∷
    day_check rows ∷
    (not (turns_of rows == 0) && is_none (first_of (codes "day") rows), wrong_day) ∷ []

-- with it: the day is none; the clock is to be moved, and no day is given
abbrev pub stay_checks : List Row → List Check
stay_checks rows =
    day_check rows ∷
    (is_given (codes "clock") rows && is_none (first_of (codes "day") rows), wrong_day) ∷ []

infixl 10 ◌>>=◌
abbrev ◌>>=◌ : {A B : Type 0} → Option A → (A → Option B) → Option B
found >>= next = option_and_then next found

-- what the options ask for, where each is what it must be
abbrev pub run_request : List Row → Option Request
run_request rows = Some (run (journal_of rows))

abbrev pub import_request : List Row → Option Request
import_request rows = do
  order ← order_of rows
  locations ← locations_of rows
  day ← day_in rows
  Some (import (record {
    flights = first_of (codes "flights") rows;
    crossings = first_of (codes "crossings") rows;
    regs = first_of (codes "regs") rows;
    day = day;
    taxi = taxi_of rows;
    locations = locations;
    order = order;
    is_strict = is_strict rows;
  }))

abbrev pub report_request : List Row → Option Request
report_request rows = do
  format ← format_of rows
  sort ← sort_of rows
  day ← day_in rows
  Some (report (named_in (codes "reg") rows) day sort (number_of (codes "top") rows) format (is_strict rows))

abbrev pub load_request : List Row → Option Request
load_request rows = do
  format ← format_of rows
  reg ← named_in (codes "reg") rows
  day ← day_in rows
  Some (load reg day (step_of rows) format (is_strict rows))

abbrev pub summary_request : List Row → Option Request
summary_request rows = do
  format ← format_of rows
  day ← day_in rows
  Some (summary day format (is_strict rows))

abbrev pub why_request : List Row → Option Request
why_request rows = do
  format ← format_of rows
  key ← named_in (codes "key") rows
  day ← day_in rows
  Some (why key day format (is_strict rows))

abbrev pub messages_request : List Row → Option Request
messages_request rows = do
  format ← messages_format_of rows
  day ← day_in rows
  Some (messages day format (is_strict rows))

abbrev pub compare_request : List Row → Option Request
compare_request rows = do
  format ← format_of rows
  base ← first_of (codes "base") rows
  variant ← first_of (codes "variant") rows
  day ← day_in rows
  Some (compare base variant day format (is_strict rows))

abbrev pub page_request : List Row → Option Request
page_request rows = do
  day ← day_in rows
  Some (page day (is_strict rows))

abbrev pub serve_request : List Row → Option Request
serve_request rows = do
  port ← number_of (codes "port") rows
  Some (serve port (connections_of rows) (turns_of rows) (day_in rows) (journal_of rows))

abbrev pub stay_request : List Row → Option Request
stay_request rows = Some (stay (record {
  port = number_of (codes "port") rows;
  socket = socket_of rows;
  page = page_port_of rows;
  seats = seats_of rows;
  idle = number_of (codes "idle") rows;
  quiet = is_given (codes "quiet") rows;
  clock =
      if is_given (codes "clock") rows then option_map (λ midnight. (midnight, every_of rows)) (day_in rows) else None;
  journal = journal_of rows;
}))

abbrev pub journal_request : List Row → Option Request
journal_request rows = do
  path ← first_of (codes "file") rows
  Some (check_journal path)

-- what is wrong, or else what is asked for
abbrev pub unless_wrong : Option WrongValue → Option Request → Option (Result Request WrongValue)
unless_wrong (Some wrong) asked = Some (Err wrong)
unless_wrong None asked = option_map (λ request. Ok request) asked
