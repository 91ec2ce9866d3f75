-- to believe: the words of the command line, and what they ask for
use Rattle.std.specs.Prelude.{ℕ, ◌==◌, ◌&&◌, ◌||◌, not, Bool, true, false, if◌then◌else◌, List, [], ◌∷◌, length, find, Option, Some, None, is_some, option_and_then, option_map, unwrap_or, codes, bytes_eq, nat_le, nat_lt, slice_index, Result, Ok, Err}
use Rattle.std.specs.List.{list_all, slice_range, slice_split}
use Rattle.std.specs.Option.{option_map_or, option_or}
use Rattle.std.specs.Str.Parse.{digits_value, without_leading_plus}
use Rattle.clap.specs.Walk.{is_empty}
use Rattle.clap.specs.Words.{Row, fault_of, first_of, one_of, subcommand_of}
use Rattle.clap.specs.declared.parser.matches.ValueSource.{ValueSource}
use Rattle.clap.specs.declared.parser.matches.ValueSource.TheVariants.{CommandLine}
use Rattle.jiff_fmt.specs.Temporal.{DateParts, parse_date}
use Rattle.casa_filing.specs.Text.{Text, is_name}
use Rattle.casa_usage.specs.Usage.{whole_app}
use Rattle.casa_cli.specs.declared.tasks.Format.{Format}
use Rattle.casa_cli.specs.declared.tasks.Format.TheVariants.{Table, Csv, Json}
use Rattle.casa_cli.specs.declared.tasks.Order.{Order}
use Rattle.casa_cli.specs.declared.tasks.Order.TheVariants.{File, Eobt}
use Rattle.casa_cli.specs.declared.tasks.Sort.{Sort}
use Rattle.casa_cli.specs.declared.tasks.Sort.TheVariants.{List as ListOrder, Delay}

-- the files of tables, by their paths, and how lines are made of them
pub record Import : Type 0 where
  pub flights : Option Text
  pub crossings : Option Text
  pub regs : Option Text
  pub day : DateParts
  -- the seconds for flights whose row gives none
  pub taxi : ℕ
  -- those that stay in a flight with too many
  pub locations : List Text
  pub order : Order
  pub is_strict : Bool

-- where a server that stays listens and serves a page, how it keeps its desks, and how its clock is moved
pub record Service : Type 0 where
  pub port : Option ℕ
  -- the path, and whether its group may connect
  pub socket : Option (Text × Bool)
  -- the port for browsers, and the further host under which they may ask
  pub page : Option (ℕ × Option Text)
  -- at each address
  pub seats : ℕ
  -- the seconds until a silent connection is given up, if it is
  pub idle : Option ℕ
  pub quiet : Bool
  -- the day, and the seconds from one move to the next
  pub clock : Option (DateParts × ℕ)
  -- the path, and whether more than a torn line may be set aside
  pub journal : Option (Text × Bool)

-- what the words can ask for
pub data Request : Type 0 where
  run : (journal : Option (Text × Bool)) → Request
  import : Import → Request
  -- on one regulation, or on all
  report : (reg : Option Text) → DateParts → Sort → (top : Option ℕ) → Format → (strict : Bool) → Request
  load : Text → DateParts → (step : ℕ) → Format → (strict : Bool) → Request
  summary : DateParts → Format → (strict : Bool) → Request
  why : Text → DateParts → Format → (strict : Bool) → Request
  messages : DateParts → Format → (strict : Bool) → Request
  compare : (base variant : Text) → DateParts → Format → (strict : Bool) → Request
  page : DateParts → (strict : Bool) → Request
  serve : (port connections turns : ℕ) → (day : Option DateParts) → (journal : Option (Text × Bool)) → Request
  stay : Service → Request
  check_journal : (path : Text) → Request

-- options that do not go together: one without the one that it needs, two that exclude each other, no regulation and not
-- all of them for a report, no table for lines that are made of tables, no port, no port and no socket for a server that
-- stays, or too many seats at two addresses
pub data Clash : Type 0 where
  needs : (option other : Text) → Clash
  excludes : (option other : Text) → Clash
  no_list : Clash
  no_table : Clash
  no_port : Clash
  no_address : Clash
  too_many_seats : Clash

-- and what can be wrong, in the order of the checks; last a word that is not possible for an argument
pub data WrongValue : Type 0 where
  clashing : Clash → WrongValue
  wrong_reg : WrongValue
  wrong_key : WrongValue
  wrong_location : WrongValue
  wrong_day : WrongValue
  wrong_word : (argument : Text) → WrongValue

abbrev pub is_digit : ℕ → Bool
is_digit c = nat_le 48 c && nat_le c 57

abbrev pub are_digits : List ℕ → Bool
are_digits text = list_all is_digit text

-- four digits, a hyphen, two digits, a hyphen, two digits
abbrev pub is_day_shaped : Text → Bool
is_day_shaped text =
    length text == 10
    && (are_digits (slice_range text 0 4) && (slice_index text 4 == 45
    && (are_digits (slice_range text 5 7) && (slice_index text 7 == 45
    && are_digits (slice_range text 8 10)))))

abbrev pub result_ok : {A E : Type 0} → Result A E → Option A
result_ok (Ok x) = Some x
result_ok (Err e) = None

-- a day is a date in that shape
abbrev pub day_of : Text → Option DateParts
day_of text = if is_day_shaped text then result_ok (parse_date text) else None

-- a regulation and a flight are named by names
abbrev pub name_of : Text → Option Text
name_of text = if is_name text then Some text else None

infixl 10 ◌>>=◌
abbrev pub ◌>>=◌ : {A B : Type 0} → Result A WrongValue → (A → Result B WrongValue) → Result B WrongValue
(Ok x) >>= next = next x
(Err wrong) >>= next = Err wrong

abbrev pub or_wrong : {A : Type 0} → WrongValue → Option A → Result A WrongValue
or_wrong wrong (Some x) = Ok x
or_wrong wrong None = Err wrong

-- what the option with this name, and `--day`, say
abbrev pub named_in : Text → List Row → Option Text
named_in option rows = option_and_then name_of (first_of option rows)

abbrev pub day_in : List Row → Option DateParts
day_in rows = option_and_then day_of (first_of (codes "day") rows)

-- what stands where a word must
abbrev pub word_of : Text → List Row → Text
word_of name rows = unwrap_or (first_of name rows) []

-- the number after an option, where there is one
abbrev pub number_of : Text → List Row → Option ℕ
number_of name rows = option_map (λ text. digits_value 10 (without_leading_plus text)) (one_of name rows)

-- whether the words give the option or the flag
abbrev pub is_of_words : Option ValueSource → Bool
is_of_words (Some CommandLine) = true
is_of_words _ = false

abbrev pub is_given : Text → List Row → Bool
is_given name rows = is_of_words (option_and_then (λ row. row.source) (find (λ row. bytes_eq row.id name) rows))

abbrev pub is_strict : List Row → Bool
is_strict rows = is_given (codes "strict") rows

-- the form that a word names
abbrev pub format_named : Text → Option Format
format_named word =
    if bytes_eq word (codes "table") then Some Table
    else if bytes_eq word (codes "csv") then Some Csv
    else if bytes_eq word (codes "json") then Some Json
    else None

-- the form in which to print: a table, where none is given
abbrev pub format_of : List Row → Option Format
format_of rows = option_map_or format_named (first_of (codes "format") rows) (Some Table)

abbrev pub formatted : List Row → Result Format WrongValue
formatted rows = or_wrong (wrong_word (codes "format")) (format_of rows)

-- that of messages: comma-separated values, where none is given; there is no table of them
abbrev pub messages_format_named : Text → Option Format
messages_format_named word =
    if bytes_eq word (codes "csv") then Some Csv else if bytes_eq word (codes "json") then Some Json else None

abbrev pub messages_format_of : List Row → Option Format
messages_format_of rows = option_map_or messages_format_named (first_of (codes "format") rows) (Some Csv)

-- the order of rows: that of their list, where none is given
abbrev pub sort_named : Text → Option Sort
sort_named word =
    if bytes_eq word (codes "list") then Some ListOrder else if bytes_eq word (codes "delay") then Some Delay else None

abbrev pub sort_of : List Row → Option Sort
sort_of rows = option_map_or sort_named (first_of (codes "sort") rows) (Some ListOrder)

-- the order of filings: that of the file, where none is given
abbrev pub order_named : Text → Option Order
order_named word =
    if bytes_eq word (codes "file") then Some File else if bytes_eq word (codes "eobt") then Some Eobt else None

abbrev pub order_of : List Row → Option Order
order_of rows = option_map_or order_named (first_of (codes "by") rows) (Some File)

-- what stands between the commas of a text, the characters 44
abbrev pub between_commas : Text → List Text
between_commas text = slice_split (λ c. c == 44) text

-- texts as locations, where all of them are names
abbrev pub are_locations : List Text → Option (List Text)
are_locations parts = if list_all is_name parts then Some parts else None

-- the locations that a text names: all that stands between its commas
abbrev pub locations_named : Text → Option (List Text)
locations_named text = are_locations (between_commas text)

-- those after the option: none, where it is not given
abbrev pub locations_of : List Row → Option (List Text)
locations_of rows = option_map_or locations_named (first_of (codes "locations") rows) (Some [])

-- the seconds of taxi
abbrev pub taxi_of : List Row → ℕ
taxi_of rows = unwrap_or (number_of (codes "taxi") rows) 600

-- the minutes of a step
abbrev pub step_of : List Row → ℕ
step_of rows = unwrap_or (number_of (codes "step") rows) 20

-- a regulation that is given must be one
abbrev pub checked_reg : Option Text → Result (Option Text) WrongValue
checked_reg None = Ok None
checked_reg (Some text) = or_wrong wrong_reg (option_map (λ reg. Some reg) (name_of text))

abbrev pub report_at : List Row → Result Request WrongValue
report_at rows = do
  format ← formatted rows
  sort ← or_wrong (wrong_word (codes "sort")) (sort_of rows)
  reg ← checked_reg (first_of (codes "reg") rows)
  day ← or_wrong wrong_day (day_in rows)
  Ok (report reg day sort (number_of (codes "top") rows) format (is_strict rows))

abbrev pub load_of : List Row → Result Request WrongValue
load_of rows = do
  format ← formatted rows
  reg ← or_wrong wrong_reg (named_in (codes "reg") rows)
  day ← or_wrong wrong_day (day_in rows)
  Ok (load reg day (step_of rows) format (is_strict rows))

abbrev pub summary_of : List Row → Result Request WrongValue
summary_of rows = do
  format ← formatted rows
  day ← or_wrong wrong_day (day_in rows)
  Ok (summary day format (is_strict rows))

abbrev pub why_of : List Row → Result Request WrongValue
why_of rows = do
  format ← formatted rows
  key ← or_wrong wrong_key (named_in (codes "key") rows)
  day ← or_wrong wrong_day (day_in rows)
  Ok (why key day format (is_strict rows))

abbrev pub messages_of : List Row → Result Request WrongValue
messages_of rows = do
  format ← or_wrong (wrong_word (codes "format")) (messages_format_of rows)
  day ← or_wrong wrong_day (day_in rows)
  Ok (messages day format (is_strict rows))

abbrev pub compare_of : List Row → Result Request WrongValue
compare_of rows = do
  format ← formatted rows
  day ← or_wrong wrong_day (day_in rows)
  Ok (compare (word_of (codes "base") rows) (word_of (codes "variant") rows) day format (is_strict rows))

abbrev pub page_of : List Row → Result Request WrongValue
page_of rows = do
  day ← or_wrong wrong_day (day_in rows)
  Ok (page day (is_strict rows))

abbrev pub connections_of : List Row → ℕ
connections_of rows = unwrap_or (number_of (codes "connections") rows) 1

abbrev pub turns_of : List Row → ℕ
turns_of rows = unwrap_or (number_of (codes "turns") rows) 0

abbrev pub seats_of : List Row → ℕ
seats_of rows = unwrap_or (number_of (codes "seats") rows) 64

abbrev pub every_of : List Row → ℕ
every_of rows = unwrap_or (number_of (codes "every") rows) 1

abbrev pub socket_of : List Row → Option (Text × Bool)
socket_of rows = option_map (λ path. (path, is_given (codes "group") rows)) (first_of (codes "socket") rows)

abbrev pub page_port_of : List Row → Option (ℕ × Option Text)
page_port_of rows = option_map (λ port. (port, first_of (codes "page-host") rows)) (number_of (codes "page") rows)

abbrev pub journal_of : List Row → Option (Text × Bool)
journal_of rows = option_map (λ path. (path, is_given (codes "force") rows)) (first_of (codes "journal") rows)

abbrev pub import_at : List Row → Result Request WrongValue
import_at rows = do
  order ← or_wrong (wrong_word (codes "by")) (order_of rows)
  locations ← or_wrong wrong_location (locations_of rows)
  day ← or_wrong wrong_day (day_in rows)
  Ok (import (record {
    flights = first_of (codes "flights") rows;
    crossings = first_of (codes "crossings") rows;
    regs = first_of (codes "regs") rows;
    day = day;
    taxi = taxi_of rows;
    locations = locations;
    order = order;
    is_strict = is_strict rows;
  }))

-- one of a regulation and all is given, and not both
abbrev pub clash_of_report : List Row → Option Clash
clash_of_report rows =
    if is_given (codes "reg") rows && is_given (codes "all") rows then Some (excludes (codes "reg") (codes "all"))
    else if not (is_given (codes "reg") rows) && not (is_given (codes "all") rows) then Some no_list
    else None

-- crossings are those of flights, and flights or regulations are given
abbrev pub clash_of_import : List Row → Option Clash
clash_of_import rows =
    if is_given (codes "crossings") rows && not (is_given (codes "flights") rows)
    then Some (needs (codes "crossings") (codes "flights"))
    else if not (is_given (codes "flights") rows) && not (is_given (codes "regs") rows) then Some no_table
    else None

-- the options that only a server that stays may take
abbrev pub staying_options : List Text
staying_options =
    codes "socket" ∷ codes "group" ∷ codes "page" ∷ codes "page-host" ∷ codes "seats" ∷ codes "idle" ∷ codes "quiet" ∷
    codes "clock" ∷ codes "every" ∷ []

-- it takes no `--connections` and no `--turns`, and needs an address; a group is that of a socket, a further host that
-- of a page, and seconds are those of a clock; at each of two addresses it has at most 500 seats
abbrev pub clash_of_staying : List Row → Option Clash
clash_of_staying rows =
    if is_given (codes "connections") rows then Some (excludes (codes "stay") (codes "connections"))
    else if is_given (codes "turns") rows then Some (excludes (codes "stay") (codes "turns"))
    else if not (is_given (codes "port") rows) && not (is_given (codes "socket") rows) then Some no_address
    else if is_given (codes "group") rows && not (is_given (codes "socket") rows)
    then Some (needs (codes "group") (codes "socket"))
    else if is_given (codes "page-host") rows && not (is_given (codes "page") rows)
    then Some (needs (codes "page-host") (codes "page"))
    else if is_given (codes "every") rows && not (is_given (codes "clock") rows)
    then Some (needs (codes "every") (codes "clock"))
    else if is_given (codes "port") rows && (is_given (codes "socket") rows && nat_lt 500 (seats_of rows))
    then Some too_many_seats
    else None

-- one that ends takes none of these
abbrev pub clash_of_ending : List Row → Option Clash
clash_of_ending rows =
    option_map (λ option. needs option (codes "stay")) (find (λ option. is_given option rows) staying_options)

-- force is that of a journal
abbrev pub clash_of_journal : List Row → Option Clash
clash_of_journal rows =
    if is_given (codes "force") rows && not (is_given (codes "journal") rows)
    then Some (needs (codes "force") (codes "journal")) else None

abbrev pub clash_by_stay : List Row → Option Clash
clash_by_stay rows = if is_given (codes "stay") rows then clash_of_staying rows else clash_of_ending rows

-- the first clash of the options of `serve`; that the port is missing is found after these
abbrev pub clash_of : List Row → Option Clash
clash_of rows = option_or (clash_by_stay rows) (clash_of_journal rows)

-- a day that is given must be one
abbrev pub checked_day : Option Text → Result (Option DateParts) WrongValue
checked_day None = Ok None
checked_day (Some text) = or_wrong wrong_day (option_map (λ day. Some day) (day_of text))

-- the turns of a clock need the day
abbrev pub day_for : ℕ → Option DateParts → Result (Option DateParts) WrongValue
day_for turns day = if turns == 0 || is_some day then Ok day else Err wrong_day

-- a clock that a server that stays moves needs it too
abbrev pub clock_for : Bool → ℕ → Option DateParts → Result (Option (DateParts × ℕ)) WrongValue
clock_for moves every day =
    if moves then or_wrong wrong_day (option_map (λ midnight. Some (midnight, every)) day) else Ok None

abbrev pub serve_at : List Row → Result Request WrongValue
serve_at rows = do
  port ← or_wrong (clashing no_port) (number_of (codes "port") rows)
  given ← checked_day (first_of (codes "day") rows)
  day ← day_for (turns_of rows) given
  Ok (serve port (connections_of rows) (turns_of rows) day (journal_of rows))

abbrev pub stay_at : List Row → Result Request WrongValue
stay_at rows = do
  given ← checked_day (first_of (codes "day") rows)
  clock ← clock_for (is_given (codes "clock") rows) (every_of rows) given
  Ok (stay (record {
    port = number_of (codes "port") rows;
    socket = socket_of rows;
    page = page_port_of rows;
    seats = seats_of rows;
    idle = number_of (codes "idle") rows;
    quiet = is_given (codes "quiet") rows;
    clock = clock;
    journal = journal_of rows;
  }))

-- a clash comes before what else can be wrong
abbrev pub run_of : List Row → Result Request WrongValue
run_of rows = option_map_or (λ clash. Err (clashing clash)) (clash_of_journal rows) (Ok (run (journal_of rows)))

abbrev pub import_of : List Row → Result Request WrongValue
import_of rows = option_map_or (λ clash. Err (clashing clash)) (clash_of_import rows) (import_at rows)

abbrev pub report_of : List Row → Result Request WrongValue
report_of rows = option_map_or (λ clash. Err (clashing clash)) (clash_of_report rows) (report_at rows)

abbrev pub serve_of : List Row → Result Request WrongValue
serve_of rows =
    option_map_or (λ clash. Err (clashing clash)) (clash_of rows)
    (if is_given (codes "stay") rows then stay_at rows else serve_at rows)

-- to check is all that is done with a journal
abbrev pub check_of : List Row → Result Request WrongValue
check_of rows =
    if bytes_eq (word_of (codes "action") rows) (codes "check")
    then Ok (check_journal (word_of (codes "file") rows)) else Err (wrong_word (codes "action"))

-- a subcommand that asks for messages, for what differs, for lists, or for a page
abbrev pub printing_request : Text × List Row → Result Request WrongValue
printing_request (name, rows) =
    if bytes_eq name (codes "messages") then messages_of rows
    else if bytes_eq name (codes "compare") then compare_of rows
    else if bytes_eq name (codes "report") then report_of rows
    else page_of rows

-- one that asks for these, or for what else stands after command lines
abbrev pub asking_request : Text × List Row → Result Request WrongValue
asking_request (name, rows) =
    if bytes_eq name (codes "load") then load_of rows
    else if bytes_eq name (codes "summary") then summary_of rows
    else if bytes_eq name (codes "why") then why_of rows
    else printing_request (name, rows)

-- any subcommand
abbrev pub named_request : Text × List Row → Result Request WrongValue
named_request (name, rows) =
    if bytes_eq name (codes "run") then run_of rows
    else if bytes_eq name (codes "serve") then serve_of rows
    else if bytes_eq name (codes "journal") then check_of rows
    else if bytes_eq name (codes "import") then import_of rows
    else asking_request (name, rows)

-- what the words ask for, where clap finds no fault in them and they name a subcommand
abbrev pub request_of : List Text → Option (Result Request WrongValue)
request_of words =
    if is_empty (fault_of whole_app words) then option_map named_request (subcommand_of whole_app words) else None
