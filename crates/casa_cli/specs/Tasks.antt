-- inner contracts: what a task and a refusal of the words say
use Rattle.std.specs.Prelude.{◌≡◌, ℕ, pos, Bool, ◌∷◌, List, Option, Some, Result, Ok, Err, IfSome, [], true, codes, is_some, option_map}
use Rattle.std.specs.Option.{option_map_or}
use Rattle.clap.specs.Kinds.{HasKind, Kinds, or_else}
use Rattle.clap.specs.Words.{IsSignedIn, Row, fault_of, first_of, one_of, without_minus, subcommand_of, subcommand_rows_of}
use Rattle.clap.specs.declared.error.kind.ErrorKind.{ErrorKind}
use Rattle.clap.specs.declared.error.kind.ErrorKind.TheVariants.{ArgumentConflict, InvalidValue, MissingRequiredArgument}
use Rattle.clap.specs.declared.parser.matches.ArgMatches.{ArgMatches}
use Rattle.jiff_fmt.specs.Temporal.{date_parts}
use Rattle.casa_filing.specs.Text.{Text}
use Rattle.casa_usage.specs.Usage.{whole_app}
use Rattle.casa_cli.specs.Words.{Clash, Import, Request, Service, WrongValue, needs, excludes, no_list, no_table, no_port, no_address, too_many_seats, clashing, run, import, report, load, summary, why, messages, compare, page, serve, stay, check_journal, wrong_reg, wrong_key, wrong_location, wrong_day, wrong_word, request_of}
use Rattle.casa_cli.specs.declared.clashes.Clash.{Clash as FoundClash}
use Rattle.casa_cli.specs.declared.clashes.Clash.TheVariants.{Needs, Excludes, NoList, NoTable, NoPort, NoAddress, TooManySeats}
use Rattle.casa_cli.specs.declared.tasks.Import.{Import as TaskImport}
use Rattle.casa_cli.specs.declared.tasks.Journal.{Journal}
use Rattle.casa_cli.specs.declared.tasks.PagePort.{PagePort}
use Rattle.casa_cli.specs.declared.tasks.Service.{Service as TaskService}
use Rattle.casa_cli.specs.declared.tasks.Task.{Task}
use Rattle.casa_cli.specs.declared.tasks.Task.TheVariants.{Run, Import as ImportTask, Report, Load, Summary, Messages, Compare, Page, Why, Serve, Stay, CheckJournal}
use Rattle.casa_cli.specs.declared.tasks.TaskFault.{TaskFault}
use Rattle.casa_cli.specs.declared.tasks.TaskFault.TheVariants.{Words, BadReg, BadKey, BadLocation, BadDay}

-- to believe: the journal to keep, as the words tell it
abbrev pub journal : Option Journal → Option (Text × Bool)
journal kept = option_map (λ file. (file.path.now, file.force)) kept

-- to believe: where it serves a page, as the words tell it
abbrev pub page_port : Option PagePort → Option (ℕ × Option Text)
page_port served = option_map (λ page. (page.port, option_map (λ host. host.now) page.host)) served

-- to believe: what a server that stays is to do, as the words tell it
abbrev pub service : TaskService → Service
service task = record {
  port = task.port;
  socket = option_map (λ socket. (socket.path.now, socket.group)) task.socket;
  page = page_port task.page;
  seats = task.seats;
  idle = task.idle;
  quiet = task.quiet;
  clock = option_map (λ clock. (date_parts clock.day, clock.every)) task.clock;
  journal = journal task.journal;
}

-- to believe: the files of tables, and how lines are made of them, as the words tell it
abbrev pub tables : TaskImport → Import
tables task = record {
  flights = option_map (λ path. path.now) task.flights;
  crossings = option_map (λ path. path.now) task.crossings;
  regs = option_map (λ path. path.now) task.regs;
  day = date_parts task.day;
  taxi = task.taxi;
  locations = task.locations.items;
  order = task.order;
  is_strict = task.strict;
}

-- to believe: the request that a task is, as the words tell it
abbrev pub request : Task → Request
request (Run kept) = run (journal kept)
request (ImportTask task) = import (tables task)
request (Report reg day sort top format strict) = report reg (date_parts day) sort top format strict
request (Load reg day step format strict) = load reg (date_parts day) step format strict
request (Summary day format strict) = summary (date_parts day) format strict
request (Why key day format strict) = why key (date_parts day) format strict
request (Messages day format strict) = messages (date_parts day) format strict
request (Compare base variant day format strict) = compare base.now variant.now (date_parts day) format strict
request (Page day strict) = page (date_parts day) strict
request (Serve port connections turns day kept) =
    serve port connections turns (option_map date_parts day) (journal kept)
request (Stay task) = stay (service task)
request (CheckJournal path) = check_journal path.now

-- to believe: the words ask for this task
abbrev pub Asks : List Text → Task → Type 0
Asks words task = request_of words ≡ Some (Ok (request task))

-- to believe: clap's kind of fault for options that do not go together
abbrev pub kind_of_clash : Clash → ErrorKind
kind_of_clash (needs option other) = MissingRequiredArgument
kind_of_clash (excludes option other) = ArgumentConflict
kind_of_clash no_list = MissingRequiredArgument
kind_of_clash no_table = MissingRequiredArgument
kind_of_clash no_port = MissingRequiredArgument
kind_of_clash no_address = MissingRequiredArgument
kind_of_clash too_many_seats = ArgumentConflict

-- to believe: that of what is wrong, if it is such a clash, or a word that is not possible
abbrev pub wrong_kinds : Result Request WrongValue → Kinds
wrong_kinds (Err (clashing clash)) = kind_of_clash clash ∷ []
wrong_kinds (Err (wrong_word argument)) = InvalidValue ∷ []
wrong_kinds _ = []

-- to believe: the kinds of fault of the words: clap's own, or where it has none that of such a wrong
abbrev pub fault_kinds : List Text → Kinds
fault_kinds words = or_else (fault_of whole_app words) (option_map_or wrong_kinds (request_of words) [])

-- to believe: they are refused by this fault: by clap's for what is wrong with them, or for no memory; or for a value
abbrev pub AreRefused : List Text → TaskFault → Type 0
AreRefused words (Words error) = HasKind (fault_kinds words) error
AreRefused words BadReg = request_of words ≡ Some (Err wrong_reg)
AreRefused words BadKey = request_of words ≡ Some (Err wrong_key)
AreRefused words BadLocation = request_of words ≡ Some (Err wrong_location)
AreRefused words BadDay = request_of words ≡ Some (Err wrong_day)

-- the outcome is what the values of a subcommand's options give
abbrev pub IsOutcome : Result Request WrongValue → Result Task TaskFault → Type 0
IsOutcome asked (Ok task) = asked ≡ Ok (request task)
IsOutcome asked (Err (Words error)) = HasKind (wrong_kinds asked) error
IsOutcome asked (Err BadReg) = asked ≡ Err wrong_reg
IsOutcome asked (Err BadKey) = asked ≡ Err wrong_key
IsOutcome asked (Err BadLocation) = asked ≡ Err wrong_location
IsOutcome asked (Err BadDay) = asked ≡ Err wrong_day

-- the clash that was found, as the words have it
abbrev pub clash_found : FoundClash → Clash
clash_found (Needs option other) = needs option.now other.now
clash_found (Excludes option other) = excludes option.now other.now
clash_found NoList = no_list
clash_found NoTable = no_table
clash_found NoPort = no_port
clash_found NoAddress = no_address
clash_found TooManySeats = too_many_seats

-- what stands after the option, where there is something, is what clap takes for a number in these bounds
abbrev pub IsNumber : ℕ → ℕ → Text → List Row → Type 0
IsNumber low high name rows = IfSome (one_of name rows) (λ text. (value : Text)
    × (text ≡ without_minus value) × IsSignedIn (pos low) (pos high) value)

-- clap finds no fault in the words, and has read them
abbrev pub HasRead : List Text → ArgMatches → Type 0
HasRead words matches = (fault_of whole_app words ≡ [])
    × (subcommand_rows_of matches ≡ subcommand_of whole_app words)
    × (is_some (subcommand_rows_of matches) ≡ true)

-- they are the name of a subcommand and the values behind it, in words in which clap finds no fault
abbrev pub IsEntered : Text × List Row → Type 0
IsEntered entered = (words : List Text) × (fault_of whole_app words ≡ []) × (subcommand_of whole_app words ≡ Some entered)

-- a word is there
abbrev pub IsThere : Text → List Row → Type 0
IsThere name rows = is_some (first_of name rows) ≡ true

-- what clap has seen to of the words of `journal` and `compare`: they are there
abbrev pub AreThere : List Row → Type 0
AreThere rows = IsThere (codes "action") rows × IsThere (codes "file") rows

abbrev pub AreCompared : List Row → Type 0
AreCompared rows = IsThere (codes "base") rows × IsThere (codes "variant") rows

-- what clap has seen to of the options of `serve`
pub record AreChecked (rows : List Row) : Type 0 where
  pub port : IsNumber 1 65535 (codes "port") rows
  pub connections : IsNumber 0 4294967295 (codes "connections") rows
  pub turns : IsNumber 0 4294967295 (codes "turns") rows
  pub page : IsNumber 1 65535 (codes "page") rows
  pub seats : IsNumber 1 1000 (codes "seats") rows
  pub idle : IsNumber 1 86400 (codes "idle") rows
  pub every : IsNumber 1 3600 (codes "every") rows
