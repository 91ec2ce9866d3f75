-- to believe: the subcommands of `casa` and their options, as clap is told of them
use Rattle.std.specs.Prelude.{ℕ, pos, true, Some, codes}
use Rattle.clap.specs.Words.{App, Rule, new_app, new_rule, with_rule, with_subcommand}
use Rattle.clap.specs.Walk.{Text}
use Rattle.clap.specs.declared.builder.action.ArgAction.TheVariants.{SetTrue}
use Rattle.clap.specs.declared.builder.value_parser.ValueParser.TheVariants.{Signed}

-- `--name VALUE`
abbrev pub option_rule : Text → Rule
option_rule name = record (new_rule name) { long = Some name; value_names = 1 }

-- `--name`, which takes no value
abbrev pub flag_rule : Text → Rule
flag_rule name = record (new_rule name) { long = Some name; action = Some SetTrue }

-- a word that stands by itself
abbrev pub word_rule : Text → Rule
word_rule name = record (new_rule name) { value_names = 1 }

-- it must be there
abbrev pub needed : Rule → Rule
needed rule = record rule { required = true }

-- its value must be a number in these bounds
abbrev pub number_between : ℕ → ℕ → Rule → Rule
number_between low high rule = record rule { parser = Some (Signed (pos low) (pos high)) }

-- `run` may take `--journal` and `--force`; `import` takes `--day`, and it may take the files and how they are read;
-- `report` takes `--day`, and it may take `--reg` or `--all` and which rows are printed; `load` takes `--reg` and `--day`,
-- and it may take `--step`; `summary`, `messages` and `page` take `--day`, `why` takes `--key` and `--day`, and `compare`
-- two files and `--day`; all of these but `run` may take `--strict`, and all of them but `import` and `page` may take
-- `--format`; `serve` may take each of its options; `journal` takes an action and a file

-- a subcommand that may keep a journal
abbrev pub maybe_journal : App → App
maybe_journal app = with_rule (with_rule app (option_rule (codes "journal"))) (flag_rule (codes "force"))

abbrev pub run_app : App
run_app = maybe_journal (new_app (codes "run"))

-- a subcommand that takes the day, behind the options before it
abbrev pub taking_day : App → App
taking_day app = with_rule app (needed (option_rule (codes "day")))

-- one that may print in another form
abbrev pub maybe_formatted : App → App
maybe_formatted app = with_rule app (option_rule (codes "format"))

-- and one that may be strict
abbrev pub maybe_strict : App → App
maybe_strict app = with_rule app (flag_rule (codes "strict"))

-- `import` with the files, and the day
abbrev pub import_files : App
import_files =
    taking_day (with_rule (with_rule (with_rule (new_app (codes "import"))
    (option_rule (codes "flights")))
    (option_rule (codes "crossings")))
    (option_rule (codes "regs")))

abbrev pub import_app : App
import_app =
    maybe_strict (with_rule (with_rule (with_rule import_files
    (number_between 0 3600 (option_rule (codes "taxi"))))
    (option_rule (codes "locations")))
    (option_rule (codes "by")))

-- `report` with the lists that are meant, and the day
abbrev pub report_lists : App
report_lists =
    taking_day (with_rule (with_rule (new_app (codes "report")) (option_rule (codes "reg"))) (flag_rule (codes "all")))

abbrev pub report_app : App
report_app =
    maybe_strict (maybe_formatted (with_rule (with_rule report_lists
    (option_rule (codes "sort")))
    (number_between 1 1000000 (option_rule (codes "top")))))

-- `load` with what it must take, and the length of its steps
abbrev pub load_stepping : App
load_stepping =
    with_rule (taking_day (with_rule (new_app (codes "load")) (needed (option_rule (codes "reg")))))
    (number_between 1 1440 (option_rule (codes "step")))

abbrev pub load_app : App
load_app = maybe_strict (maybe_formatted load_stepping)

abbrev pub summary_app : App
summary_app = maybe_strict (maybe_formatted (taking_day (new_app (codes "summary"))))

abbrev pub why_app : App
why_app = maybe_strict (maybe_formatted (taking_day (with_rule (new_app (codes "why")) (needed (option_rule (codes "key"))))))

abbrev pub messages_app : App
messages_app = maybe_strict (maybe_formatted (taking_day (new_app (codes "messages"))))

-- `compare` with its files, and the day
abbrev pub compare_files : App
compare_files =
    taking_day (with_rule (with_rule (new_app (codes "compare"))
    (needed (word_rule (codes "base"))))
    (needed (word_rule (codes "variant"))))

abbrev pub compare_app : App
compare_app = maybe_strict (maybe_formatted compare_files)

abbrev pub page_app : App
page_app = maybe_strict (taking_day (new_app (codes "page")))

-- `serve` with what a server that ends may take
abbrev pub serve_without_clock : App
serve_without_clock =
    with_rule (with_rule (new_app (codes "serve"))
    (number_between 1 65535 (option_rule (codes "port"))))
    (number_between 0 4294967295 (option_rule (codes "connections")))

abbrev pub serve_ending : App
serve_ending =
    with_rule (with_rule serve_without_clock
    (option_rule (codes "day")))
    (number_between 0 4294967295 (option_rule (codes "turns")))

-- and the journal, which one that stays may keep too
abbrev pub serve_noting : App
serve_noting = maybe_journal serve_ending

-- and with what one that stays may take besides: where it listens, where it serves a page, how it keeps its desks, how its
-- clock is moved
abbrev pub serve_listening : App
serve_listening =
    with_rule (with_rule (with_rule serve_noting
    (flag_rule (codes "stay")))
    (option_rule (codes "socket")))
    (flag_rule (codes "group"))

abbrev pub serve_paging : App
serve_paging =
    with_rule (with_rule serve_listening
    (number_between 1 65535 (option_rule (codes "page"))))
    (option_rule (codes "page-host"))

abbrev pub serve_keeping : App
serve_keeping =
    with_rule (with_rule (with_rule serve_paging
    (number_between 1 1000 (option_rule (codes "seats"))))
    (number_between 1 86400 (option_rule (codes "idle"))))
    (flag_rule (codes "quiet"))

abbrev pub serve_app : App
serve_app =
    with_rule (with_rule serve_keeping
    (flag_rule (codes "clock")))
    (number_between 1 3600 (option_rule (codes "every")))

abbrev pub journal_app : App
journal_app =
    with_rule (with_rule (new_app (codes "journal"))
    (needed (word_rule (codes "action"))))
    (needed (word_rule (codes "file")))

-- `casa` has a version; one of its subcommands must be named, and help is shown where there are no words
abbrev pub casa_alone : App
casa_alone =
    let named = new_app (codes "casa") in
    record named { top = record named.top { has_version = true; subcommand_required = true; arg_required_else_help = true } }

-- with an answer to each line, and lines that are made of tables
abbrev pub casa_of_lines : App
casa_of_lines = with_subcommand (with_subcommand casa_alone run_app.top) import_app.top

-- and what is asked of regulations
abbrev pub casa_of_lists : App
casa_of_lists = with_subcommand (with_subcommand (with_subcommand casa_of_lines report_app.top) load_app.top) summary_app.top

-- and what is asked of a flight, of calls, and of two days
abbrev pub casa_of_inquiries : App
casa_of_inquiries = with_subcommand (with_subcommand (with_subcommand casa_of_lists why_app.top) messages_app.top) compare_app.top

abbrev pub whole_app : App
whole_app = with_subcommand (with_subcommand (with_subcommand casa_of_inquiries page_app.top) serve_app.top) journal_app.top
