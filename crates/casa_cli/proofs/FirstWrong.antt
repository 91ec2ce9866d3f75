-- words ask for what their checks say
use Rattle.std.proofs.Common.{◌≡◌, ◌∙◌, ◌||◌, ◌&&◌, ◌==◌, ℕ, Bool, true, false, not, cond, refl, ap, codes, List, [], ◌∷◌, length, Option, Some, None, Result, is_some, is_none, option_map, true≢false, sym, arith}
use Rattle.std.specs.Prelude.{option_and_then, unwrap_or, Ok, Err}
use Rattle.std.specs.Option.{option_map_or}
use Rattle.std.specs.Str.{bytes_eq}
use Rattle.std.proofs.lemmas.Bool.Decides.{nat_tests}
use Rattle.jiff_fmt.specs.Temporal.{DateParts}
use Rattle.clap.specs.Words.{Row, fault_of, first_of, subcommand_of}
use Rattle.casa_filing.specs.Text.{Text}
use Rattle.casa_usage.specs.Usage.{whole_app}
use Rattle.casa_cli.specs.Words.{Clash, Request, WrongValue, needs, excludes, no_list, no_table, no_port, clashing, run, import, report, load, summary, why, messages, compare, page, serve, stay, check_journal, wrong_reg, wrong_key, wrong_location, wrong_day, wrong_word, request_of, named_request, serve_at, stay_at, or_wrong, ◌>>=◌, number_of, day_in, day_of, name_of, named_in, checked_reg, format_of, messages_format_of, sort_of, order_of, locations_of, taxi_of, step_of, turns_of, connections_of, page_port_of, seats_of, socket_of, every_of, is_given, is_strict, journal_of, word_of, checked_day, clock_for, clash_of}
use Rattle.casa_cli.specs.declared.tasks.Format.{Format}
use Rattle.casa_cli.specs.declared.tasks.Order.{Order}
use Rattle.casa_cli.specs.declared.tasks.Sort.{Sort}
use Rattle.casa_cli.specs.Checks.{AreRead, AreServed, first_wrong, run_checks, run_request, import_checks, import_request, report_checks, report_request, load_checks, load_request, summary_checks, summary_request, messages_checks, messages_request, compare_request, page_checks, page_request, why_checks, why_request, serve_checks, serve_request, stay_checks, stay_request, journal_checks, journal_request, unless_wrong}
use Rattle.casa_cli.proofs.Served.{compare_checked, journal_checked}

pub nothing_asked : (words : List Text) → (fault_of whole_app words ≡ [] → ⊥) → request_of words ≡ None
nothing_asked words h = go (fault_of whole_app words) h
  where
    go : {X : Type 0} (faults : List X) → (faults ≡ [] → ⊥) → cond (length faults == 0) (option_map named_request (subcommand_of whole_app words)) None ≡ None
    go [] h = absurd (h refl)
    go (x ∷ xs) h = let filled : (length (x ∷ xs) == 0) ≡ false = grind (arith, nat_tests) in rw filled refl

asked_of : (words : List Text) (name : Text) (rows : List Row) → AreRead words name rows → request_of words ≡ Some (named_request (name, rows))
asked_of words name rows read = rw (read.0, read.1) refl

-- `run`, by whether force is given alone
by_force : (alone : Bool) (journal : Option (Text × Bool))
    → Some (option_map_or (λ c. Err (clashing c)) (cond alone (Some (needs (codes "force") (codes "journal"))) None) (Ok (run journal)))
    ≡ unless_wrong (first_wrong ((alone, clashing (needs (codes "force") (codes "journal"))) ∷ [])) (Some (run journal))
by_force true journal = refl
by_force false journal = refl

pub run_asked : (words : List Text) (rows : List Row) → AreRead words (codes "run") rows
    → request_of words ≡ unless_wrong (first_wrong (run_checks rows)) (run_request rows)
run_asked words rows read =
    asked_of words (codes "run") rows read
    ∙ by_force (is_given (codes "force") rows && not (is_given (codes "journal") rows)) (journal_of rows)

-- `journal`, by whether it is to check, and by the file, which is there
by_action : (checks : Bool) (path : Option Text) → is_some path ≡ true
    → Some (cond checks (Ok (check_journal (unwrap_or path []))) (Err (wrong_word (codes "action"))))
    ≡ unless_wrong (first_wrong ((not checks, wrong_word (codes "action")) ∷ [])) (option_and_then (λ p. Some (check_journal p)) path)
by_action true None there = absurd (true≢false (sym there))
by_action false None there = refl
by_action true (Some p) there = refl
by_action false (Some p) there = refl

pub journal_asked : (words : List Text) (rows : List Row) → AreRead words (codes "journal") rows
    → request_of words ≡ unless_wrong (first_wrong (journal_checks rows)) (journal_request rows)
journal_asked words rows read =
    asked_of words (codes "journal") rows read
    ∙ by_action (bytes_eq (word_of (codes "action") rows) (codes "check")) (first_of (codes "file") rows)
    (journal_checked words (codes "journal") rows read.0 read.1 refl).1

-- a subcommand with a form, a name and a day, by these
named_and_day : (wrong : WrongValue) (format : Option Format) (name : Option Text) (day : Option DateParts)
    (make : Format → Text → DateParts → Request)
    → Some (or_wrong (wrong_word (codes "format")) format
    >>= (λ f. or_wrong wrong name >>= (λ n. or_wrong wrong_day day >>= (λ d. Ok (make f n d)))))
    ≡ unless_wrong (first_wrong ((is_none format, wrong_word (codes "format")) ∷ (is_none name, wrong) ∷
    (is_none day, wrong_day) ∷ []))
    (option_and_then (λ f. option_and_then (λ n. option_and_then (λ d. Some (make f n d)) day) name) format)
named_and_day wrong None name day make = refl
named_and_day wrong (Some f) None day make = refl
named_and_day wrong (Some f) (Some n) None make = refl
named_and_day wrong (Some f) (Some n) (Some d) make = refl

pub load_asked : (words : List Text) (rows : List Row) → AreRead words (codes "load") rows
    → request_of words ≡ unless_wrong (first_wrong (load_checks rows)) (load_request rows)
load_asked words rows read =
    asked_of words (codes "load") rows read
    ∙ named_and_day wrong_reg (format_of rows) (named_in (codes "reg") rows) (day_in rows)
    (λ format reg day. load reg day (step_of rows) format (is_strict rows))

pub why_asked : (words : List Text) (rows : List Row) → AreRead words (codes "why") rows
    → request_of words ≡ unless_wrong (first_wrong (why_checks rows)) (why_request rows)
why_asked words rows read =
    asked_of words (codes "why") rows read ∙ named_and_day wrong_key (format_of rows) (named_in (codes "key") rows) (day_in rows)
    (λ format key day. why key day format (is_strict rows))

formatted_day : (format : Option Format) (day : Option DateParts) (make : Format → DateParts → Request)
    → Some (or_wrong (wrong_word (codes "format")) format >>= (λ f. or_wrong wrong_day day >>= (λ d. Ok (make f d))))
    ≡ unless_wrong (first_wrong ((is_none format, wrong_word (codes "format")) ∷ (is_none day, wrong_day) ∷ []))
    (option_and_then (λ f. option_and_then (λ d. Some (make f d)) day) format)
formatted_day None day make = refl
formatted_day (Some f) None make = refl
formatted_day (Some f) (Some d) make = refl

day_alone : (day : Option DateParts) (make : DateParts → Request)
    → Some (or_wrong wrong_day day >>= (λ d. Ok (make d)))
    ≡ unless_wrong (first_wrong ((is_none day, wrong_day) ∷ [])) (option_and_then (λ d. Some (make d)) day)
day_alone None make = refl
day_alone (Some d) make = refl

pub summary_asked : (words : List Text) (rows : List Row) → AreRead words (codes "summary") rows
    → request_of words ≡ unless_wrong (first_wrong (summary_checks rows)) (summary_request rows)
summary_asked words rows read =
    asked_of words (codes "summary") rows read
    ∙ formatted_day (format_of rows) (day_in rows) (λ format day. summary day format (is_strict rows))

pub page_asked : (words : List Text) (rows : List Row) → AreRead words (codes "page") rows
    → request_of words ≡ unless_wrong (first_wrong (page_checks rows)) (page_request rows)
page_asked words rows read =
    asked_of words (codes "page") rows read ∙ day_alone (day_in rows) (λ day. page day (is_strict rows))

pub messages_asked : (words : List Text) (rows : List Row) → AreRead words (codes "messages") rows
    → request_of words ≡ unless_wrong (first_wrong (messages_checks rows)) (messages_request rows)
messages_asked words rows read =
    asked_of words (codes "messages") rows read
    ∙ formatted_day (messages_format_of rows) (day_in rows) (λ format day. messages day format (is_strict rows))

-- `compare`, whose files are there
with_files : (format : Option Format) (base variant : Option Text) (day : Option DateParts) (make : Format → Text → Text → DateParts → Request)
    → is_some base ≡ true → is_some variant ≡ true
    → Some (or_wrong (wrong_word (codes "format")) format
    >>= (λ f. or_wrong wrong_day day >>= (λ d. Ok (make f (unwrap_or base []) (unwrap_or variant []) d))))
    ≡ unless_wrong (first_wrong ((is_none format, wrong_word (codes "format")) ∷ (is_none day, wrong_day) ∷ []))
    (option_and_then (λ f. option_and_then (λ b. option_and_then (λ v. option_and_then (λ d. Some (make f b v d)) day) variant) base) format)
with_files format None variant day make b v = absurd (true≢false (sym b))
with_files format (Some base) None day make b v = absurd (true≢false (sym v))
with_files None (Some base) (Some variant) day make b v = refl
with_files (Some f) (Some base) (Some variant) None make b v = refl
with_files (Some f) (Some base) (Some variant) (Some d) make b v = refl

pub compare_asked : (words : List Text) (rows : List Row) → AreRead words (codes "compare") rows
    → request_of words ≡ unless_wrong (first_wrong (summary_checks rows)) (compare_request rows)
compare_asked words rows read =
    let there = compare_checked words (codes "compare") rows read.0 read.1 refl in
    asked_of words (codes "compare") rows read
    ∙ with_files (format_of rows) (first_of (codes "base") rows) (first_of (codes "variant") rows) (day_in rows)
    (λ format base variant day. compare base variant day format (is_strict rows)) there.0 there.1

-- `report`, by whether a regulation and all are given
with_lists : (format : Option Format) (sort : Option Sort) (text : Option Text) (day : Option DateParts)
    (make : Format → Sort → Option Text → DateParts → Request)
    → Some (or_wrong (wrong_word (codes "format")) format >>= (λ f. or_wrong (wrong_word (codes "sort")) sort
    >>= (λ s. checked_reg text >>= (λ r. or_wrong wrong_day day >>= (λ d. Ok (make f s r d))))))
    ≡ unless_wrong (first_wrong ((is_none format, wrong_word (codes "format")) ∷ (is_none sort, wrong_word (codes "sort")) ∷
    (option_map_or (λ t. is_none (name_of t)) text false, wrong_reg) ∷ (is_none day, wrong_day) ∷ []))
    (option_and_then (λ f. option_and_then (λ s. option_and_then (λ d. Some (make f s (option_and_then name_of text) d)) day) sort) format)
with_lists None sort text day make = refl
with_lists (Some f) None text day make = refl
with_lists (Some f) (Some s) None None make = refl
with_lists (Some f) (Some s) None (Some d) make = refl
with_lists (Some f) (Some s) (Some text) day make = named (name_of text) day
  where
    named : (reg : Option Text) (day : Option DateParts)
        → Some (or_wrong wrong_reg (option_map (λ r. Some r) reg) >>= (λ r. or_wrong wrong_day day >>= (λ d. Ok (make f s r d))))
        ≡ unless_wrong (first_wrong ((is_none reg, wrong_reg) ∷ (is_none day, wrong_day) ∷ []))
        (option_and_then (λ d. Some (make f s reg d)) day)
    named None day = refl
    named (Some r) None = refl
    named (Some r) (Some d) = refl

by_lists : (reg all : Bool) (format : Option Format) (sort : Option Sort) (text : Option Text) (day : Option DateParts)
    (make : Format → Sort → Option Text → DateParts → Request)
    → Some (option_map_or (λ c. Err (clashing c))
    (cond (reg && all) (Some (excludes (codes "reg") (codes "all"))) (cond (not reg && not all) (Some no_list) None))
    (or_wrong (wrong_word (codes "format")) format >>= (λ f. or_wrong (wrong_word (codes "sort")) sort
    >>= (λ s. checked_reg text >>= (λ r. or_wrong wrong_day day >>= (λ d. Ok (make f s r d)))))))
    ≡ unless_wrong (first_wrong ((reg && all, clashing (excludes (codes "reg") (codes "all"))) ∷ (not reg && not all, clashing no_list) ∷
    (is_none format, wrong_word (codes "format")) ∷ (is_none sort, wrong_word (codes "sort")) ∷
    (option_map_or (λ t. is_none (name_of t)) text false, wrong_reg) ∷ (is_none day, wrong_day) ∷ []))
    (option_and_then (λ f. option_and_then (λ s. option_and_then (λ d. Some (make f s (option_and_then name_of text) d)) day) sort) format)
by_lists true true format sort text day make = refl
by_lists false false format sort text day make = refl
by_lists true false format sort text day make = with_lists format sort text day make
by_lists false true format sort text day make = with_lists format sort text day make

pub report_asked : (words : List Text) (rows : List Row) → AreRead words (codes "report") rows
    → request_of words ≡ unless_wrong (first_wrong (report_checks rows)) (report_request rows)
report_asked words rows read =
    asked_of words (codes "report") rows read
    ∙ by_lists (is_given (codes "reg") rows) (is_given (codes "all") rows) (format_of rows) (sort_of rows) (first_of (codes "reg") rows)
    (day_in rows) (λ format sort reg day. report reg day sort (number_of (codes "top") rows) format (is_strict rows))

-- `import`, by the files that are given
with_tables : (order : Option Order) (locations : Option (List Text)) (day : Option DateParts) (make : Order → List Text → DateParts → Request)
    → Some (or_wrong (wrong_word (codes "by")) order
    >>= (λ o. or_wrong wrong_location locations >>= (λ l. or_wrong wrong_day day >>= (λ d. Ok (make o l d)))))
    ≡ unless_wrong (first_wrong ((is_none order, wrong_word (codes "by")) ∷ (is_none locations, wrong_location) ∷
    (is_none day, wrong_day) ∷ []))
    (option_and_then (λ o. option_and_then (λ l. option_and_then (λ d. Some (make o l d)) day) locations) order)
with_tables None locations day make = refl
with_tables (Some o) None day make = refl
with_tables (Some o) (Some l) None make = refl
with_tables (Some o) (Some l) (Some d) make = refl

by_tables : (crossings flights regs : Bool) (order : Option Order) (locations : Option (List Text)) (day : Option DateParts)
    (make : Order → List Text → DateParts → Request)
    → Some (option_map_or (λ c. Err (clashing c))
    (cond (crossings && not flights) (Some (needs (codes "crossings") (codes "flights")))
    (cond (not flights && not regs) (Some no_table) None))
    (or_wrong (wrong_word (codes "by")) order
    >>= (λ o. or_wrong wrong_location locations >>= (λ l. or_wrong wrong_day day >>= (λ d. Ok (make o l d))))))
    ≡ unless_wrong (first_wrong ((crossings && not flights, clashing (needs (codes "crossings") (codes "flights"))) ∷
    (not flights && not regs, clashing no_table) ∷ (is_none order, wrong_word (codes "by")) ∷
    (is_none locations, wrong_location) ∷ (is_none day, wrong_day) ∷ []))
    (option_and_then (λ o. option_and_then (λ l. option_and_then (λ d. Some (make o l d)) day) locations) order)
by_tables true false regs order locations day make = refl
by_tables false false false order locations day make = refl
by_tables false false true order locations day make = with_tables order locations day make
by_tables true true regs order locations day make = with_tables order locations day make
by_tables false true regs order locations day make = with_tables order locations day make

pub import_asked : (words : List Text) (rows : List Row) → AreRead words (codes "import") rows
    → request_of words ≡ unless_wrong (first_wrong (import_checks rows)) (import_request rows)
import_asked words rows read =
    asked_of words (codes "import") rows read
    ∙ by_tables (is_given (codes "crossings") rows) (is_given (codes "flights") rows) (is_given (codes "regs") rows) (order_of rows)
    (locations_of rows) (day_in rows) (λ order locations day. import (record {
      flights = first_of (codes "flights") rows;
      crossings = first_of (codes "crossings") rows;
      regs = first_of (codes "regs") rows;
      day = day;
      taxi = taxi_of rows;
      locations = locations;
      order = order;
      is_strict = is_strict rows;
    }))

-- what `serve` asks for, by a clash and by whether it stays
abbrev by_clash : List Row → Option Clash → Bool → Option (Result Request WrongValue)
by_clash rows clash stays = Some (option_map_or (λ c. Err (clashing c)) clash (cond stays (stay_at rows) (serve_at rows)))

pub clash_asked : (words : List Text) (rows : List Row) (clash : Clash) → AreRead words (codes "serve") rows
    → clash_of rows ≡ Some clash → request_of words ≡ Some (Err (clashing clash))
clash_asked words rows clash read found =
    asked_of words (codes "serve") rows read ∙ ap (λ o. by_clash rows o (is_given (codes "stay") rows)) found

unclashed : (words : List Text) (stays : Bool) (rows : List Row) → AreServed words stays rows
    → request_of words ≡ Some (cond stays (stay_at rows) (serve_at rows))
unclashed words stays rows served =
    asked_of words (codes "serve") rows served.0 ∙ ap (λ o. by_clash rows o (is_given (codes "stay") rows)) served.1
    ∙ ap (λ b. by_clash rows None b) served.2

-- a server that ends, by whether no turn is asked for and by the day
with_day : (b : Bool) (day : Option DateParts) (make : Option DateParts → Request)
    → Some (or_wrong wrong_day (option_map (λ d. Some d) day) >>= (λ given. cond (b || is_some given) (Ok given) (Err wrong_day) >>= (λ d. Ok (make d))))
    ≡ unless_wrong (first_wrong ((is_none day, wrong_day) ∷ (not b && false, wrong_day) ∷ [])) (Some (make day))
with_day b None make = refl
with_day true (Some d) make = refl
with_day false (Some d) make = refl

served_at : (b : Bool) (text : Option Text) (make : Option DateParts → Request)
    → Some (checked_day text >>= (λ given. cond (b || is_some given) (Ok given) (Err wrong_day) >>= (λ d. Ok (make d))))
    ≡ unless_wrong (first_wrong ((option_map_or (λ t. is_none (day_of t)) text false, wrong_day) ∷ (not b && is_none text, wrong_day) ∷ []))
    (Some (make (option_and_then day_of text)))
served_at true None make = refl
served_at false None make = refl
served_at b (Some t) make = with_day b (day_of t) make

with_port : (port : Option ℕ) (b : Bool) (text : Option Text) (make : ℕ → Option DateParts → Request)
    → Some (or_wrong (clashing no_port) port >>= (λ p. checked_day text
    >>= (λ given. cond (b || is_some given) (Ok given) (Err wrong_day) >>= (λ d. Ok (make p d)))))
    ≡ unless_wrong (first_wrong ((is_none port, clashing no_port) ∷ (option_map_or (λ t. is_none (day_of t)) text false, wrong_day) ∷
    (not b && is_none text, wrong_day) ∷ [])) (option_and_then (λ p. Some (make p (option_and_then day_of text))) port)
with_port None b text make = refl
with_port (Some p) b text make = served_at b text (make p)

pub serve_asked : (words : List Text) (rows : List Row) → AreServed words false rows
    → request_of words ≡ unless_wrong (first_wrong (serve_checks rows)) (serve_request rows)
serve_asked words rows served =
    unclashed words false rows served
    ∙ with_port (number_of (codes "port") rows) (turns_of rows == 0) (first_of (codes "day") rows)
    (λ port day. serve port (connections_of rows) (turns_of rows) day (journal_of rows))

-- a server that stays, by whether its clock is moved and by the day
moved_by_day : (moves : Bool) (every : ℕ) (day : Option DateParts) (make : Option (DateParts × ℕ) → Request)
    → Some (or_wrong wrong_day (option_map (λ d. Some d) day) >>= (λ given. clock_for moves every given >>= (λ clock. Ok (make clock))))
    ≡ unless_wrong (first_wrong ((is_none day, wrong_day) ∷ (moves && false, wrong_day) ∷ []))
    (Some (make (cond moves (option_map (λ d. (d, every)) day) None)))
moved_by_day true every None make = refl
moved_by_day false every None make = refl
moved_by_day true every (Some d) make = refl
moved_by_day false every (Some d) make = refl

stayed_at : (moves : Bool) (every : ℕ) (text : Option Text) (make : Option (DateParts × ℕ) → Request)
    → Some (checked_day text >>= (λ given. clock_for moves every given >>= (λ clock. Ok (make clock))))
    ≡ unless_wrong (first_wrong ((option_map_or (λ t. is_none (day_of t)) text false, wrong_day) ∷ (moves && is_none text, wrong_day) ∷ []))
    (Some (make (cond moves (option_map (λ d. (d, every)) (option_and_then day_of text)) None)))
stayed_at true every None make = refl
stayed_at false every None make = refl
stayed_at moves every (Some t) make = moved_by_day moves every (day_of t) make

pub stay_asked : (words : List Text) (rows : List Row) → AreServed words true rows
    → request_of words ≡ unless_wrong (first_wrong (stay_checks rows)) (stay_request rows)
stay_asked words rows served =
    unclashed words true rows served
    ∙ stayed_at (is_given (codes "clock") rows) (every_of rows) (first_of (codes "day") rows) (λ clock. stay (record {
      port = number_of (codes "port") rows;
      socket = socket_of rows;
      page = page_port_of rows;
      seats = seats_of rows;
      idle = number_of (codes "idle") rows;
      quiet = is_given (codes "quiet") rows;
      clock = clock;
      journal = journal_of rows;
    }))
