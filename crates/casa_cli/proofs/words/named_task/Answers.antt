use Rattle.std.proofs.Common.{rules, ◌≡◌, codes, true}
use Rattle.std.specs.Str.{bytes_eq}
use Rattle.clap.specs.Walk.{rows_of}
use Rattle.clap.specs.Words.{found_of}
use Rattle.casa_cli.proofs.Served.{import_checked, journal_checked, serve_checked}
use Rattle.casa_cli.proofs.words.named_task.Goals as goal

pub serve_task-requires : goal.serve_task-requires
serve_task-requires c =
    let (words, clean, entered) = c.requires in
    let named : bytes_eq c.args.name.now (codes "serve") ≡ true = search rules in
    serve_checked words c.args.name.now (rows_of (found_of c.args.values.now)) clean entered named

pub journal_task-requires : goal.journal_task-requires
journal_task-requires c =
    let (words, clean, entered) = c.requires in
    let named : bytes_eq c.args.name.now (codes "journal") ≡ true = search rules in
    journal_checked words c.args.name.now (rows_of (found_of c.args.values.now)) clean entered named

pub import_task-requires : goal.import_task-requires
import_task-requires c =
    let (words, clean, entered) = c.requires in
    let named : bytes_eq c.args.name.now (codes "import") ≡ true = search rules in
    import_checked words c.args.name.now (rows_of (found_of c.args.values.now)) clean entered named
