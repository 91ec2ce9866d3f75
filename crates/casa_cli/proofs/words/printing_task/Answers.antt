use Rattle.std.proofs.Common.{rules, ◌≡◌, codes, true}
use Rattle.std.specs.Str.{bytes_eq}
use Rattle.clap.specs.Walk.{rows_of}
use Rattle.clap.specs.Words.{found_of}
use Rattle.casa_cli.proofs.Served.{compare_checked, report_checked}
use Rattle.casa_cli.proofs.words.printing_task.Goals as goal

pub compare_task-requires : goal.compare_task-requires
compare_task-requires c =
    let (words, clean, entered) = c.requires in
    let named : bytes_eq c.args.name.now (codes "compare") ≡ true = search rules in
    compare_checked words c.args.name.now (rows_of (found_of c.args.values.now)) clean entered named

pub report_task-requires : goal.report_task-requires
report_task-requires c =
    let (words, clean, entered) = c.requires in
    let named : bytes_eq c.args.name.now (codes "report") ≡ true = search rules in
    report_checked words c.args.name.now (rows_of (found_of c.args.values.now)) clean entered named
