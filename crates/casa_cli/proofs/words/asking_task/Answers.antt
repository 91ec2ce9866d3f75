use Rattle.std.proofs.Common.{rules, ◌≡◌, codes, true}
use Rattle.std.specs.Str.{bytes_eq}
use Rattle.clap.specs.Walk.{rows_of}
use Rattle.clap.specs.Words.{found_of}
use Rattle.casa_cli.proofs.Served.{load_checked}
use Rattle.casa_cli.proofs.words.asking_task.Goals as goal

pub load_task-requires : goal.load_task-requires
load_task-requires c =
    let (words, clean, entered) = c.requires in
    let named : bytes_eq c.args.name.now (codes "load") ≡ true = search rules in
    load_checked words c.args.name.now (rows_of (found_of c.args.values.now)) clean entered named
