use Rattle.std.proofs.Common.{rules, ◌≡◌, ◌∙◌, Some, Err, map, sym, Bor, List, ℕ}
use Rattle.clap.specs.Walk.{rows_of}
use Rattle.clap.specs.Words.{found_of, subcommand_rows_of}
use Rattle.casa_cli.specs.declared.tasks.TaskFault.TheVariants.{Words}
use Rattle.casa_cli.proofs.Refused.{refused_by_clap}
use Rattle.casa_cli.proofs.words.task.Goals as goal

pub named_task-requires : goal.named_task-requires
named_task-requires c =
    let words = map (λ (word : Bor (List ℕ)). word.now) c.args.words.now in
    let read = c.in_ok-matches.ensures.ok in
    let entered : subcommand_rows_of c.in_ok-matches.matches ≡ Some (c.in-Some.name.now, rows_of (found_of c.in-Some.values.now)) = search rules in
    (words, read.0, sym read.1 ∙ entered)

pub returns-in_err-matches-clause-err : goal.returns-in_err-matches-clause-err
returns-in_err-matches-clause-err c =
    let words = map (λ (word : Bor (List ℕ)). word.now) c.args.words.now in
    let (error, of_clap, kinds) = c.in_err-matches.ensures.err in
    let is : c.from_residual.result ≡ Err (Words error) = search rules in
    refused_by_clap words error c.from_residual.result is kinds
