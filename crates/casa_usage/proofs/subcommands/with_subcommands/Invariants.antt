use Rattle.std.proofs.Common.{◌≡◌, false, drop}
use Rattle.clap.specs.Words.{app_of}
use Rattle.clap.specs.declared.builder.command.Command.TheViews.{out-Command as fields_of}
use Rattle.casa_usage.specs.Subcommands.{with_subcommands}
use Rattle.casa_usage.proofs.subcommands.with_subcommands.Given as goal

abbrev pub invariant-loop-subcommand : goal.invariant-loop-subcommand
invariant-loop-subcommand l =
    (with_subcommands (app_of l.command) (drop l.subcommand-index l.subcommands)
    ≡ with_subcommands (app_of l.fn.alone) l.subcommands)
    × ((fields_of l.command).has_globals ≡ false)
