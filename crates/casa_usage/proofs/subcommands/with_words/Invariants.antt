use Rattle.std.proofs.Common.{◌≡◌, false, drop}
use Rattle.clap.specs.Words.{app_of}
use Rattle.clap.specs.declared.builder.command.Command.TheViews.{out-Command as fields_of}
use Rattle.casa_usage.specs.Subcommands.{with_words}
use Rattle.casa_usage.proofs.subcommands.with_words.Given as goal

abbrev pub invariant-loop-word : goal.invariant-loop-word
invariant-loop-word l = (with_words (app_of l.command) (drop l.word-index l.words) ≡ with_words (app_of l.fn.subcommand) l.words)
    × ((fields_of l.command).has_globals ≡ false)
