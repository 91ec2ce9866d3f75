-- inner contracts: the subcommands of a table, as clap is told of them
use Rattle.std.specs.Prelude.{List, [], ◌∷◌}
use Rattle.clap.specs.Words.{App, Rule, new_app, with_rule, with_subcommand}
use Rattle.casa_usage.specs.Usage.{flag_rule, needed, number_between, option_rule, word_rule}
use Rattle.casa_usage.specs.declared.subcommands.Subcommand.{Subcommand}
use Rattle.casa_usage.specs.declared.subcommands.Word.{Word}
use Rattle.casa_usage.specs.declared.subcommands.Word.TheVariants.{Alone, Flag, Needed, Number, Port, Value}

-- what clap is told of a word
abbrev pub rule_told : Word → Rule
rule_told (Flag name text) = flag_rule name.now
rule_told (Value name value text) = option_rule name.now
rule_told (Needed name value text) = needed (option_rule name.now)
rule_told (Alone name value text) = needed (word_rule name.now)
rule_told (Number name value text least most) = number_between least most (option_rule name.now)
rule_told (Port name value text) = number_between 1 65535 (option_rule name.now)

-- a subcommand with these words, one behind the other
abbrev pub with_words : App → List Word → App
with_words app [] = app
with_words app (word ∷ words) = with_words (with_rule app (rule_told word)) words

-- what clap is told of a subcommand
abbrev pub app_told : Subcommand → App
app_told subcommand = with_words (new_app subcommand.name.now) subcommand.words.now

-- a command with these subcommands, one behind the other
abbrev pub with_subcommands : App → List Subcommand → App
with_subcommands app [] = app
with_subcommands app (subcommand ∷ subcommands) =
    with_subcommands (with_subcommand app (app_told subcommand).top) subcommands
