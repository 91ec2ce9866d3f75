use Rattle.std.proofs.Common.{rules, ◌≡◌, ◌∙◌, Some, None, ap, sym}
use Rattle.clap.specs.Words.{found_of}
use Rattle.clap.specs.declared.parser.matches.ValueSource.TheVariants.{CommandLine, DefaultValue}
use Rattle.casa_cli.specs.Words.{is_of_words}
use Rattle.casa_cli.proofs.Given.{given_by}
use Rattle.casa_cli.proofs.values.is_given.Goals as goal

pub returns-in-Some-CommandLine : goal.returns-in-Some-CommandLine
returns-in-Some-CommandLine c =
    let is : c.value_source.result ≡ Some CommandLine = search rules in
    sym (ap is_of_words is) ∙ given_by (found_of c.args.values.now) c.args.name.now c.value_source.result c.value_source.ensures

pub returns-in-Some-DefaultValue : goal.returns-in-Some-DefaultValue
returns-in-Some-DefaultValue c =
    let is : c.value_source.result ≡ Some DefaultValue = search rules in
    sym (ap is_of_words is) ∙ given_by (found_of c.args.values.now) c.args.name.now c.value_source.result c.value_source.ensures

pub returns-in-None : goal.returns-in-None
returns-in-None c =
    let is : c.value_source.result ≡ None = search rules in
    sym (ap is_of_words is) ∙ given_by (found_of c.args.values.now) c.args.name.now c.value_source.result c.value_source.ensures
