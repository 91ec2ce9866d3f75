use Rattle.std.proofs.Common.{rules, ◌≡◌, ◌∙◌, pos}
use Rattle.std.specs.Int.{int_max, int_min}
use Rattle.clap.specs.Values.{signed_between}
use Rattle.clap.specs.declared.builder.value_parser.ValueParser.TheVariants.{Signed}
use Rattle.casa_usage.proofs.Bounds.{bounds_kept}
use Rattle.casa_usage.proofs.arguments.number_option.Goals as goal

pub returns-clause-rule : goal.returns-clause-rule
returns-clause-rule c =
    let narrowed : c.range.result ≡ signed_between (int_max (pos 0) (pos c.args.least)) (int_min (pos 4294967295) (pos c.args.most)) = search rules in
    let kept : c.range.result ≡ Signed (pos c.args.least) (pos c.args.most) =
    narrowed ∙ bounds_kept c.args.least c.args.most c.ranges.least.fits c.ranges.most.fits in
    search rules
