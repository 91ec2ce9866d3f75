use Rattle.std.proofs.Common.{ap, refl}
use Rattle.std.specs.Option.{option_and_then}
use Rattle.casa_filing.specs.Text.{Text}
use Rattle.casa_list.specs.Standings.{place_as}
use Rattle.casa_stance.proofs.Standing.{absent_without, put_again}
use Rattle.casa_stance.proofs.stance.make_way.Goals as goal

pub returns-in_default-clause-ungoverned : goal.returns-in_default-clause-ungoverned
returns-in_default-clause-ungoverned c =
    let key : Text = c.args.key.now in
    ap (option_and_then (place_as c.take_out.new.list key)) (absent_without c.args.list.now c.take_out.new.list key c.requires.ordered c.take_out.ensures)

pub returns-in_default-clause-free : goal.returns-in_default-clause-free
returns-in_default-clause-free c =
    λ eto forced. absent_without c.args.list.now c.take_out.new.list c.args.key.now c.requires.ordered c.take_out.ensures

pub returns-in_default-clause-same : goal.returns-in_default-clause-same
returns-in_default-clause-same c =
    put_again c.args.list.now c.take_out.new.list _ c.args.key.now c.args.stance.now c.requires.ordered c.take_out.ensures refl
