use Rattle.std.proofs.Common.{ap, ◌∙◌, None, Some}
use Rattle.std.specs.Option.{option_copied}
use Rattle.casa_view.specs.Board.{versions}
use Rattle.casa_item.specs.Versions.{row_of}
use Rattle.casa_view.proofs.Reading.{row-shown}
use Rattle.casa_view.proofs.board.Board.row.Goals as goal

pub returns-in_err-get : goal.returns-in_err-get
returns-in_err-get g c =
    ap option_copied c.from_residual.ensures
    ∙ row-shown g.K.Version.Version.item_of (versions c.args.self.now.items) c.args.key.now None
    c.in_err-get.ensures.ordered c.in_err-get.ensures.value

pub returns : goal.returns
returns g c =
    c.row_in.ensures ∙ ap row_of c.item.ensures
    ∙ row-shown g.K.Version.Version.item_of (versions c.args.self.now.items) c.args.key.now
    (Some c.in_ok-get.field-0.now) c.in_ok-get.ensures.ordered c.in_ok-get.ensures.value
