use Rattle.std.proofs.Common.{take, sym, ap, arith}
use Rattle.std.proofs.lemmas.List.{take_all}
use Rattle.casa_tape.proofs.Places.{first_place, no_place}
use Rattle.casa_tape.proofs.lines.solid.Goals as goal

pub returns-in-Some : goal.returns-in-Some
returns-in-Some c =
    let bytes = c.args.bytes.now in
    ap (λ n. take n bytes) (sym (first_place 0 bytes c.in-Some.nul c.in-Some.ensures))

pub returns-in-None : goal.returns-in-None
returns-in-None c =
    let bytes = c.args.bytes.now in
    let all = no_place 0 bytes c.in-None.ensures in
    sym (take_all _ bytes (omega (arith, all)))
