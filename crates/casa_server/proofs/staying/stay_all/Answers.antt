use Rattle.std.proofs.Common.{map, take, refl, sym, ap, ◌∙◌}
use Rattle.std.proofs.lemmas.List.{length-map}
use Rattle.casa_server.specs.Begun.{source_of}
use Rattle.casa_server.proofs.Seats.{all_sat_in_more, as_many_if_none, stayed}
use Rattle.casa_server.proofs.staying.stay_all.Goals as goal

pub returns : goal.returns
returns g c =
    let seats = c.begin_seats-seats.result.0.items in
    stayed _ _ _ _ g.S.Connections.coming c.see.new.front (map source_of seats) c.args.sources.items _
    c.see.ensures.legal
    (c.begin_seats-seats.ensures.first ∙ ap (λ n. take n c.args.sources.items) (sym (length-map seats source_of)))
    (as_many_if_none _ _ _ _ _ (length-map seats source_of) refl c.begin_seats-seats.ensures.all)
    (all_sat_in_more _ _ _ _ c.end_seats-sats.new.front c.see.new.front _ _ c.see.ensures.longer c.end_seats-sats.ensures.sat)
