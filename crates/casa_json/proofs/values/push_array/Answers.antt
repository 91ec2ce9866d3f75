use Rattle.casa_wire.proofs.Behind.{both, list_text}
use Rattle.casa_json.proofs.values.push_array.Goals as goal

pub returns : goal.returns
returns g c =
    rw (c.in-Some.ensures.cases.0, ← list_text g.T.Json.value c.in-Some.first.now c.in-Some.rest.now)
    (both c.args.out.now.items c.push_json.new.out.items c.push_text-3.new.out.items _ _
    (both c.args.out.now.items c.push_text-2.new.out.items c.push_json.new.out.items _ _ c.in_ok-push_text-2.ensures c.in_ok-push_json.ensures)
    (both c.push_json.new.out.items c.push_more.new.out.items c.push_text-3.new.out.items _ _ c.in_ok-push_more.ensures c.in_ok-push_text-3.ensures))
