use Rattle.std.proofs.Common.{rules, ◌≡◌, ◌++◌, [], sym, ap, ◌∙◌}
use Rattle.std.proofs.lemmas.List.{append-nil}
use Rattle.std.specs.Map.{keys_of}
use Rattle.casa_item.specs.Versions.{row_of}
use Rattle.casa_table.specs.Waiting.{due_row}
use Rattle.casa_table.specs.Flights.{rows_of}
use Rattle.casa_table.proofs.Answered.{kept-kept}
use Rattle.casa_table.proofs.Due.{keys_due}
use Rattle.casa_table.proofs.asking.Shared+OfFlight+V+FlightIndex.due.Goals as goal

pub returns : goal.returns
returns g c =
    let none : keys_of c.loop-key.key-iterator ≡ [] = search rules in
    let all : c.into_iter-key-iterator.result ≡ c.in_ok-found.found.entries = search rules in
    sym (append-nil c.loop-key.keys.items) ∙ ap (λ ks. c.loop-key.keys.items ++ ks) (sym none) ∙ c.loop-key.invariant
    ∙ ap keys_of all ∙ ap keys_of c.in_ok-found.ensures
    ∙ ap keys_of (sym (kept-kept (due_row c.args.at) (λ v. row_of (g.V.Version.item_of v)) c.args.self.now))
    ∙ keys_due c.args.at (rows_of g.V.Version.item_of c.args.self.now)
