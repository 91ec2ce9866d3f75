use Rattle.std.proofs.Common.{arith, ◌≡◌, ◌∷◌, [], ◌++◌, length, length-append, append_assoc, append-nil, ap, sym, ◌∙◌}
use Rattle.std.proofs.lemmas.List.{map-append}
use Rattle.casa_server.specs.Begun.{connection_of}
use Rattle.casa_server.proofs.Serving.{none_left, none_ended, one_more_ended, have_ended_in_more}
use Rattle.casa_server.proofs.Ticking.{at_most_one}
use Rattle.casa_server.proofs.begun.end_all.Goals as goal

pub ending-init : goal.ending-init
ending-init g c = (c.into_iter-begun-iterator.ensures.into_iter_gives.0, omega arith, none_ended _ _ _ _ _)

pub overflow_add-faulted : goal.overflow_add-faulted
overflow_add-faulted g c =
    let seen = c.ending.invariant in
    omega (
      arith,
      c.requires,
      ap length seen.0,
      length-append c.ending.yielded c.ending.begun-iterator.rest.items,
      ap length c.in-Some.ensures.steps.0,
      seen.1,
      c.from-faulted.ensures,
      at_most_one c.end.result,
    )

pub ending-preserved : goal.ending-preserved
ending-preserved g c =
    let seen = c.ending.invariant in
    let next = c.in-Some.begun in (
      append_assoc c.ending.yielded (next ∷ []) c.next.new.self.rest.items
          ∙ ap (λ l. c.ending.yielded ++ l) (sym c.in-Some.ensures.steps.0) ∙ seen.0,
      omega (arith, length-append c.ending.yielded (next ∷ []), seen.1, c.from-faulted.ensures, at_most_one c.end.result),
      rw (map-append connection_of c.ending.yielded (next ∷ []))
          (one_more_ended _ _ _ _ _ _ _ _ _ _ (have_ended_in_more _ _ _ _ _ _ _ _ c.end.ensures.longer seen.2)
          c.from-faulted.ensures c.end.ensures.ended),
    )

pub returns : goal.returns
returns g c =
    let seen = c.ending.invariant in
    let gone = c.ending.yielded in
    let rest = c.ending.begun-iterator.rest in
    let none : rest.items ≡ [] = none_left rest.items (sym rest.ok.0 ∙ c.in-None.ensures.steps.0) in
    let all : c.args.all.items ≡ gone = sym seen.0 ∙ ap (λ l. gone ++ l) none ∙ append-nil gone in
    rw all seen.2
