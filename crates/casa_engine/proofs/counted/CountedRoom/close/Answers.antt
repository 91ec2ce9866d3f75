use Rattle.std.proofs.Common.{◌≡◌, ap, sym, ◌∙◌, subst}
use Rattle.casa_history.specs.Entries.{entries}
use Rattle.casa_engine.specs.Fronts.{fronts_in, AllBegin}
use Rattle.casa_engine.proofs.counted.CountedRoom.close.Goals as goal

pub returns-clause-known : goal.returns-clause-known
returns-clause-known g c =
    let keeper = c.args.self.keeper in
    let all : keeper ≡ entries c.into_history-history.result =
    c.args.self.kept ∙ ap entries (sym c.into_history-history.ensures.same) in
    subst (AllBegin (fronts_in c.args.passes.items)) all
    (subst (λ desks. AllBegin (fronts_in desks) keeper) c.as_slice.ensures.value c.know_all.ensures.known)
