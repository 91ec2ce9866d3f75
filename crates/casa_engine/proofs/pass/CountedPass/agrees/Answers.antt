use Rattle.std.proofs.Common.{inl, inr}
use Rattle.casa_history.specs.Entries.{receipts, desk_of}
use Rattle.casa_engine.proofs.Seeing.{stand_behind, begins_itself}
use Rattle.casa_engine.proofs.pass.CountedPass.agrees.Goals as goal

-- the longer one of the two is the history
pub returns-clause-history : goal.returns-clause-history
returns-clause-history g c =
    let one = c.args.self.now in
    let other = c.args.other.now in
    elim (c.agrees.ensures) [
      | inl p ↦ (
        other.front,
        other.legal,
        record { seen = p; stand = stand_behind (desk_of one.pass) (receipts one.pass) one.front other.front one.told p },
        record {
          seen = begins_itself other.front;
          stand = stand_behind (desk_of other.pass) (receipts other.pass) other.front other.front other.told
              (begins_itself other.front);
        },
      )
      | inr p ↦ (
        one.front,
        one.legal,
        record {
          seen = begins_itself one.front;
          stand = stand_behind (desk_of one.pass) (receipts one.pass) one.front one.front one.told (begins_itself one.front);
        },
        record { seen = p; stand = stand_behind (desk_of other.pass) (receipts other.pass) other.front one.front other.told p },
      )
    ]
