use Rattle.std.proofs.Common.{◌≡◌, true}
use Rattle.std.specs.Option.{option_map}
use Rattle.casa_filing.specs.Text.{Text, at_name}
use Rattle.casa_table.specs.Same.{same_version}
use Rattle.casa_table.proofs.validation.same_values.Given as goal

abbrev pub invariant-loop-name : goal.invariant-loop-name
invariant-loop-name g l =
    (q : Text)
    → (same_version g.V.Version.is_same (at_name l.name-iterator q) (at_name l.others q) ≡ true)
    × (option_map g.V.Version.item_of (at_name l.name-iterator q) ≡ option_map g.V.Version.item_of (at_name l.others q))
    → (same_version g.V.Version.is_same (at_name l.ours.entries q) (at_name l.theirs.entries q) ≡ true)
    × (option_map g.V.Version.item_of (at_name l.ours.entries q)
    ≡ option_map g.V.Version.item_of (at_name l.theirs.entries q))
