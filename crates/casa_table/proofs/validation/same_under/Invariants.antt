use Rattle.std.proofs.Common.{◌≡◌, true, Some}
use Rattle.std.specs.Option.{option_map}
use Rattle.casa_filing.specs.Text.{Text, at_name}
use Rattle.casa_table.specs.Same.{same_version}
use Rattle.casa_table.proofs.validation.same_under.Given as goal

abbrev pub invariant-loop-name : goal.invariant-loop-name
invariant-loop-name g l =
    (q : Text) → ((x : _) → at_name l.name-iterator q ≡ Some x
    → (same_version g.V.Version.is_same (at_name l.table.entries q) (at_name l.shared q) ≡ true)
    × (option_map g.V.Version.item_of (at_name l.table.entries q)
    ≡ option_map g.V.Version.item_of (at_name l.shared q)))
    → (x : _) → at_name l.entries.entries q ≡ Some x
    → (same_version g.V.Version.is_same (at_name l.table.entries q) (at_name l.shared q) ≡ true)
    × (option_map g.V.Version.item_of (at_name l.table.entries q) ≡ option_map g.V.Version.item_of (at_name l.shared q))
