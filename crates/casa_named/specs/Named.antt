-- inner contracts: few values under names, as they are kept
use Rattle.std.specs.Prelude.{◌≡◌, List, [], ◌∷◌, Option, None, Some}
use Rattle.casa_filing.specs.Text.{Text}
use Rattle.casa_flight.specs.Good.{AreInOrder}
use Rattle.casa_named.specs.declared.entries.Left.{Left}
use Rattle.casa_named.specs.declared.entries.Left.TheVariants.{Row as RowLeft, Map as MapLeft, Nothing}
use Rattle.casa_named.specs.declared.others.Others.{Others}
use Rattle.casa_named.specs.declared.others.Others.TheVariants.{Row, Map}

-- the first entry and those behind it; without a first one, nothing
abbrev pub ahead : {E : Type 0} → Option E → List E → List E
ahead None rest = []
ahead (Some e) rest = e ∷ rest

-- the first entry, if there is one, comes before the others, and without a first one there are no others
pub record IsFew {X : Type 0} (first : Option (Text × X)) (others : List (Text × X)) : Type 0 where
  pub ordered : AreInOrder (ahead first others)
  pub alone : first ≡ None → others ≡ []

-- the others, by how they are kept
abbrev pub held : {Kind X : Type 0} → Others Kind X → List (Text × X)
held (Row row) = row
held (Map map) = map.entries

-- what is left of them
abbrev pub left : {Kind X : Type 0} → Left Kind X → List (Text × X)
left (RowLeft row) = row.now
left (MapLeft map) = map
left Nothing = []
