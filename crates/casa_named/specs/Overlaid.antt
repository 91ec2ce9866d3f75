-- inner contracts: values under names, with changes over them
use Rattle.std.specs.Prelude.{List, [], ◌∷◌, map, Option, Some}
use Rattle.casa_filing.specs.Text.{Text, put}

-- the entries with these over them: each takes the place of the one with its name, if there is one
abbrev pub overlay : {X : Type 0} → List (Text × X) → List (Text × X) → List (Text × X)
overlay [] es = es
overlay (w ∷ ws) es = overlay ws (put es w.0 w.1)

-- the entries, each value as one that is there
abbrev pub some_values : {X : Type 0} → List (Text × X) → List (Text × Option X)
some_values {X} es = map (λ (e : Text × X). (e.0, Some e.1)) es
