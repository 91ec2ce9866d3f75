-- inner contracts: entries with changes laid over them
use Rattle.std.specs.Prelude.{List, [], ◌∷◌, Bool, Option, None, Some, if◌then◌else◌}
use Rattle.casa_filing.specs.Text.{Text, same_text, put, without}

-- what stands under each name, with this value in place of that under one name, or with none there
abbrev pub where_put : {X : Type 0} → (Text → Option X) → Text → Option X → Text → Option X
where_put at name w q = if same_text name q then w else at q

-- the entries with this value under the name, or with none
abbrev pub with_value : {X : Type 0} → List (Text × X) → Text → Option X → List (Text × X)
with_value es name None = without es name
with_value es name (Some x) = put es name x

-- the entries after these changes
abbrev pub with_changes : {X : Type 0} → List (Text × Option X) → List (Text × X) → List (Text × X)
with_changes [] es = es
with_changes (w ∷ ws) es = with_changes ws (with_value es w.0 w.1)

-- a table has entries, and those that it will have once it adopts the changes; its base may be sealed
pub record TableEntries (X : Type 0) : Type 0 where
  pub entries : List (Text × X)
  pub next : List (Text × X)
  pub sealed : Bool
