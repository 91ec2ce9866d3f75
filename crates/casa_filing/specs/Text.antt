-- to believe: names, and maps by names
use Rattle.std.specs.Prelude.{ℕ, List, length, Bool, ◌&&◌, ◌||◌, ◌==◌, nat_le, nat_lt, Option}
use Rattle.std.specs.List.{list_all}
use Rattle.std.specs.Map.{lookup, remove_entry}
use Rattle.std.specs.BTreeMap.{insert_entry, is_at}
use Rattle.std.specs.Cmp.Lexicographic.{pointwise, slice_cmp}
use Rattle.std.specs.Ordering.{nat_cmp}

-- keys, locations and identifiers are texts, byte by byte
abbrev pub Text : Type 0
Text = List ℕ

-- a character of A to Z or 0 to 9
abbrev pub is_name_byte : ℕ → Bool
is_name_byte b = (nat_le 48 b && nat_le b 57) || (nat_le 65 b && nat_le b 90)

-- 1 to 10 characters of A to Z and 0 to 9 (profile)
abbrev pub is_name : Text → Bool
is_name t = nat_lt 0 (length t) && (nat_le (length t) 10 && list_all is_name_byte t)

abbrev pub same_text : Text → Text → Bool
same_text a b = pointwise ◌==◌ a b

-- what a map has under a name, its entries being in the order of their names
abbrev pub at_name : {X : Type 0} → List (Text × X) → Text → Option X
at_name es name = lookup (is_at (slice_cmp nat_cmp name)) es

-- the map with this entry, in place of the one with the same name if there is one
abbrev pub put : {X : Type 0} → List (Text × X) → Text → X → List (Text × X)
put es name x = insert_entry (slice_cmp nat_cmp) es name x

-- the map with no entry of that name
abbrev pub without : {X : Type 0} → List (Text × X) → Text → List (Text × X)
without es name = remove_entry (is_at (slice_cmp nat_cmp name)) es
