-- inner contracts: flights by their keys
use Rattle.std.specs.Prelude.{List, [], Bool}
use Rattle.std.specs.List.{fold}
use Rattle.std.specs.Cmp.Lexicographic.{slice_cmp}
use Rattle.std.specs.Ordering.{nat_cmp, is_lt}
use Rattle.casa_flight.specs.declared.row.Stance.{Stance}
use Rattle.casa_filing.specs.Text.{Text, put}

-- to believe: flights that come in any order, by their keys: of several with one key, the last
abbrev pub by_key : List (Text × Stance) → List (Text × Stance)
by_key flights = fold (λ (es : List (Text × Stance)) (e : Text × Stance). put es e.0 e.1) [] flights

-- whether the key of the one comes before that of the other
abbrev pub key_before : Text × Stance → Text × Stance → Bool
key_before a b = is_lt (slice_cmp nat_cmp a.0 b.0)
