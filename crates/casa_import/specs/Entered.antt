-- to believe: what the laws say of entries: where locations are first named, and when each is first entered
use Rattle.std.specs.Prelude.{ℕ, min, List, [], ◌∷◌, ◌++◌, fold, find, Option, None, Some, option_map, if◌then◌else◌}
use Rattle.std.specs.List.{list_any}
use Rattle.casa_filing.specs.Text.{Text, same_text}
use Rattle.casa_filing.specs.Subject.{is_there}
use Rattle.casa_filing.specs.declared.plan.Crossing.{Crossing}

-- each name once, where it stands first
abbrev pub and_named : List Text → Text → List Text
and_named names name = if list_any (λ known. same_text known name) names then names else names ++ name ∷ []

abbrev pub first_named : List Text → List Text
first_named names = fold and_named [] names

-- the time at which a location stands in a list, if it does
abbrev pub time_at : Text → List Crossing → Option ℕ
time_at loc via = option_map (λ (c : Crossing). c.eto) (find (is_there loc) via)

-- the earlier of two times, where both are there
abbrev pub earlier_of : Option ℕ → Option ℕ → Option ℕ
earlier_of None other = other
earlier_of (Some time) None = Some time
earlier_of (Some time) (Some other) = Some (min time other)

-- the least of the times at which a location is entered, if it is
abbrev pub least_at : Text → List Crossing → Option ℕ
least_at loc [] = None
least_at loc (e ∷ entries) = earlier_of (if same_text e.loc loc then Some e.eto else None) (least_at loc entries)
