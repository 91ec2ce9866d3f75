-- inner contracts: flights that enter, by what a view shows
use Rattle.std.specs.Prelude.{ℕ, List, [], ◌∷◌, Option, None, Some}
use Rattle.casa_flight.specs.declared.comp.Comp.{Comp}
use Rattle.casa_filing.specs.declared.regulation.Regulation.{Regulation}
use Rattle.casa_flight.specs.declared.row.Row.{Row}
use Rattle.casa_filing.specs.Text.{Text}
use Rattle.casa_flight.specs.State.{ungoverned}
use Rattle.casa_flight.specs.Entry.{Situation, row_after_entry}
use Rattle.casa_plan_spec.specs.Sight.{Sight, Written, row_with, list_with}
use Rattle.casa_plan_spec.specs.Write.{write_flight, stances}

-- flights that enter at this time, with these regulations open
module _ (clock : ℕ) (rs : List Regulation) (v : Sight) where
  -- what such a flight finds once a change is laid over the view
  abbrev pub situation_with : Written → Situation
  situation_with w = record { clock = clock; regulations = rs; lists = list_with v w }

  -- a change once a flight has entered: freed it stood so, and now it stands so
  abbrev pub with_entry : Written → Text → Row → Row → Written
  with_entry w key free new = write_flight v w key (Some new) (stances rs (Some free) (Some new))

  -- a change once the flight under a key enters anew
  abbrev pub with_reentry : Written → Text → Option Row → Written
  with_reentry w key None = w
  with_reentry w key (Some row) = with_entry w key (ungoverned row) (row_after_entry (situation_with w) key (ungoverned row))

  -- a change once these flights enter, one by one
  abbrev pub with_entries : Written → List Comp → Written
  with_entries w [] = w
  with_entries w (c ∷ cs) = with_entries (with_reentry w c.key (row_with v w c.key)) cs
