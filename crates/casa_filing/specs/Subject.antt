-- to believe: regulations as the catalogue has them, who is subject to them, and who is due or gone
use Rattle.std.specs.Prelude.{ℕ, Bool, ◌&&◌, nat_le, nat_lt, Option, None, Some, if◌then◌else◌}
use Rattle.std.specs.Option.{option_and_then}
use Rattle.std.specs.List.{find}
use Rattle.casa_time.specs.Due as due
use Rattle.casa_grid.specs.Profile.{start_of, end_of}
use Rattle.casa_filing.specs.declared.plan.Crossing.{Crossing}
use Rattle.casa_filing.specs.declared.regulation.Regulation.{Regulation}
use Rattle.casa_filing.specs.declared.regulation.Measure.{Measure}
use Rattle.casa_filing.specs.Text.{Text, same_text}
use Rattle.casa_filing.specs.FlightPlan.{FlightPlan, etot}

-- a regulation as the catalogue has it: its location, and the start and end of its span
abbrev pub regulation : Text → Measure → Regulation
regulation id measure =
    record { id = id; loc = measure.loc; start = start_of measure.profile; end = end_of measure.profile }

-- whether a crossing is at a location
abbrev pub is_there : Text → Crossing → Bool
is_there loc c = same_text c.loc loc

-- the time over of a crossing that the regulation covers: from its start to before its end
abbrev pub covered : Regulation → Crossing → Option ℕ
covered r c = if nat_le r.start c.eto && nat_lt c.eto r.end then Some c.eto else None

-- a flight is subject to a regulation whose location its plan crosses while it lasts; no plan crosses a location twice, and
-- the planned time over counts, never a delayed one (manual)
abbrev pub subject : FlightPlan → Regulation → Option ℕ
subject plan r = option_and_then (covered r) (find (is_there r.loc) plan.via)

-- due by the clock: to be issued; and gone, when the estimated take-off is before it
abbrev pub is_due : ℕ → FlightPlan → Bool
is_due clock plan = due.is_due clock plan.eobt

abbrev pub is_gone : ℕ → FlightPlan → Bool
is_gone clock plan = due.is_gone clock (etot plan)
