-- to believe: what events do to a day
use Rattle.std.specs.Prelude.{◌≡◌, ℕ, ◌<◌, ◌≤◌, nat_lt, nat_le, ◌&&◌, if◌then◌else◌, fold, List, [], ◌∷◌, ◌++◌, length, map, take, Result, OnOk, OnErr}
use Rattle.casa_history.specs.declared.entry.Entry.{Entry}
use Rattle.casa_commit.specs.declared.world.World.{Ghosts as WorldOf}
use Rattle.casa_commit.specs.Rooms.{entries_of}
use Rattle.casa_day.specs.declared.day.Day.{Day}
use Rattle.casa_day.specs.declared.event.Event.{Event}
use Rattle.casa_day.specs.declared.event.Event.TheVariants.{Answer, Flush, Tell}
use Rattle.casa_day.specs.Journals.{told_of}

-- how far a day is: the calls that were answered, each with its desk, how many the journal has, and the positions that were told
pub record Course (C : Type 0) : Type 0 where
  pub calls : List (ℕ × C)
  pub journaled : ℕ
  pub told : List ℕ

-- the calls of entries, each with its desk
abbrev pub desks_calls : {C R : Type 0} → List (Entry C R) → List (ℕ × C)
desks_calls es = map (λ (e : Entry _ _). (e.desk, e.call)) es

-- how far this day is
abbrev pub course_of : {S W C V G R D : Type 0} {world : WorldOf W C V G R} → Day W S D C V G R world → Course C
course_of day = record { calls = desks_calls (entries_of day.room); journaled = day.journal.journaled; told = told_of day.journal }

-- where so many desks are open: a call is answered; a flush writes all; a reply is told where the journal has its call
abbrev pub step : {C : Type 0} → ℕ → Event C → Course C → Course C
step desks (Answer desk call) a = if nat_lt desk desks then record a { calls = a.calls ++ (desk, call) ∷ [] } else a
step desks Flush a = record a { journaled = length a.calls }
step desks (Tell position) a = if nat_lt 0 position && nat_le position a.journaled then record a { told = a.told ++ position ∷ [] } else a

-- one event after the other
abbrev pub steps : {C : Type 0} → ℕ → List (Event C) → Course C → Course C
steps desks events a = fold (λ so_far event. step desks event so_far) a events

-- The first so many of these events happened, all of them where it ended well, and else the next one failed, of which nothing
-- counts: that led from one course to another.
pub record Happened {C A F : Type 0} (desks : ℕ) (events : List (Event C)) (result : Result A F) (before now : Course C) : Type 0 where
  pub happened : ℕ
  pub within : happened ≤ length events
  pub all : OnOk result (happened ≡ length events)
  pub failed : OnErr result (happened < length events)
  pub leads : now ≡ steps desks (take happened events) before
