-- footprints and stamps, computed
use Rattle.std.specs.Prelude.{◌≡◌, ℕ, List, [], ◌∷◌, ◌++◌, map, Bool, true, false, not, ◌||◌, ◌==◌, refl, codes}
use Rattle.std.specs.List.{list_all}
use Rattle.casa_flight.specs.declared.call.Call.{Call}
use Rattle.casa_flight.specs.declared.call.Call.TheVariants.{File, Cancel, OpenReg, Rates, Tick, Show, List as ListOf, Swap}
use Rattle.casa_filing.specs.declared.plan.Crossing.{Crossing}
use Rattle.casa_filing.specs.declared.plan.Sts.TheVariants.{Plain}
use Rattle.casa_flight.specs.declared.reply.Reply.{Reply}
use Rattle.casa_flight.specs.declared.state.State.{State}
use Rattle.casa_filing.specs.Text.{Text}
use Rattle.casa_filing.specs.FlightPlan.{FlightPlan}
use Rattle.casa_flight.specs.State.{empty}
use Rattle.casa_flight.specs.Steps.{next}
use Rattle.casa_flight.specs.Replies.{reply}
use Rattle.casa_footprint.specs.Items.{ItemName, the_clock, the_catalogue, a_row, a_list}
use Rattle.casa_footprint.specs.Footprint.{reads, writes}
use Rattle.casa_history.specs.declared.entry.Entry.{Entry}
use Rattle.casa_footprint.specs.Stamps.{state_after, stamp}

-- the entries of these calls, replied to as the sequential allocator replies in this state
abbrev entries : State → List Call → List (Entry Call Reply)
entries m [] = []
entries m (c ∷ cs) = record { desk = 0; call = c; reply = reply m c } ∷ entries (next m c) cs

abbrev la : Text
la = codes "LA"

abbrev lb : Text
lb = codes "LB"

abbrev r1 : Text
r1 = codes "R1"

abbrev r2 : Text
r2 = codes "R2"

abbrev over : Text → ℕ → Crossing
over loc eto = record { loc = loc; eto = eto }

-- a plan from 30000, with ten minutes of taxi
abbrev plan : Text → List Crossing → FlightPlan
plan key via = record { key = key; eobt = 30000; taxi = 600; via = via; sts = Plain }

abbrev opening : Text → Text → ℕ → ℕ → Call
opening id loc from until = OpenReg id loc (record { begin = from; until = until; rate = 30 } ∷ [])

-- A has a place in R1 and is forced in R2; D has one in R2; B is governed by R2 and forced in R1
abbrev busy : List (Entry Call Reply)
busy = entries empty (opening r1 la 36000 37200 ∷ opening r2 lb 36600 37800 ∷ File (plan (codes "A") (over la 36010 ∷ over lb 36610 ∷ [])) ∷ File (plan (codes "D") (over lb 36601 ∷ [])) ∷ File (plan (codes "B") (over la 36005 ∷ over lb 36615 ∷ [])) ∷ [])

abbrev items : List ItemName
items = the_clock ∷ the_catalogue ∷ a_row (codes "A") ∷ a_row (codes "B") ∷ a_row (codes "C") ∷ a_row (codes "D") ∷ a_list r1 ∷ a_list r2 ∷ a_list (codes "R3") ∷ []

-- B's delay is in R2's list
show_reads : map (reads (state_after busy) (Show (codes "B"))) items ≡ false ∷ false ∷ false ∷ true ∷ false ∷ false ∷ false ∷ true ∷ false ∷ []
show_reads = refl

-- R1 shows B with the delay that it has in R2
list_reads : map (reads (state_after busy) (ListOf r1)) items ≡ false ∷ true ∷ false ∷ true ∷ false ∷ false ∷ true ∷ true ∷ false ∷ []
list_reads = refl

-- C crosses LB alone
file_writes : map (writes (state_after busy) (File (plan (codes "C") (over lb 36700 ∷ [])))) items ≡ false ∷ false ∷ false ∷ false ∷ true ∷ false ∷ false ∷ true ∷ false ∷ []
file_writes = refl

refused_writes : map (writes (state_after busy) (File (plan (codes "B") (over lb 36700 ∷ [])))) items ≡ false ∷ false ∷ false ∷ false ∷ false ∷ false ∷ false ∷ false ∷ false ∷ []
refused_writes = refl

-- all three become issued
tick_writes : map (writes (state_after busy) (Tick 22800)) items ≡ true ∷ false ∷ true ∷ true ∷ false ∷ true ∷ true ∷ true ∷ false ∷ []
tick_writes = refl

-- B and C have places in R2, C before B; with A and D they are issued
abbrev due : List (Entry Call Reply)
due = busy ++ entries (state_after busy) (File (plan (codes "C") (over lb 36602 ∷ [])) ∷ Tick 22800 ∷ [])

swap_reads : map (reads (state_after due) (Swap (codes "C") (codes "B"))) items ≡ true ∷ false ∷ false ∷ true ∷ true ∷ false ∷ false ∷ true ∷ false ∷ []
swap_reads = refl

swap_writes : map (writes (state_after due) (Swap (codes "C") (codes "B"))) items ≡ false ∷ false ∷ false ∷ true ∷ true ∷ false ∷ false ∷ true ∷ false ∷ []
swap_writes = refl

-- R1 governs A
apart_reads : map (reads (state_after due) (Swap (codes "A") (codes "B"))) items ≡ true ∷ false ∷ true ∷ true ∷ false ∷ false ∷ true ∷ true ∷ false ∷ []
apart_reads = refl

apart_writes : map (writes (state_after due) (Swap (codes "A") (codes "B"))) items ≡ false ∷ false ∷ false ∷ false ∷ false ∷ false ∷ false ∷ false ∷ false ∷ []
apart_writes = refl

-- C crosses LA after the end of R1
abbrev beyond : List (Entry Call Reply)
beyond = busy ++ entries (state_after busy) (File (plan (codes "C") (over la 37300 ∷ [])) ∷ [])

-- twice the rate for R1
abbrev rates : ℕ → ℕ → Call
rates from until = Rates r1 (record { begin = from; until = until; rate = 60 } ∷ [])

same_end_reads : map (reads (state_after beyond) (rates 36000 37200)) items ≡ false ∷ true ∷ false ∷ false ∷ false ∷ false ∷ true ∷ false ∷ false ∷ []
same_end_reads = refl

same_end_writes : map (writes (state_after beyond) (rates 36000 37200)) items ≡ false ∷ false ∷ false ∷ false ∷ false ∷ false ∷ true ∷ false ∷ false ∷ []
same_end_writes = refl

-- with a later end C enters
later_end_reads : map (reads (state_after beyond) (rates 36000 38400)) items ≡ true ∷ true ∷ true ∷ true ∷ true ∷ true ∷ true ∷ true ∷ true ∷ []
later_end_reads = refl

later_end_writes : map (writes (state_after beyond) (rates 36000 38400)) items ≡ false ∷ true ∷ false ∷ false ∷ true ∷ false ∷ true ∷ false ∷ false ∷ []
later_end_writes = refl

-- and none where C's time over is the new end
at_the_end_writes : map (writes (state_after beyond) (rates 36000 37300)) items ≡ false ∷ true ∷ false ∷ false ∷ false ∷ false ∷ true ∷ false ∷ false ∷ []
at_the_end_writes = refl

-- an earlier end, and another start, are refused
earlier_end_writes : map (writes (state_after beyond) (rates 36000 37140)) items ≡ false ∷ false ∷ false ∷ false ∷ false ∷ false ∷ false ∷ false ∷ false ∷ []
earlier_end_writes = refl

other_start_writes : map (writes (state_after beyond) (rates 36060 38400)) items ≡ false ∷ false ∷ false ∷ false ∷ false ∷ false ∷ false ∷ false ∷ false ∷ []
other_start_writes = refl

stamps : map (stamp busy) items ≡ 0 ∷ 2 ∷ 3 ∷ 5 ∷ 0 ∷ 4 ∷ 5 ∷ 5 ∷ 0 ∷ []
stamps = refl

-- whether what the call reads after these entries has the same stamps after some more calls, among these items
abbrev is_unmoved_by : List (Entry Call Reply) → List Call → Call → Bool
is_unmoved_by history calls call =
    list_all (λ (i : ItemName). not (reads (state_after history) call i) || (stamp history i == stamp (history ++ entries (state_after history) calls) i)) items

abbrev plain : Call
plain = File (plan (codes "C") [])

-- an equal Tick moves a view of the clock, and none without the clock
equal_tick : is_unmoved_by busy (Tick 0 ∷ []) plain ≡ false
equal_tick = refl

equal_tick_aside : is_unmoved_by busy (Tick 0 ∷ []) (Show (codes "B")) ≡ true
equal_tick_aside = refl

-- a filing and a cancelling without crossings leave a Tick's view unmoved, and the filing alone does not
come_and_gone : is_unmoved_by busy (plain ∷ Cancel (codes "C") ∷ []) (Tick 0) ≡ true
come_and_gone = refl

come : is_unmoved_by busy (plain ∷ []) (Tick 0) ≡ false
come = refl

-- a filing at another location leaves a filing's view unmoved, and one at the same location does not
elsewhere : is_unmoved_by busy (File (plan (codes "C") (over la 36300 ∷ [])) ∷ []) (File (plan (codes "E") (over lb 36700 ∷ []))) ≡ true
elsewhere = refl

at_the_same : is_unmoved_by busy (File (plan (codes "C") (over lb 36650 ∷ [])) ∷ []) (File (plan (codes "E") (over lb 36700 ∷ []))) ≡ false
at_the_same = refl

-- so it is with a swap: an equal Tick moves its view, and of the filings only one at its location
swap_later : is_unmoved_by due (Tick 22800 ∷ []) (Swap (codes "C") (codes "B")) ≡ false
swap_later = refl

swap_elsewhere : is_unmoved_by due (File (plan (codes "E") (over la 36300 ∷ [])) ∷ []) (Swap (codes "C") (codes "B")) ≡ true
swap_elsewhere = refl

swap_there : is_unmoved_by due (File (plan (codes "E") (over lb 36700 ∷ [])) ∷ []) (Swap (codes "C") (codes "B")) ≡ false
swap_there = refl

-- a filing without crossings leaves a view for new rates with the same end unmoved, and one for a later end it does not
same_end_aside : is_unmoved_by busy (plain ∷ []) (rates 36000 37200) ≡ true
same_end_aside = refl

later_end_moved : is_unmoved_by busy (plain ∷ []) (rates 36000 38400) ≡ false
later_end_moved = refl
