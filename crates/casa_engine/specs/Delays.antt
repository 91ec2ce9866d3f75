-- to believe: the delays of lists, and what an audit tells
use Rattle.std.specs.Prelude.{◌≡◌, ℕ, List, length, map, filter, Bool, true, false}
use Rattle.std.specs.List.{sum_by, slice_get}
use Rattle.std.specs.Option.{option_map_or}
use Rattle.std.specs.Borrow.{Bor}
use Rattle.casa_flight.specs.declared.comp.Comp.{Comp}
use Rattle.casa_filing.specs.declared.regulation.Measure.{Measure}
use Rattle.casa_flight.specs.declared.row.Stance.{Stance}
use Rattle.casa_flight.specs.declared.row.Stance.TheVariants.{Competing, Issued, Forced}
use Rattle.casa_flight.specs.declared.state.State.{State}
use Rattle.casa_filing.specs.Text.{Text}
use Rattle.casa_flight.specs.Listing.{Listing, listing, delay_in}
use Rattle.casa_list.specs.declared.list.SlotList.{SlotList}
use Rattle.casa_slots.specs.declared.standing.Standing.{Standing}
use Rattle.casa_list.specs.Standings.{standings}
use Rattle.casa_engine.specs.declared.audit.Audit.{Audit}

-- whether the regulation of its list governs a flight that stands so
abbrev pub is_governed : Stance → Bool
is_governed (Competing eto) = true
is_governed (Issued eto cto) = true
is_governed (Forced eto) = false

-- the delays of the flights that a list's regulation governs, added up
abbrev pub delays : Listing → ℕ
delays l = sum_by (λ (e : Text × Stance). delay_in l e.0) (filter (λ (e : Text × Stance). is_governed e.1) l.flights)

-- the lists of all open regulations
abbrev pub lists_in : State → List Listing
lists_in m = map (λ (e : Text × Measure). listing m.rows e.0 e.1) m.regs

-- an audit of lists tells how many they are, and the sum of the delays of all flights that they govern
pub record IsAuditOf (ls : List Listing) (audit : Audit) : Type 0 where
  pub lists : audit.lists ≡ length ls
  pub delay : audit.delay ≡ sum_by delays ls

-- inner: the delay of flight number n of a list, in the order in which it tells them; 0 where there is none
abbrev pub delay_at : Listing → ℕ → ℕ
delay_at l n = option_map_or (λ (f : Comp × Standing). delay_in l f.0.key) (slice_get (standings l) n) 0

-- inner: the same of a flight by its list and its number there; and of several, added up
abbrev pub numbered_delay : Bor SlotList × ℕ → ℕ
numbered_delay f = delay_at f.0.now f.1

-- inner: the same of several, added up
abbrev pub numbered_delays : List (Bor SlotList × ℕ) → ℕ
numbered_delays fs = sum_by numbered_delay fs
