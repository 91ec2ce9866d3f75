-- a profile has few slots: no more than seconds
use Rattle.std.proofs.Common.{ℕ, ◌-◌, ◌≤◌, List, [], ◌∷◌, length, arith}
use Rattle.std.below.core.specs.declared.int.u32.TheConstants.{MAX}
use Rattle.casa_grid.specs.declared.period.Period.{Period}
use Rattle.casa_grid.specs.declared.slot.Window.{Window}
use Rattle.casa_grid.specs.Profile.{IsProfile, start_of, end_of}
use Rattle.casa_grid.specs.Slots.{slots}
use Rattle.casa_grid.proofs.Slots.{slots-apart}
use Rattle.casa_grid.proofs.Windows.{AreApart}

apart_few : (start end : ℕ) (ws : List Window) → AreApart start end ws → length ws ≤ end - start
apart_few start end [] h = omega arith
apart_few start end (w ∷ ws) h =
    let rest : length ws ≤ end - w.until = apart_few w.until end ws h.3 in
    omega (arith, rest, h.0, h.1, h.2)

pub few_slots : (ps : List Period) → IsProfile ps → length (slots ps) ≤ MAX
few_slots ps h =
    let few : length (slots ps) ≤ end_of ps - start_of ps = apart_few (start_of ps) (end_of ps) (slots ps) (slots-apart ps h) in
    omega (arith, few, h.short)
