-- to believe: what an engine shows of its state
use Rattle.std.specs.Prelude.{◌≡◌, List, length, Some}
use Rattle.casa_flight.specs.declared.call.Call.{Call}
use Rattle.casa_flight.specs.declared.reply.Reply.{Reply}
use Rattle.casa_flight.specs.declared.state.State.{State}
use Rattle.casa_flight.specs.State.{catalogue}
use Rattle.casa_history.specs.declared.entry.Entry.{Entry}
use Rattle.casa_footprint.specs.Items.{ItemName, contents}
use Rattle.casa_footprint.specs.Stamps.{state_after}
use Rattle.casa_item.specs.declared.item.Item.{Item}
use Rattle.casa_view.specs.declared.view.View.{View}
use Rattle.casa_view.specs.View.{content_shown}
use Rattle.casa_engine.specs.declared.look.Look.{Look}
use Rattle.casa_engine.specs.Delays.{lists_in}

-- what is looked at behind a history: how many entries it has, and of the state to which it leads the clock, the open
-- regulations in the order of their identifiers, and their lists
pub record IsLookBehind (history : List (Entry Call Reply)) (look : Look) : Type 0 where
  pub calls : look.calls ≡ length history
  pub clock : look.clock ≡ (state_after history).clock
  pub regulations : look.regulations.items ≡ catalogue (state_after history)
  pub lists : look.lists.items ≡ lists_in (state_after history)

-- a view has all items of a state, and shows what they contain there
abbrev pub HasAll : {V : Type 0} → (V → Item) → State → View V → Type 0
HasAll item_of m v = (i : ItemName) → content_shown item_of v i ≡ Some (contents m i)
