-- to believe: what functions say that may run out of memory
use Rattle.std.specs.Prelude.{◌≡◌, Result, Ok, Err}
use Rattle.casa_traffic.specs.declared.titles.ColumnsFault.{ColumnsFault}
use Rattle.casa_traffic.specs.declared.titles.ColumnsFault.TheVariants.{Title, NoMemory}
use Rattle.casa_traffic.specs.declared.titles.TitleFault.{TitleFault}

-- inner: what a function returned, as `view` sees it, is the meaning; nothing is claimed where memory is refused
abbrev pub GivesAs : {X Y : Type 0} → (X → Y) → Result X ColumnsFault → Result Y TitleFault → Type 0
GivesAs view (Ok x) meaning = meaning ≡ Ok (view x)
GivesAs view (Err (Title fault)) meaning = meaning ≡ Err fault
GivesAs view (Err NoMemory) meaning = Unit {0}
