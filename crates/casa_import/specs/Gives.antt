-- to believe: what functions say that may run out of memory
use Rattle.std.specs.Prelude.{◌≡◌, Result, Ok, Err}
use Rattle.casa_import.specs.declared.reason.Reason.{Reason}
use Rattle.casa_import.specs.declared.reason.RowFault.{RowFault}
use Rattle.casa_import.specs.declared.reason.RowFault.TheVariants.{LeftOut, NoMemory}

-- what a function returned, as `view` sees it, is the meaning; nothing is claimed where memory is refused
abbrev pub GivesAs : {X Y : Type 0} → (X → Y) → Result X RowFault → Result Y Reason → Type 0
GivesAs view (Ok x) meaning = meaning ≡ Ok (view x)
GivesAs view (Err (LeftOut reason)) meaning = meaning ≡ Err reason
GivesAs view (Err NoMemory) meaning = Unit {0}

abbrev pub Gives : {X : Type 0} → Result X RowFault → Result X Reason → Type 0
Gives result meaning = GivesAs (λ x. x) result meaning
