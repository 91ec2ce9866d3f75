-- to believe: receipts that are given behind a history, to one desk
use Rattle.std.specs.Prelude.{◌≡◌, ℕ, List, map, All}
use Rattle.casa_history.specs.declared.entry.Entry.{Entry}
use Rattle.casa_history.specs.declared.entry.Receipt.{Receipt}

-- the number of the one desk
abbrev pub only_desk : ℕ
only_desk = 0

-- the entries of receipts
abbrev pub entries_in : {C R : Type 0} → List (Receipt C R) → List (Entry C R)
entries_in rs = map (λ (r : Receipt _ _). r.entry) rs

-- inner: all receipts are the one desk's
abbrev pub AreOwn : {C R : Type 0} → List (Receipt C R) → Type 0
AreOwn rs = All (λ (r : Receipt _ _). r.entry.desk ≡ only_desk) rs
