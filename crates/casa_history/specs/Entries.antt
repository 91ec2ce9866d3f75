-- to believe: entries, receipts, and the receipts of a desk's entries
use Rattle.std.specs.Prelude.{ℕ, ◌+◌, ◌-◌, ◌<◌, ◌==◌, Bool, if◌then◌else◌, Option, None, slice_get, List, [], ◌∷◌, filter, length, vec_len, vec_capacity}
use Rattle.std.specs.Option.{option_map_or}
use Rattle.casa_history.specs.declared.entry.Entry.{Entry}
use Rattle.casa_history.specs.declared.entry.Receipt.{Receipt}
use Rattle.casa_history.specs.declared.history.History.{History}
use Rattle.casa_history.specs.declared.pass.Pass.{Pass}

-- the entries of a history, oldest first
abbrev pub entries : {C R : Type 0} → History C R → List (Entry C R)
entries h = h.entries.items

-- the receipts of a pass, oldest first
abbrev pub receipts : {C R : Type 0} → Pass C R → List (Receipt C R)
receipts p = p.receipts.items

-- the number of the engine that gave a pass
abbrev pub number_of : {C R : Type 0} → Pass C R → ℕ
number_of p = p.number

-- the number of the desk that has a pass
abbrev pub desk_of : {C R : Type 0} → Pass C R → ℕ
desk_of p = p.desk

-- a history has room for one more entry
abbrev pub HasRoomForEntry : {C R : Type 0} → History C R → Type 0
HasRoomForEntry h = vec_len h.entries < vec_capacity h.entries

-- a pass has room for one more receipt
abbrev pub HasRoomForReceipt : {C R : Type 0} → Pass C R → Type 0
HasRoomForReceipt p = vec_len p.receipts < vec_capacity p.receipts

-- the entry at a position, counted from 1
abbrev pub entry_at : {C R : Type 0} → ℕ → List (Entry C R) → Option (Entry C R)
entry_at position es = if position == 0 then None else slice_get es (position - 1)

-- the receipt of an entry at a position
abbrev pub receipt : {C R : Type 0} → ℕ → Entry C R → Receipt C R
receipt position e = record { position = position; entry = e }

-- the receipts of entries of which the first stands at this position
abbrev pub receipts_from : {C R : Type 0} → ℕ → List (Entry C R) → List (Receipt C R)
receipts_from position [] = []
receipts_from position (e ∷ es) = receipt position e ∷ receipts_from (position + 1) es

-- whether a receipt is a desk's
abbrev pub is_of_desk : {C R : Type 0} → ℕ → Receipt C R → Bool
is_of_desk d r = r.entry.desk == d

-- a desk's entries in a history, with their positions
abbrev pub receipts_of : {C R : Type 0} → ℕ → List (Entry C R) → List (Receipt C R)
receipts_of d es = filter (is_of_desk d) (receipts_from 1 es)

-- the last of a list of receipts
abbrev pub latest : {C R : Type 0} → List (Receipt C R) → Option (Receipt C R)
latest rs = slice_get rs (length rs - 1)

-- the position of the last of a list of receipts, 0 if there is none
abbrev pub last_position : {C R : Type 0} → List (Receipt C R) → ℕ
last_position rs = option_map_or (λ (r : Receipt _ _). r.position) (latest rs) 0
