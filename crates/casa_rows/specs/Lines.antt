-- to believe: line ends of a text, and on which line a part of it begins
use Rattle.std.specs.Prelude.{◌≡◌, ℕ, ◌+◌, List, ◌++◌, drop, Bool, ◌==◌, ◌||◌}
use Rattle.std.specs.List.{count_by, prefix_len}

abbrev pub is_line_feed : ℕ → Bool
is_line_feed byte = byte == 10

-- a carriage return or a line feed
abbrev pub is_line_end : ℕ → Bool
is_line_end byte = (byte == 13) || (byte == 10)

-- how many of them stand at the beginning of a text
abbrev pub ends_before : List ℕ → ℕ
ends_before text = prefix_len is_line_end text

-- a text from its first byte that ends no line
abbrev pub from_first_line : List ℕ → List ℕ
from_first_line text = drop (ends_before text) text

-- the line on which a text ends: one more than its line feeds
abbrev pub line_behind : List ℕ → ℕ
line_behind text = count_by is_line_feed text + 1

-- this part of a text, with which the text ends, begins on this line
abbrev pub BeginsOnLine : List ℕ → List ℕ → ℕ → Type 0
BeginsOnLine text part line = (before : List ℕ) × (text ≡ before ++ part) × (line ≡ line_behind before)
