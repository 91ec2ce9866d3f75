-- inner contracts: columns, one after another
use Rattle.std.specs.Prelude.{ℕ, Bool, ◌==◌, List, ◌++◌, length, bytes_eq, Option, Result, Ok}
use Rattle.casa_filing.specs.Text.{Text}
use Rattle.casa_import.specs.declared.columns.EntryColumns.{EntryColumns}
use Rattle.casa_traffic.specs.declared.titles.TitleFault.{TitleFault}
use Rattle.casa_traffic.specs.Bind.{◌>>=◌}
use Rattle.casa_traffic.specs.Titles.{Header, number_text, pairs}

-- whether a text is a number, or empty where there is none
abbrev pub is_number : Option ℕ → Text → Bool
is_number number text = bytes_eq text (number_text number)

-- these entries, and so many pairs behind them
abbrev pub and_pairs : List EntryColumns → Header → ℕ → ℕ → Result (List EntryColumns) TitleFault
and_pairs entries header first count = pairs header first count >>= (λ more. Ok (entries ++ more))
