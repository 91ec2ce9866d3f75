-- inner contracts: what is counted of the lines that come over a connection
use Rattle.std.specs.Prelude.{ℕ, ◌==◌, List, count_by}

-- how many line feeds there are
abbrev pub line_feeds : List ℕ → ℕ
line_feeds bytes = count_by (λ byte. byte == 10) bytes
