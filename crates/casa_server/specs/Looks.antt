-- inner contracts: what the first bytes tell of those behind them
use Rattle.std.specs.Prelude.{ℕ, ◌≡◌, ◌-◌, ◌<◌, List, ◌++◌, length, true, false}
use Rattle.casa_server.specs.declared.guard.Stage.{Stage}
use Rattle.casa_server.specs.declared.guard.Stage.TheVariants.{Looking, Passed, Turned}
use Rattle.casa_server.specs.Requests.{begins_request}

-- no request begins with these bytes, and they are fewer than the longest method and a space
pub record IsOpen (bytes : List ℕ) : Type 0 where
  pub few : length bytes < 8
  pub none : begins_request bytes ≡ false

-- these bytes tell nothing yet; or that no request begins with them, or that one does, whatever comes behind them
abbrev pub Tells : List ℕ → Stage → Type 0
Tells bytes Looking = IsOpen bytes
Tells bytes Passed = (rest : List ℕ) → begins_request (bytes ++ rest) ≡ false
Tells bytes Turned = (rest : List ℕ) → begins_request (bytes ++ rest) ≡ true

-- how often a guard that has read so many bytes may look on
abbrev pub looks_left : Stage → ℕ → ℕ
looks_left Looking n = 9 - n
looks_left Passed n = 0
looks_left Turned n = 0
