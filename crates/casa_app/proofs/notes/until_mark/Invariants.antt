use Rattle.std.proofs.Common.{◌≡◌, ℕ, ◌<◌, false, get_or}
use Rattle.casa_app.specs.Remarks.{is_mark}
use Rattle.casa_app.proofs.notes.until_mark.Given as goal

abbrev pub invariant-bytes : goal.invariant-bytes
invariant-bytes l = (k : ℕ) → k < l.at → is_mark (get_or l.text k 0) ≡ false
