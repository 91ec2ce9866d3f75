-- the value of a line, from what the reader of JSON promises
use Rattle.std.proofs.Common.{◌≡◌, ℕ, List, Bool, true, false, cond, Option, Some, None, refl}
use Rattle.std.specs.Str.{is_utf8, IsUtf8}
use Rattle.std.proofs.lemmas.Str.{is_utf8-from_IsUtf8, IsUtf8-from_is_utf8}
use Rattle.serde_json.specs.Data.{Data}
use Rattle.serde_json.specs.Read.{read}
use Rattle.casa_wire.specs.Commands.{line_value}

pub some_value : (bytes : List ℕ) (d : Data) → IsUtf8 bytes → read bytes ≡ Some d → line_value bytes ≡ Some d
some_value bytes d utf8 e = rw (is_utf8-from_IsUtf8 bytes utf8) e

no_value_at : (b : Bool) (r : Option Data) → (b ≡ true → r ≡ None) → cond b r None ≡ None
no_value_at true r h = h refl
no_value_at false r h = refl

pub no_value : (bytes : List ℕ) → (IsUtf8 bytes → read bytes ≡ None) → line_value bytes ≡ None
no_value bytes h = no_value_at (is_utf8 bytes) (read bytes) (λ e. h (IsUtf8-from_is_utf8 bytes e))
