-- JSON texts, part by part
use Rattle.std.proofs.Common.{◌≡◌, ◌++◌, append_assoc, append-nil, refl}
use Rattle.std.specs.Prelude.{[], codes}
use Rattle.serde_json.specs.Written.{compact_text}
use Rattle.serde_json.proofs.OnLiterals.{serde_json_on_literals}
use Rattle.casa_inquiry.specs.declared.why.Holding.{Holding}
use Rattle.casa_wire.specs.LineTexts.{count}
use Rattle.casa_json.specs.Flights.{holder_text, holding_data}

pub holding_text : (h : Holding)
    → (codes "{\"begin\":" ++ (compact_text (count h.begin) ++ []))
    ++ (holder_text h.holder ++ (codes ",\"slot\":" ++ (compact_text (count h.slot) ++ codes "}"))) ≡ compact_text (holding_data h)
unfolding serde_json_on_literals
holding_text h = simp (append_assoc, append-nil) refl
