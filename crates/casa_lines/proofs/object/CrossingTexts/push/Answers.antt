use Rattle.std.proofs.Common.{append_assoc, refl}
use Rattle.serde_json.proofs.OnLiterals.{serde_json_on_literals}
use Rattle.casa_lines.proofs.object.CrossingTexts.push.Goals as goal

pub returns : goal.returns
unfolding serde_json_on_literals
returns c =
    rw (
      c.in_ok-push.ensures.items,
      c.in_ok-push_name.ensures,
      c.in_ok-extend_from_slice-2.ensures.items,
      c.in_ok-push_number.ensures,
      c.in_ok-extend_from_slice.ensures.items,
      c.secs.ensures.value,
      c.as_bytes.ensures,
    ) (simp append_assoc refl)
