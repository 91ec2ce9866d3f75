use Rattle.std.proofs.Common.{append_assoc, refl}
use Rattle.casa_html.proofs.text.with_recorded.Goals as goal

pub returns : goal.returns
returns c =
    rw (
      c.in_ok-extend_from_slice-3.ensures.items,
      c.in_ok-push_scripted.ensures,
      c.in_ok-extend_from_slice-2.ensures.items,
      c.in_ok-extend_from_slice.ensures.items,
      c.new-text.ensures.items,
      c.as_bytes.ensures.value,
    ) (simp append_assoc refl)
