use Rattle.serde_json.proofs.OnLiterals.{serde_json_on_literals}
use Rattle.casa_json.proofs.lists.ReportRowJson.push_json.Goals as goal

pub returns : goal.returns
unfolding serde_json_on_literals
returns c =
    rw (c.delay_in_list.ensures, c.secs.ensures.value, c.as_bytes.ensures, c.as_bytes-2.ensures.value, c.kind_name.ensures, c.as_bytes-3.ensures, c.number_or_null.ensures, c.get.ensures)
    at c.in_ok-push_parts.ensures
