use Rattle.std.proofs.Common.{◌≡◌, ◌+◌, ◌==◌, ◌&&◌, ◌||◌, ◌∙◌, ap, sym, length, take, ◌-◌, ◌++◌, false, rules}
use Rattle.std.specs.List.{flat_map}
use Rattle.casa_session.specs.Sending.{saturating_count}
use Rattle.casa_app.specs.Remarks.{remark_line, remark_on, tells_no_json}
use Rattle.casa_app.proofs.Noted.{reply_noted}
use Rattle.casa_app.proofs.notes.Notes.end_reply.Goals as goal

pub returns : goal.returns
returns c = λ before h.
    let old = c.args.self.now in
    let lines : c.remark.new.self.lines ≡ saturating_count (old.lines + 1) = c.remark.ensures.lines ∙ search rules in
    let number = sym c.remark.ensures.lines in
    let first = c.remark.ensures.first in
    reply_noted old _ before c.clear.ensures lines
    (c.remark.ensures.count ∙ ap (λ n. saturating_count (old.count + length (remark_on n old.head.items))) number)
    (c.remark.ensures.text ∙ ap (λ n. old.text.items ++ flat_map (remark_line false) (take (10 - old.count) (remark_on n old.head.items))) number)
    (first ∙ ap (λ b. old.first_no_json || b) (c.is_first_no_json.ensures ∙ (ap (λ t. (c.saturating_add-self.result == 1) && tells_no_json t) c.deref.ensures.0 ∙ ap (λ n. (n == 1) && tells_no_json old.head.items) number))) h
