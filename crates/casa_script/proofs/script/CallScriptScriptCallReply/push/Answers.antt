use Rattle.std.proofs.Common.{refl}
use Rattle.casa_script.specs.Lines.{entry_text}
use Rattle.casa_script.proofs.Entries.{is_line}
use Rattle.casa_script.proofs.script.CallScriptScriptCallReply.push.Goals as goal

pub returns : goal.returns
returns c =
    let line = entry_text c.args.position c.args.entry.now in
    let pushed = c.in_ok-push_entry.ensures in
    (line, pushed.ok, is_line line pushed.characters, pushed.again, pushed.vouches, refl)
