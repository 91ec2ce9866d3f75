use Rattle.std.proofs.Common.{rules}
use Rattle.casa_script.specs.Lines.{entry_label, entry_text}
use Rattle.casa_script.proofs.Entries.{vouched}
use Rattle.casa_script.proofs.writing.push_entry.Goals as goal

pub returns-clause-vouches : goal.returns-clause-vouches
returns-clause-vouches c =
    let position = c.args.position in
    let entry = c.args.entry.now in
    vouched c.push_line.result position (entry_text position entry) entry.reply (record { label = entry_label position entry; call = entry.call }) (search rules) (search rules)
