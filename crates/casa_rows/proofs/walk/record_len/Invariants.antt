use Rattle.std.proofs.Common.{◌≡◌, drop}
use Rattle.csv.specs.declared.parser.State.TheVariants as st
use Rattle.casa_rows.specs.Rows.{config}
use Rattle.casa_rows.specs.Walk.{behind_record, state}
use Rattle.casa_rows.proofs.walk.record_len.Given as goal

-- what is left behind the first record of the text is what is left from here
abbrev pub invariant-loop-i : goal.invariant-loop-i
invariant-loop-i l =
    behind_record (config l.separator) st.StartRecord l.text ≡ behind_record (config l.separator) (state l.within) (drop l.i l.text)
