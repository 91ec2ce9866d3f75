-- to believe: how the comparison of the days of two inputs ends, and what is said of their lines
use Rattle.std.specs.Prelude.{◌≡◌, ◌⊎◌, ℕ, ◌==◌, List, [], ◌++◌, length, codes, Bool, if◌then◌else◌, Option, Some, Result, Ok, Err}
use Rattle.jiff_core.specs.declared.civil.date.Date.{Date}
use Rattle.casa_filing.specs.Text.{Text}
use Rattle.casa_flight.specs.declared.call.Call.{Call}
use Rattle.casa_cli.specs.declared.tasks.Format.{Format}
use Rattle.casa_cli.specs.declared.tasks.Format.TheVariants.{Table, Csv, Json}
use Rattle.casa_difference.specs.declared.comparison.Comparison.{Comparison}
use Rattle.casa_difference.specs.Comparisons.{comparison}
use Rattle.casa_compare.specs.CompareCsv.{compare_csv}
use Rattle.casa_compare.specs.CompareJson.{compare_json}
use Rattle.casa_compare.specs.CompareTable.{compare_text}
use Rattle.casa_session.specs.declared.fault.SessionFault.{SessionFault}
use Rattle.casa_session.specs.Played.{state_after_calls}
use Rattle.casa_app.specs.declared.fault.PrintFault.{PrintFault}
use Rattle.casa_app.specs.declared.fault.PrintFault.TheVariants.{Session, FaultyLines, NoMemory}
use Rattle.casa_app.specs.Printed.{IsWhole, PrintEnds, SessionEnds}
use Rattle.casa_app.specs.Remarked.{IsSaid, Says, SaysAll}

-- what differs between two days in a form: a text with tables, the flights as comma-separated values, or all of it as JSON
abbrev pub compare_as : Format → Date → Comparison → Text
compare_as Table day found = compare_text day found
compare_as Csv day found = compare_csv day found
compare_as Json day found = compare_json day found

-- the same, of the days after these calls from the opening on, and after others
abbrev pub compare_after : List Call → Date → Format → List Call → Result Text PrintFault
compare_after before day format answered =
    Ok (compare_as format day (comparison (state_after_calls before) (state_after_calls answered)))

-- the base, with r to s left, ended by this fault
abbrev pub BaseEnds : PrintFault → (r s : Option (List ℕ)) → Type 0
BaseEnds fault r s =
    (fault ≡ NoMemory) ⊎ ((fault ≡ FaultyLines) ⊎ ((cause : SessionFault) × (fault ≡ Session cause) × SessionEnds cause r s))

-- how it ends, of a base with r to s left and a variant with p to q left: by a fault of the base, and then nothing is read
-- of the variant, and nothing written; or as the printing of what differs between the days after all lines of both
abbrev pub CompareEnds : {X : Type 0} → Date → Format → Result X PrintFault → (r s p q v w : Option (List ℕ)) → Type 0
CompareEnds day format result r s p q v w =
    ((fault : PrintFault) × (result ≡ Err fault) × BaseEnds fault r s × (q ≡ p) × (w ≡ v))
    ⊎ ((before : List Call) × IsWhole r before × PrintEnds (compare_after before day format) result p q v w)

-- a text that is said of a file, with a line above it that has the file's word; nothing where there is nothing to say
abbrev pub headed : Text → Text → Text
headed word text = if length text == 0 then [] else word ++ text

-- such a text was said, or its first bytes; or nothing, where there was no memory for it
abbrev pub IsSaidOf : Text → (v w : Option (List ℕ)) → Text → Type 0
IsSaidOf word v w text = (w ≡ v) ⊎ IsSaid v w (headed word text)

-- what is said of an input that ended so, below a line with its word
abbrev pub SaysBelow : {X : Type 0} → Text → (strict marked : Bool) → Result X PrintFault → (r s v w : Option (List ℕ)) → Type 0
SaysBelow word strict marked result r s v w = (t : Text) × Says strict marked result r s (Some []) (Some t) × IsSaidOf word v w t

-- what is said where it ends so: of the lines of the base, and behind it of those of the variant if that is read
abbrev pub CompareSays : {X : Type 0} → (strict marked_base marked_variant : Bool) → Result X PrintFault → (r s p q v w : Option (List ℕ)) → Type 0
CompareSays {X} strict marked_base marked_variant result r s p q v w =
    ((fault : PrintFault) × (result ≡ Err fault) × SaysBelow {X = X} (codes "casa: base:\n") strict marked_base (Err fault) r s v w)
    ⊎ ((t : Text) × (m : Option (List ℕ)) × SaysAll strict marked_base r (Some []) (Some t) × IsSaidOf (codes "casa: base:\n") v m t
    × SaysBelow (codes "casa: variant:\n") strict marked_variant result p q m w)
