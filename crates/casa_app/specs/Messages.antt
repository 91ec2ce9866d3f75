-- to believe: what is shown of the slot messages of a day
use Rattle.std.specs.Prelude.{List, Result, Ok}
use Rattle.jiff_core.specs.declared.civil.date.Date.{Date}
use Rattle.casa_filing.specs.Text.{Text}
use Rattle.casa_flight.specs.declared.call.Call.{Call}
use Rattle.casa_flight.specs.State.{empty}
use Rattle.casa_cli.specs.declared.tasks.Format.{Format}
use Rattle.casa_cli.specs.declared.tasks.Format.TheVariants.{Table, Csv, Json}
use Rattle.casa_selection.specs.declared.messages.CausedMessage.{CausedMessage}
use Rattle.casa_report.specs.Messages.{messages_csv, messages_json}
use Rattle.casa_selection.specs.Messages.{caused_from}
use Rattle.casa_session.specs.Played.{sequential_history}
use Rattle.casa_app.specs.declared.fault.PrintFault.{PrintFault}

-- messages in a form: JSON, or comma-separated values, which stand for a table too
abbrev pub messages_as : Format → Date → List CausedMessage → Text
messages_as Table day messages = messages_csv day messages
messages_as Csv day messages = messages_csv day messages
messages_as Json day messages = messages_json messages

-- the messages that each of these calls caused, of the sequential allocator
abbrev pub messages_after : Date → Format → List Call → Result Text PrintFault
messages_after day format answered = Ok (messages_as format day (caused_from 0 (sequential_history empty answered)))
