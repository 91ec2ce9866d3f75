use Rattle.casa_cli.proofs.FirstWrong.{nothing_asked, run_asked, import_asked, report_asked, load_asked, summary_asked, why_asked, messages_asked, compare_asked, page_asked, clash_asked, serve_asked, stay_asked, journal_asked}
use Rattle.casa_cli.proofs.laws.words_have_the_first_wrong_value.Goals as goal

pub returns-clause-unread : goal.returns-clause-unread
returns-clause-unread c = nothing_asked

pub returns-clause-run : goal.returns-clause-run
returns-clause-run c = run_asked

pub returns-clause-import : goal.returns-clause-import
returns-clause-import c = import_asked

pub returns-clause-report : goal.returns-clause-report
returns-clause-report c = report_asked

pub returns-clause-load : goal.returns-clause-load
returns-clause-load c = load_asked

pub returns-clause-summary : goal.returns-clause-summary
returns-clause-summary c = summary_asked

pub returns-clause-why : goal.returns-clause-why
returns-clause-why c = why_asked

pub returns-clause-messages : goal.returns-clause-messages
returns-clause-messages c = messages_asked

pub returns-clause-compare : goal.returns-clause-compare
returns-clause-compare c = compare_asked

pub returns-clause-page : goal.returns-clause-page
returns-clause-page c = page_asked

pub returns-clause-clash : goal.returns-clause-clash
returns-clause-clash c = clash_asked

pub returns-clause-serve : goal.returns-clause-serve
returns-clause-serve c = serve_asked

pub returns-clause-stay : goal.returns-clause-stay
returns-clause-stay c = stay_asked

pub returns-clause-journal : goal.returns-clause-journal
returns-clause-journal c = journal_asked
