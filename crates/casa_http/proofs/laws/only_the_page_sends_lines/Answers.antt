use Rattle.casa_http.proofs.OnlyThePage.{lines_are_of_the_page, tries_are_of_the_page}
use Rattle.casa_http.proofs.laws.only_the_page_sends_lines.Goals as goal

pub returns-clause-answered : goal.returns-clause-answered
returns-clause-answered c = lines_are_of_the_page

pub returns-clause-tried : goal.returns-clause-tried
returns-clause-tried c = tries_are_of_the_page
