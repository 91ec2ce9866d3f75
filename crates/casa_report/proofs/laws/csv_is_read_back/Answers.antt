use Rattle.casa_report.proofs.ReadBack.{read_back}
use Rattle.casa_report.proofs.laws.csv_is_read_back.Goals as goal

pub returns : goal.returns
returns c = read_back
