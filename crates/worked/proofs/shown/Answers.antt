use Rattle.worked.proofs.Sheets.{examples}
use Rattle.worked.proofs.shown.Goals as goal

pub returns : goal.returns
returns c = examples
