use Rattle.reader.proofs.Lawful.{lawful}
use Rattle.reader.proofs.reader.Reader.open.Goals as goal

pub returns-clause-laws : goal.returns-clause-laws
returns-clause-laws c = lawful _
