use Rattle.std.proofs.Common.{length}
use Rattle.trials.proofs.sheets.write_sheets.Given as goal

abbrev pub decreases-loop-rest : goal.decreases-loop-rest
decreases-loop-rest g l = length l.rest
