-- Why something was refused. Assumes nothing.
use Rattle.std.proofs.Common.{Ok, Err, Result}
use Rattle.sheet.specs.declared.fault.Reason.{Reason}

-- the reason of a refusal, or another where there is none
abbrev pub why_of : {T : Type 0} → Result T Reason → Reason → Reason
why_of (Ok x) d = d
why_of (Err w) d = w
