-- What keeps the tokens and the faults of a sheet as they come. Assumes nothing.
use Rattle.std.specs.Prelude.{◌≡◌, Bool, true, false, cond, List, [], ◌∷◌, ◌++◌}
use Rattle.sheet.specs.declared.fault.Fault.{Fault}
use Rattle.sheet.specs.declared.lexeme.Token.{Token}
use Rattle.reader.specs.declared.stop.Stop.{Stop}
use Rattle.reader.specs.declared.stop.Stop.TheVariants.{Fault as at_fault, Full as at_full}
use Rattle.whole.specs.declared.progress.Progress.{Progress}

-- the fault at which a reading stopped, if it did at one
abbrev pub stop_faults : Stop → List Fault
stop_faults (at_fault f) = f ∷ []
stop_faults (at_full x) = []

-- whether there is a fault
abbrev pub some : List Fault → Bool
some [] = false
some (f ∷ fs) = true

-- where nothing came nothing is altered, and what came in two parts is kept as one
pub record Keeping {K : Type 0} (kept : K → List Token → List Fault → K → Type 0) : Type 0 where
  pub none : (a : K) → kept a [] [] a
  pub on : (a b c : K) (ts us : List Token) (fs gs : List Fault) → kept a ts fs b → kept b us gs c → kept a (ts ++ us) (fs ++ gs) c

-- tokens and faults came of a sheet that goes on
pub record Gains {K : Type 0} (kept : K → List Token → List Fault → K → Type 0) (a : Progress K) (ts : List Token) (fs : List Fault) (b : Progress K) : Type 0 where
  pub keeper : kept a.keeper ts fs b.keeper
  pub refused : b.refused ≡ cond a.refused true (some fs)
