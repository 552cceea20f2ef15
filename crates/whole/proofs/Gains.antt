-- What came of a sheet that goes on, kept in two parts. Assumes nothing.
use Rattle.std.proofs.Common.{◌≡◌, Bool, true, false, cond, List, [], ◌∷◌, ◌++◌, refl, ap, ◌∙◌}
use Rattle.sheet.specs.declared.fault.Fault.{Fault}
use Rattle.sheet.specs.declared.lexeme.Token.{Token}
use Rattle.whole.specs.Keeping.{Gains, Keeping, some}

-- whether anything was refused
pub still : (x : Bool) → x ≡ cond x true false
still true = refl
still false = refl

either : (x : Bool) (fs gs : List Fault) → cond (cond x true (some fs)) true (some gs) ≡ cond x true (some (fs ++ gs))
either true fs gs = refl
either false [] gs = refl
either false (f ∷ fs) gs = refl

pub gains_keeping : {K : Type 0} {kept : K → List Token → List Fault → K → Type 0} → Keeping kept → Keeping (Gains kept)
gains_keeping laws =
    record {
      none = λ a. record { keeper = laws.none a.keeper; refused = still a.refused };
      on = λ a b c ts us fs gs x y. record {
        keeper = laws.on a.keeper b.keeper c.keeper ts us fs gs x.keeper y.keeper;
        refused = y.refused ∙ ap (λ (v : Bool). cond v true (some gs)) x.refused ∙ either a.refused fs gs;
      };
    }
