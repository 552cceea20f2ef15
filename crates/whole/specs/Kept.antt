-- What is kept of a sheet. Assumes nothing.
use Rattle.std.specs.Prelude.{◌≡◌, ℕ, zero, suc, List, [], ◌∷◌, ◌++◌, take, vec_items}
use Rattle.std.proofs.Common.{sym, refl, ap, ◌∙◌, arith}
use Rattle.std.proofs.lemmas.List.{append_assoc, append-nil, take_all}
use Rattle.sheet.specs.declared.fault.Fault.{Fault}
use Rattle.sheet.specs.declared.lexeme.Token.{Token}
use Rattle.whole.specs.Keeping.{Keeping}
use Rattle.whole.specs.Whole.{most_faults}
use Rattle.whole.specs.declared.kept.Kept.{Kept}

-- tokens are kept behind others, and of the faults the first
pub record Holds (a : Kept) (ts : List Token) (fs : List Fault) (b : Kept) : Type 0 where
  pub tokens : vec_items b.tokens ≡ vec_items a.tokens ++ ts
  pub faults : vec_items b.faults ≡ take most_faults (vec_items a.faults ++ fs)

-- of the first few and what follows, the first few
take_on : {A : Type 0} (n : ℕ) (xs ys : List A) → take n (take n xs ++ ys) ≡ take n (xs ++ ys)
take_on zero xs ys = refl
take_on (suc n) [] ys = refl
take_on (suc n) (x ∷ xs) ys = ap (λ l. x ∷ l) (take_on n xs ys)

-- what is kept of a sheet is kept as a keeper does
pub holds_keeping : Keeping Holds
holds_keeping =
    record {
      none = λ a. record {
        tokens = sym (append-nil (vec_items a.tokens));
        faults = sym (ap (take most_faults) (append-nil (vec_items a.faults)) ∙ take_all most_faults (vec_items a.faults) (omega (arith, a.few, a.faults.ok.0)));
      };
      on = λ a b c ts us fs gs x y. record {
        tokens = y.tokens ∙ ap (λ l. l ++ us) x.tokens ∙ append_assoc (vec_items a.tokens) ts us;
        faults = y.faults ∙ ap (λ l. take most_faults (l ++ gs)) x.faults ∙ take_on most_faults (vec_items a.faults ++ fs) gs ∙ ap (take most_faults) (append_assoc (vec_items a.faults) fs gs);
      };
    }
