-- What stands before a lexeme, and the mark that it asks for. Assumes nothing.
use Rattle.std.proofs.Common.{◌≡◌, ℕ, false, cond, ◌||◌, eqb, sym}
use Rattle.std.proofs.lemmas.Bool.{ne_eqb}
use Rattle.sheet.specs.Kinds.{kind_number}
use Rattle.sheet.specs.declared.lexeme.Kind.{Kind}
use Rattle.sheet.specs.declared.lexeme.Kind.TheVariants.{Let, Where, Of, Do}
use Rattle.layout.specs.Marks.{after}
use Rattle.layout.specs.declared.rule.Before.TheVariants.{BlockKeyword, Other}

-- a number that is no kind is no block keyword
pub after_no_kind : (n : ℕ) → ((k : Kind) → kind_number k ≡ n → ⊥) → Other ≡ after n
after_no_kind n none =
    let not : (k : Kind) → eqb n (kind_number k) ≡ false = (λ k. ne_eqb n (kind_number k) (λ e. none k (sym e))) in
    sym (λ i. cond (not Let i || not Where i || not Of i || not Do i) BlockKeyword Other)
