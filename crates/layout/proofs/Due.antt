-- The mark before what comes, by whether a { is due there. Assumes nothing.
use Rattle.std.proofs.Common.{◌≡◌, ℕ, Bool, true, false, cond, List, [], refl, ap, None, Option, Some, arith}
use Rattle.std.proofs.lemmas.Bool.{cond_both, false≢true}
use Rattle.sheet.specs.declared.lexeme.Lexeme.{Lexeme}
use Rattle.sheet.specs.declared.lexeme.Place.{Place}
use Rattle.layout.specs.Marks.{after, end_mark, mark_of, opens_block}
use Rattle.layout.specs.declared.rule.Before.{Before}
use Rattle.layout.specs.declared.rule.Before.TheVariants.{Nothing, BlockKeyword, Other}
use Rattle.layout.specs.declared.rule.Coming.TheVariants.{Lexeme as lexeme, End as ending}
use Rattle.layout.specs.declared.rule.Mark.{Mark}
use Rattle.layout.specs.declared.rule.Mark.TheVariants.{Line}
use Rattle.layout.proofs.Shapes.{Ready}

-- a { is due first and after a block keyword
abbrev pub due : Before → Bool
due Nothing = true
due BlockKeyword = true
due Other = false

pub due_following : (k : ℕ) → due (after k) ≡ opens_block k
due_following k = go (opens_block k)
  where
    go : (b : Bool) → due (cond b BlockKeyword Other) ≡ b
    go true = refl
    go false = refl

-- something stands before what follows a lexeme
abbrev starts : Before → Bool
starts Nothing = true
starts BlockKeyword = false
starts Other = false

pub not_the_start : (k : ℕ) → after k ≡ Nothing → ⊥
not_the_start k = cond_both (opens_block k) BlockKeyword Other (λ b. b ≡ Nothing → ⊥) (λ e h. false≢true (ap starts h)) (λ e h. false≢true (ap starts h))

-- where a { is due and comes, and where none is due, the mark is not that of a block
pub no_block : (b : Before) (l : Lexeme) (P : Option Mark → Type 0) → (due b ≡ true → l.kind ≡ 3) → P None → P (Some Line) → P (mark_of b l)
no_block a b c d e f = grind arith

-- where a { is due, the mark is that of a block or a { comes
pub ready_lexeme : (b : Before) (l : Lexeme) (ks : List ℕ) → (b ≡ Nothing → ks ≡ []) → Ready (due b) (mark_of b l) (lexeme l) ks
ready_lexeme a b c d = grind arith

pub ready_end : (b : Before) (p : Place) (ks : List ℕ) → Ready (due b) (end_mark b) (ending p) ks
ready_end a b c = grind arith
