-- The rule that the code finds is the one that applies. Assumes nothing.
use Rattle.std.proofs.Common.{◌≡◌, ℕ, eqb, ltb, List, [], ◌∷◌, Option, sym, ap, ◌∙◌, subst, arith, None, Some}
use Rattle.std.proofs.lemmas.Bool.{cond_both, eqb-false, eqb-true, ltb-false, ltb-true}
use Rattle.parser.specs.Sets.{Lists}
use Rattle.sheet.specs.declared.lexeme.Lexeme.{Lexeme}
use Rattle.sheet.specs.declared.lexeme.Place.{Place}
use Rattle.layout.specs.First.{block_rule, close_rule, end_rule, innermost_of, line_rule}
use Rattle.layout.specs.Marks.{column}
use Rattle.layout.specs.Rules.{Applies, block_left_open, close_at_end, close_shallower, close_typed, drop_deeper, drop_outside, empty_block, end, open_block, separate, stray_close}
use Rattle.layout.specs.declared.rule.Coming.{Coming}
use Rattle.layout.specs.declared.rule.Coming.TheVariants.{Lexeme as lexeme, End as ending}
use Rattle.layout.specs.declared.rule.Mark.{Mark}
use Rattle.layout.specs.declared.rule.Mark.TheVariants.{Line, Block}
use Rattle.layout.specs.declared.rule.Rule.{Rule}
use Rattle.layout.proofs.Single.{single_rule}

module _ (G : Lists) (u : List ℕ) where
  pub at_line : (c : Coming) (ks : List ℕ) → Applies G u (Some Line) c ks (line_rule (column c) (innermost_of ks))
  at_line c [] = drop_outside
  at_line c (k ∷ ks) =
      cond_both (eqb k (column c)) _ _ (Applies G u (Some Line) c (k ∷ ks)) (λ e. separate (eqb-true k (column c) e))
      (λ e. cond_both (ltb (column c) k) _ _ (Applies G u (Some Line) c (k ∷ ks)) (λ f. close_shallower (ltb-true (column c) k f))
      (λ f. drop_deeper (omega (arith, eqb-false k (column c) e, ltb-false (column c) k f))))

  pub at_block : (c : Coming) (ks : List ℕ) → Applies G u (Some Block) c ks (block_rule (column c) (innermost_of ks))
  at_block c [] = cond_both (ltb 0 (column c)) _ _ (Applies G u (Some Block) c []) (λ e. open_block (ltb-true 0 (column c) e)) (λ e. empty_block (λ h. omega (arith, ltb-false 0 (column c) e)))
  at_block c (k ∷ ks) = cond_both (ltb k (column c)) _ _ (Applies G u (Some Block) c (k ∷ ks)) (λ e. open_block (ltb-true k (column c) e)) (λ e. empty_block (λ h. omega (arith, ltb-false k (column c) e)))

  pub at_close : (l : Lexeme) (ks : List ℕ) → l.kind ≡ 4 → Applies G u None (lexeme l) ks (close_rule (innermost_of ks))
  at_close l [] four = stray_close four (λ x. x)
  at_close l (k ∷ ks) four = cond_both (eqb k 0) _ _ (Applies G u None (lexeme l) (k ∷ ks)) (λ e. close_typed four (eqb-true k 0 e)) (λ e. stray_close four (eqb-false k 0 e))

  pub at_end : (p : Place) (ks : List ℕ) → Applies G u None (ending p) ks (end_rule (innermost_of ks))
  at_end p [] = end
  at_end p (k ∷ ks) = cond_both (eqb k 0) _ _ (Applies G u None (ending p) (k ∷ ks)) (λ e. block_left_open (eqb-true k 0 e)) (λ e. close_at_end (omega (arith, eqb-false k 0 e)))

-- a rule that applies in all contexts with this innermost one, and the only one
pub record Alone (G : Lists) (m : Option Mark) (c : Coming) (k : Option ℕ) (r : Rule) : Type 0 where
  pub applies : (ks : List ℕ) → innermost_of ks ≡ k → Applies G [] m c ks r
  pub only : (ks : List ℕ) (s : Rule) → innermost_of ks ≡ k → Applies G [] m c ks s → s ≡ r

alone : (G : Lists) (m : Option Mark) (c : Coming) (k : Option ℕ) (r : Rule) → ((ks : List ℕ) → innermost_of ks ≡ k → Applies G [] m c ks r) → Alone G m c k r
alone G m c k r h = record { applies = h; only = λ ks s e a. single_rule G [] a (h ks e) }

module _ (G : Lists) (k : Option ℕ) (r : Rule) where
  pub alone_at_line : (m : Option Mark) (c : Coming) → m ≡ (Some Line) → r ≡ line_rule (column c) k → Alone G m c k r
  alone_at_line m c mark is =
      alone G m c k r (λ ks e. subst (λ (x : Option Mark). Applies G [] x c ks r) (sym mark) (subst (Applies G [] (Some Line) c ks) (sym (is ∙ ap (line_rule (column c)) (sym e))) (at_line G [] c ks)))

  pub alone_at_block : (m : Option Mark) (c : Coming) → m ≡ (Some Block) → r ≡ block_rule (column c) k → Alone G m c k r
  alone_at_block m c mark is =
      alone G m c k r (λ ks e. subst (λ (x : Option Mark). Applies G [] x c ks r) (sym mark) (subst (Applies G [] (Some Block) c ks) (sym (is ∙ ap (block_rule (column c)) (sym e))) (at_block G [] c ks)))

  pub alone_at_end : (m : Option Mark) (c : Coming) (p : Place) → m ≡ None → c ≡ ending p → r ≡ end_rule k → Alone G m c k r
  alone_at_end m c p mark at is =
      alone G m c k r (λ ks e. subst (λ (x : Option Mark). Applies G [] x c ks r) (sym mark)
      (subst (λ (x : Coming). Applies G [] None x ks r) (sym at) (subst (Applies G [] None (ending p) ks) (sym (is ∙ ap end_rule (sym e))) (at_end G [] p ks))))

  pub alone_at_lexeme : (m : Option Mark) (c : Coming) (l : Lexeme) → m ≡ None → c ≡ lexeme l → ((ks : List ℕ) → innermost_of ks ≡ k → Applies G [] None (lexeme l) ks r) → Alone G m c k r
  alone_at_lexeme m c l mark is h =
      alone G m c k r (λ ks e. subst (λ (x : Option Mark). Applies G [] x c ks r) (sym mark) (subst (λ (x : Coming). Applies G [] None x ks r) (sym is) (h ks e)))
