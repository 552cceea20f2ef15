use Rattle.std.proofs.Common.{[], sym, ap, ◌∙◌, subst, None}
use Rattle.std.proofs.lemmas.Bool.{true≢false}
use Rattle.layout.specs.First.{close_rule}
use Rattle.layout.specs.Rules.{Applies, MustClose, close_on_error, open_typed, write_lexeme}
use Rattle.layout.specs.declared.rule.Coming.TheVariants.{Lexeme as lexeme}
use Rattle.layout.proofs.Firsts.{at_close}
use Rattle.layout.proofs.rule.rule_at_lexeme.Goals as goal

pub returns-then-kind-number : goal.returns-then-kind-number
returns-then-kind-number g c l ks k e =
    let G = g.P.Probing.remainder c.args.parser.now in
    subst (Applies G [] None (lexeme l) ks) (sym (c.rule_at_close.ensures ∙ ap close_rule (sym e))) (at_close G [] l ks (sym k ∙ c.if-kind-number.true ∙ c.number.ensures))

pub returns-then-kind-number-2 : goal.returns-then-kind-number-2
returns-then-kind-number-2 g c l ks k e = open_typed (sym k ∙ c.if-kind-number-2.true ∙ c.number-else-kind-number.ensures)

pub returns-then-must_close : goal.returns-then-must_close
returns-then-must_close g c l ks k e =
    let G = g.P.Probing.remainder c.args.parser.now in
    close_on_error (λ x. c.if-kind-number-2.false (k ∙ x ∙ sym c.number-else-kind-number.ensures), λ x. c.if-kind-number.false (k ∙ x ∙ sym c.number.ensures))
    (subst (λ t. MustClose G [] t ks) k ((c.must_close.ensures ks e).0 c.if-must_close.true))

pub returns-else-must_close : goal.returns-else-must_close
returns-else-must_close g c l ks k e =
    let G = g.P.Probing.remainder c.args.parser.now in
    write_lexeme (λ x. c.if-kind-number-2.false (k ∙ x ∙ sym c.number-else-kind-number.ensures), λ x. c.if-kind-number.false (k ∙ x ∙ sym c.number.ensures))
    (λ m. true≢false (sym ((c.must_close.ensures ks e).1 (subst (λ t. MustClose G [] t ks) (sym k) m)) ∙ c.if-must_close.false))
