use Rattle.std.proofs.Common.{refl, rules, ap, ◌∙◌}
use Rattle.layout.specs.First.{block_rule, line_rule}
use Rattle.layout.proofs.Firsts.{alone_at_block, alone_at_end, alone_at_lexeme, alone_at_line}
use Rattle.layout.proofs.Single.{single_sheet}
use Rattle.layout.proofs.rule.rule_at.Goals as goal

pub returns-in-Some-Line : goal.returns-in-Some-Line
returns-in-Some-Line g c =
    let a = alone_at_line _ c.args.innermost _ _ c.args.coming.now (search rules) (c.rule_at_line.ensures ∙ ap (λ n. line_rule n c.args.innermost) c.column.ensures) in
    record { applies = a.applies; only = a.only; single = λ ls p out out'. single_sheet _ }

pub returns-in-Some-Block : goal.returns-in-Some-Block
returns-in-Some-Block g c =
    let a = alone_at_block _ c.args.innermost _ _ c.args.coming.now (search rules) (c.rule_at_block.ensures ∙ ap (λ n. block_rule n c.args.innermost) c.column-in-Some-Block.ensures) in
    record { applies = a.applies; only = a.only; single = λ ls p out out'. single_sheet _ }

pub returns-in-End : goal.returns-in-End
returns-in-End g c =
    let a = alone_at_end _ c.args.innermost _ _ _ c.in-End.field-0 c.in-None.is c.in-End.is c.rule_at_end.ensures in
    record { applies = a.applies; only = a.only; single = λ ls p out out'. single_sheet _ }

pub returns-in-Lexeme : goal.returns-in-Lexeme
returns-in-Lexeme g c =
    let a = alone_at_lexeme _ c.args.innermost _ _ _ c.in-Lexeme.lexeme c.in-None.is c.in-Lexeme.is (λ ks e. c.rule_at_lexeme.ensures c.in-Lexeme.lexeme ks refl e) in
    record { applies = a.applies; only = a.only; single = λ ls p out out'. single_sheet _ }
