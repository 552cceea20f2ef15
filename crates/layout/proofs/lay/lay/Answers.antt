use Rattle.std.proofs.Common.{false, ◌≡◌, ℕ, [], length, Ok, Err, sym, ap, ◌∙◌, subst, arith}
use Rattle.std.proofs.lemmas.Result.{err_from_is_err_and}
use Rattle.parser.specs.Meaning.{Meaning}
use Rattle.layout.specs.Drafts.{Laying, NextAll, tokens_of, Step, contexts_of}
use Rattle.layout.specs.Marks.{column, kind}
use Rattle.layout.specs.Rules.{Applies, leaves}
use Rattle.layout.proofs.Exits.{ended_at, no_lexeme, exit_undefined, refused_at, written_at}
use Rattle.layout.proofs.Running.{Standing, at_some, inserted_contexts, mark_in, phase_next, rank, rule_rank, running_more, running_new, running_stops, same_stand, still_single}
use Rattle.layout.proofs.lay.lay.Given as given
use Rattle.layout.proofs.lay.lay.Goals as goal
use Rattle.layout.proofs.lay.lay.Goals.{After-onward, After-rule_at-rule}
use Rattle.parser.proofs.Bound.{means}

-- the parser's meaning
abbrev of : (g : given.Over) → g.row.P.Denot → Meaning
of g p = means g.P.Stepping g.P.Probing p

-- the rule of this turn applies
applies : (g : given.Over) (c : After-rule_at-rule g) → Applies (of g c.loop-inserted.parser).remainder [] c.loop-inserted.mark c.args.marked.now.coming (contexts_of c.args.contexts.now c.loop-inserted.draft) c.rule_at-rule.result
applies g c = c.rule_at-rule.ensures.applies (contexts_of c.args.contexts.now c.loop-inserted.draft) (sym c.innermost.ensures)

pub loop-inserted-init : goal.loop-inserted-init
loop-inserted-init g c = rw c.new-draft.ensures (running_new c.args.contexts.now c.args.marked.now.mark c.args.marked.now.coming _ c.requires c.args.marked.now.fitting)

pub insert_all-requires-clause-order : goal.insert_all-requires-clause-order
insert_all-requires-clause-order g c =
    subst (NextAll c.loop-inserted.draft) (sym c.inserting.ensures) (phase_next c.loop-inserted.draft (applies g (goal.at.insert_all-requires-clause-order g c).After-rule_at-rule) c.loop-inserted.invariant.phase)

pub returns-in_err-inserted : goal.returns-in_err-inserted
returns-in_err-inserted g c =
    let turned = err_from_is_err_and c.from_residual.result c.from_residual.ensures.1 in
    rw (turned.1 ∙ ap Err turned.2)
    (running_stops _ _ _ _ _ _ _ _ c.loop-inserted.invariant (applies g (goal.at.returns-in_err-inserted g c).After-rule_at-rule) _ _ (rw c.inserting.ensures at (rw (c.blocks-blocks.ensures c.args.contexts.now) at c.in_err-inserted.ensures)))

pub after-draft-requires : goal.after-draft-requires
after-draft-requires g c =
    let so = c.loop-inserted.invariant in
    record { single = still_single c.loop-inserted.draft c.in_ok-inserted.inserted (applies g (goal.at.after-draft-requires g c).After-rule_at-rule) so.phase so.brace c.in_ok-inserted.ensures }

pub after-requires : goal.after-requires
after-requires g c =
    let so = c.loop-inserted.invariant in
    record { single = still_single c.loop-inserted.draft c.in_ok-inserted.inserted (applies g (goal.at.after-requires g c).After-rule_at-rule) so.phase so.brace c.in_ok-inserted.ensures }

pub loop-inserted-preserved : goal.loop-inserted-preserved
loop-inserted-preserved g c =
    let cs = c.args.contexts.now in
    let told = c.after-draft.ensures in
    running_more _ _ _ _ _ _ _ _ c.loop-inserted.invariant (applies g (goal.at.loop-inserted-preserved g c).After-rule_at-rule) _ _ _ _ (sym c.onward.ensures ∙ c.in-Mark.is)
    (rw c.inserting.ensures at (rw (c.blocks-blocks.ensures cs) at c.in_ok-inserted.ensures)) told.tokens (told.contexts cs ∙ ap (λ n. leaves c.rule_at-rule.result n (contexts_of cs c.in_ok-inserted.inserted)) c.column.ensures) told.depth told.opened told.row

pub loop-inserted-smaller : goal.loop-inserted-smaller
loop-inserted-smaller g c =
    let cs = c.args.contexts.now in
    let on = sym c.onward.ensures ∙ c.in-Mark.is in
    let left = c.after-draft.ensures.contexts cs ∙ ap (λ n. leaves c.rule_at-rule.result n (contexts_of cs c.in_ok-inserted.inserted)) c.column.ensures
    ∙ ap (leaves c.rule_at-rule.result _) (inserted_contexts cs c.loop-inserted.draft c.in_ok-inserted.inserted c.in_ok-inserted.ensures) in
    omega (arith, rule_rank (applies g (goal.at.loop-inserted-smaller g c).After-rule_at-rule) (ap at_some on), ap length left, ap rank (ap mark_in on))

-- where the rule goes on at no mark, all stands as before it
stood : (g : given.Over) (c : After-onward g) → at_some c.onward.result ≡ false
    → Standing c.args.contexts.now c.args.marked.now.mark c.args.marked.now.coming (of g c.args.parser.now) c.in_ok-inserted.inserted c.loop-inserted.mark (of g c.insert_all.new.parser)
    × (length (contexts_of c.args.contexts.now c.in_ok-inserted.inserted) ≡ length (contexts_of c.args.contexts.now c.loop-inserted.draft))
    × Applies (of g c.args.parser.now).remainder (tokens_of c.in_ok-inserted.inserted) c.loop-inserted.mark c.args.marked.now.coming (contexts_of c.args.contexts.now c.in_ok-inserted.inserted) c.rule_at-rule.result
stood g c nowhere =
    let cs = c.args.contexts.now in
    same_stand cs _ _ _ c.loop-inserted.draft _ _ c.rule_at-rule.result c.loop-inserted.invariant (c.rule_at-rule.ensures.applies (contexts_of cs c.loop-inserted.draft) (sym c.innermost.ensures)) _ c.in_ok-inserted.inserted
    (sym (ap at_some c.onward.ensures) ∙ nowhere) (rw c.inserting.ensures at (rw (c.blocks-blocks.ensures cs) at c.in_ok-inserted.ensures))

pub unreachable-requires : goal.unreachable-requires
unreachable-requires g c = no_lexeme (rw c.in_default.is at (applies g (goal.at.unreachable-requires g c).After-rule_at-rule)) (sym c.onward.ensures ∙ c.in-Lexeme.is)

pub returns-in-Lexeme : goal.returns-in-Lexeme
returns-in-Lexeme g c =
    let cs = c.args.contexts.now in
    let e = c.in_ok-inserted.inserted in
    let r = c.rule_at-rule.result in
    let mid = of g c.insert_all.new.parser in
    let next = of g c.take_token.new.parser in
    let told = c.after.ensures in
    let is = sym c.in-Lexeme-coming.is in
    let so = stood g (goal.at.returns-in-Lexeme g c).After-onward (ap at_some c.in-Lexeme.is) in
    written_at cs c.args.marked.now.mark (of g c.args.parser.now) e c.loop-inserted.mark mid r c.args.marked.now.coming so.0 so.2 (sym c.onward.ensures ∙ c.in-Lexeme.is) next c.after.result
    (subst (λ (p : ℕ × ℕ). Step p.0 p.1 mid next (Ok tt)) (λ i. (kind (is i), (c.blocks-blocks.ensures cs ∙ sym so.1) i)) c.in_ok-take_token-in-Lexeme.ensures)
    told.tokens (told.contexts cs ∙ ap (λ x. leaves r (column x) (contexts_of cs e)) is) told.depth

pub returns-in_err-take_token-in-Lexeme : goal.returns-in_err-take_token-in-Lexeme
returns-in_err-take_token-in-Lexeme g c =
    let cs = c.args.contexts.now in
    let e = c.in_ok-inserted.inserted in
    let r = c.rule_at-rule.result in
    let before = of g c.args.parser.now in
    let mid = of g c.insert_all.new.parser in
    let next = of g c.take_token.new.parser in
    let why = c.in_err-take_token-in-Lexeme.field-0.0 in
    let turned = err_from_is_err_and c.from_residual-in_err-take_token-in-Lexeme.result c.from_residual-in_err-take_token-in-Lexeme.ensures.1 in
    let is = sym c.in-Lexeme-coming.is in
    let so = stood g (goal.at.returns-in_err-take_token-in-Lexeme g c).After-onward (ap at_some c.in-Lexeme.is) in
    subst (Laying cs c.args.marked.now.mark c.args.marked.now.coming before next) (sym (turned.1 ∙ ap Err turned.2))
    (refused_at cs c.args.marked.now.mark before e c.loop-inserted.mark mid r c.args.marked.now.coming so.0 so.2 (sym c.onward.ensures ∙ c.in-Lexeme.is) next why
    (subst (λ (p : ℕ × ℕ). Step p.0 p.1 mid next (Err why)) (λ i. (kind (is i), (c.blocks-blocks.ensures cs ∙ sym so.1) i)) c.in_err-take_token-in-Lexeme.ensures))

pub returns-in-End : goal.returns-in-End
returns-in-End g c =
    let so = stood g (goal.at.returns-in-End g c).After-onward (ap at_some c.in-End.is) in
    ended_at c.args.contexts.now c.args.marked.now.mark _ c.in_ok-inserted.inserted c.loop-inserted.mark _ c.rule_at-rule.result c.args.marked.now.coming so.0 so.2 (sym c.onward.ensures ∙ c.in-End.is)

pub returns-in-Undefined : goal.returns-in-Undefined
returns-in-Undefined g c =
    let cs = c.args.contexts.now in
    let m = c.args.marked.now.mark in
    let x = c.args.marked.now.coming in
    let mid = of g c.insert_all.new.parser in
    let so = stood g (goal.at.returns-in-Undefined g c).After-onward (ap at_some c.in-Undefined.is) in
    subst (λ why. Laying cs m x (of g c.args.parser.now) mid (Err why)) (sym c.undefined.ensures) (exit_undefined cs m _ c.in_ok-inserted.inserted c.loop-inserted.mark mid c.rule_at-rule.result x so.0 so.2 (sym c.onward.ensures ∙ c.in-Undefined.is))
