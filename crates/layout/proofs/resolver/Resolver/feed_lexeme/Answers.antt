use Rattle.std.proofs.Common.{[], length, Err, sym, ap, ◌∙◌, arith}
use Rattle.std.proofs.lemmas.Result.{err_from_is_err_and}
use Rattle.std.proofs.lemmas.Bool.{false≢true}
use Rattle.layout.specs.Calling.{next_of}
use Rattle.arrayvec.specs.ArrayVec.{array_vec_len}
use Rattle.layout.specs.Contexts.{rises}
use Rattle.layout.specs.Drafts.{contexts_of}
use Rattle.layout.proofs.Sheets.{beside_standing, fed_accepted, fed_bad, fed_refused, fed_wrong, moves_sound}
use Rattle.layout.proofs.resolver.Resolver.feed_lexeme.Goals as goal

pub returns-then-not-is_open : goal.returns-then-not-is_open
returns-then-not-is_open g c = fed_wrong (λ e. false≢true (sym c.if-not-is_open.true ∙ c.is_open.ensures.1 e))

pub returns-then-not-is_good : goal.returns-then-not-is_good
returns-then-not-is_good g c = fed_bad (c.is_open.ensures.0 c.if-not-is_open.false) (λ b. false≢true (sym c.if-not-is_good.true ∙ c.is_good.ensures.1 b))

pub returns-in_err-draft : goal.returns-in_err-draft
returns-in_err-draft g c =
    let turned = err_from_is_err_and c.from_residual.result c.from_residual.ensures.1 in
    let marked = c.lexeme-marked.ensures in
    rw (turned.1 ∙ ap Err turned.2)
    (fed_refused c.args.self.now (c.is_open.ensures.0 c.if-not-is_open.false) (c.is_good.ensures.0 c.if-not-is_good.false) (beside_standing _ _ c.advance.ensures.beside) marked.mark marked.coming c.in_err-draft.ensures.told)

pub settle-requires-clause-room : goal.settle-requires-clause-room
settle-requires-clause-room g c = omega (arith, (moves_sound c.args.self.now c.in_ok-draft.ensures.told).0.few, ap (λ v. length (contexts_of v.items c.in_ok-draft.draft)) c.advance.ensures.beside.contexts)

pub settle-requires-clause-rising : goal.settle-requires-clause-rising
settle-requires-clause-rising g c = ap (λ v. rises (contexts_of v.items c.in_ok-draft.draft)) c.advance.ensures.beside.contexts ∙ (moves_sound c.args.self.now c.in_ok-draft.ensures.told).0.rising

pub settle-requires-clause-within : goal.settle-requires-clause-within
settle-requires-clause-within g c = omega (arith, (moves_sound c.args.self.now c.in_ok-draft.ensures.told).1, ap array_vec_len c.advance.ensures.beside.contexts)

pub returns : goal.returns
returns g c =
    let beside = c.advance.ensures.beside in
    let around = c.settle.ensures.around in
    let marked = c.lexeme-marked.ensures in
    rw around.parser
    (fed_accepted c.args.self.now (c.is_open.ensures.0 c.if-not-is_open.false) (c.is_good.ensures.0 c.if-not-is_good.false)
    (λ i. record {
      sheet = (around.sheet ∙ beside.sheet) i;
      next = next_of ((around.next ∙ beside.next) i);
      contexts = (c.settle.ensures.contexts ∙ ap (λ v. contexts_of v.items c.in_ok-draft.draft) beside.contexts) i;
      before = c.after-self.ensures i;
      written = [];
    })
    marked.mark marked.coming c.in_ok-draft.ensures.told)
