use Rattle.std.proofs.Common.{◌≡◌, ℕ, Ok, Err, Result, MatchResult, ap, sym, ◌∙◌, subst}
use Rattle.std.proofs.lemmas.Bool.{true≢false}
use Rattle.std.specs.Result.{IsErrAnd}
use Rattle.std.proofs.lemmas.Result.{err_from_is_err_and}
use Rattle.sheet.specs.declared.fault.Reason.{Reason}
use Rattle.parser.specs.Meaning.{Meaning, Takes}
use Rattle.parser.specs.declared.Refused.{Refused}
use Rattle.parser.specs.declared.Refused.TheVariants.{NotViable, ReachSpent}
use Rattle.parser.proofs.Meanings.{alike_refl}
use Rattle.layout.specs.Drafts.{Step, not_viable, reach_spent, reason_of, taken_on, too_deep}
use Rattle.layout.specs.Limits.{Room}
use Rattle.layout.proofs.draft.take_token.Goals as goal

pub returns-then-not-has_room : goal.returns-then-not-has_room
returns-then-not-has_room g c = too_deep (λ room. true≢false (sym (c.has_room.ensures.1 room) ∙ c.if-not-has_room.true)) (alike_refl _)

-- what the parser answered, with its refusal as a reason
stepped : (kind blocks : ℕ) (m n : Meaning) (o : Result (Unit {0}) Refused) (o' : Result (Unit {0}) Reason) → Room kind blocks → Takes kind m o n → MatchResult o (λ x. o' ≡ Ok x) (λ e. IsErrAnd o' (λ w. w ≡ reason_of e)) → Step kind blocks m n o'
stepped kind blocks m n (Ok x) o' room told is = subst (Step kind blocks m n) (sym is) (taken_on room told.0 told.1 told.2)
stepped kind blocks m n (Err NotViable) o' room told is = let e = err_from_is_err_and o' is in subst (Step kind blocks m n) (sym (e.1 ∙ ap Err e.2)) (not_viable room told.0 told.1)
stepped kind blocks m n (Err ReachSpent) o' room told is = let e = err_from_is_err_and o' is in subst (Step kind blocks m n) (sym (e.1 ∙ ap Err e.2)) (reach_spent room told.0 told.1 told.2)

pub returns : goal.returns
returns g c = stepped c.args.kind c.args.blocks _ _ c.take.result c.map_err.result (c.has_room.ensures.0 c.if-not-has_room.false) c.take.ensures c.map_err.ensures.cases
