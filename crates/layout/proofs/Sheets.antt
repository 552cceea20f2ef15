-- What is tried of a lexeme or of the end, as a call on the open sheet. Assumes nothing.
use Rattle.std.proofs.Common.{◌≡◌, ℕ, ◌-◌, ◌≤◌, List, [], Some, Ok, Err, Result, sym, refl, ap, ◌∙◌, subst, arith, Option}
use Rattle.parser.specs.Meaning.{Meaning}
use Rattle.parser.specs.Sets.{Lists}
use Rattle.sheet.specs.declared.fault.Reason.{Reason}
use Rattle.sheet.specs.declared.fault.Reason.TheVariants.{BadLexeme, WrongTicket}
use Rattle.sheet.specs.declared.lexeme.Lexeme.{Lexeme}
use Rattle.sheet.specs.declared.lexeme.Place.{Place}
use Rattle.layout.specs.Calling.{Fed, Finished, next_of, over, shut, standing}
use Rattle.layout.specs.Contexts.{stacked}
use Rattle.arrayvec.specs.ArrayVec.{array_vec_len}
use Rattle.layout.specs.Drafts.{contexts_of}
use Rattle.layout.specs.Limits.{Laid, Runs}
use Rattle.layout.specs.Marks.{after, end_mark, mark_of}
use Rattle.layout.specs.Moves.{Beside, Moves, Took, Tries}
use Rattle.layout.specs.Service.{FeedFails, FinishFails, Good, State}
use Rattle.layout.specs.declared.draft.Draft.{Draft}
use Rattle.layout.specs.declared.resolver.Resolver.{Resolver}
use Rattle.layout.specs.declared.rule.Coming.{Coming}
use Rattle.layout.specs.declared.rule.Coming.TheVariants.{Lexeme as lexeme, End as ending}
use Rattle.layout.specs.declared.rule.Mark.{Mark}
use Rattle.layout.proofs.Rising.{Sound, runs_sound}
use Rattle.layout.proofs.Stacks.{length_stack}

-- a parser that took nothing
pub took_none : (m : Meaning) → Took [] m m
took_none m = record { language = λ w. (λ x. x, λ x. x); reach = refl; remainder = λ w. (λ x. x, λ x. x); left = omega arith }

-- nothing was written before, so all is left
from_start : {R : Lists} {left : ℕ} {ks : List ℕ} {m : Option Mark} {c : Coming} {o : Result Laid Reason} → Runs R [] left ks m c o → Runs R [] (left - 0) ks m c o
from_start {R} {left} {ks} {m} {c} {o} r = let all : left ≡ left - 0 = omega arith in subst (λ n. Runs R [] n ks m c o) all r

-- what is accepted leaves contexts that can be kept
pub moves_sound : {P : Type 0} (r : Resolver P) {m : Option Mark} {c : Coming} {free : ℕ} {before now : Meaning} {d : Draft} → Moves r.contexts.items m c free before now (Ok d) → Sound (contexts_of r.contexts.items d) × (d.depth ≤ array_vec_len r.contexts)
moves_sound r (Moves.accepted x (Tries.fits run w f) tokens contexts shallow took) =
    (subst Sound contexts (runs_sound run (record { rising = r.rising; few = omega (arith, length_stack r.contexts.items (array_vec_len r.contexts), r.shallow) })), shallow)

module _ {m : Meaning} {s : State} {t free : ℕ} where
  -- refused before the rules are asked
  pub fed_wrong : {l : Lexeme} → (s.sheet ≡ Some t → ⊥) → Fed (over m s) t l free (over m s) (Err WrongTicket)
  fed_wrong n = Fed.denied (FeedFails.wrong_ticket n) refl (took_none m)

  pub fed_bad : {l : Lexeme} → s.sheet ≡ Some t → (Good l → ⊥) → Fed (over m s) t l free (over m s) (Err BadLexeme)
  fed_bad e n = Fed.denied (FeedFails.bad_lexeme e n) refl (took_none m)

  pub finished_wrong : {p : Place} → (s.sheet ≡ Some t → ⊥) → Finished (over m s) t p free (over m s) (Err WrongTicket)
  finished_wrong n = Finished.denied (FinishFails.wrong_ticket n) refl (took_none m)

-- the same at a mark and before what comes, by another name
moves_at : {cs : List ℕ} {k k' : Option Mark} {c c' : Coming} {free : ℕ} {m n : Meaning} {o : Result Draft Reason} → k ≡ k' → c ≡ c' → Moves cs k c free m n o → Moves cs k' c' free m n o
moves_at {cs} {free = free} {m} {n} {o} e f x = subst (λ (p : Option Mark × Coming). Moves cs p.0 p.1 free m n o) (λ i. (e i, f i)) x

module _ {P : Type 0} (r : Resolver P) {m n : Meaning} {t free : ℕ} {s' : State} {k : Option Mark} {c : Coming} where
  -- refused by the rules, or for want of room
  pub fed_refused : {l : Lexeme} {why : Reason} → r.sheet ≡ Some t → Good l → s' ≡ standing r → k ≡ mark_of r.before l → c ≡ lexeme l → Moves r.contexts.items k c free m n (Err why) → Fed (over m (standing r)) t l free (over n s') (Err why)
  fed_refused {l} e b same at is told = refused (moves_at at is told)
    where
      refused : {why : Reason} → Moves r.contexts.items (mark_of r.before l) (lexeme l) free m n (Err why) → Fed (over m (standing r)) t l free (over n s') (Err why)
      refused (Moves.refused (Tries.stopped run) took) = Fed.denied (FeedFails.stopped e b (from_start run)) same took
      refused (Moves.refused (Tries.not_whole run w) took) = absurd (w tt)
      refused (Moves.refused (Tries.no_room run w f) took) = Fed.denied (FeedFails.no_room e b (from_start run) f) same took

  pub finished_refused : {p : Place} {why : Reason} → r.sheet ≡ Some t → s' ≡ standing r → k ≡ end_mark r.before → c ≡ ending p → Moves r.contexts.items k c free m n (Err why) → Finished (over m (standing r)) t p free (over n s') (Err why)
  finished_refused {p} e same at is told = refused (moves_at at is told)
    where
      refused : {why : Reason} → Moves r.contexts.items (end_mark r.before) (ending p) free m n (Err why) → Finished (over m (standing r)) t p free (over n s') (Err why)
      refused (Moves.refused (Tries.stopped run) took) = Finished.denied (FinishFails.stopped e (from_start run)) same took
      refused (Moves.refused (Tries.not_whole run w) took) = Finished.denied (FinishFails.not_complete e (from_start run) w) same took
      refused (Moves.refused (Tries.no_room run w f) took) = Finished.denied (FinishFails.no_room e (from_start run) w f) same took

  -- accepted
  pub fed_accepted : {l : Lexeme} {d : Draft} → r.sheet ≡ Some t → Good l → s' ≡ record { sheet = r.sheet; next = next_of r.next; contexts = contexts_of r.contexts.items d; before = after l.kind; written = [] } → k ≡ mark_of r.before l → c ≡ lexeme l
      → Moves r.contexts.items k c free m n (Ok d) → Fed (over m (standing r)) t l free (over n s') (Ok d)
  fed_accepted {l} {d} e b same at is told = accepted (moves_at at is told)
    where
      accepted : Moves r.contexts.items (mark_of r.before l) (lexeme l) free m n (Ok d) → Fed (over m (standing r)) t l free (over n s') (Ok d)
      accepted (Moves.accepted x (Tries.fits run w f) tokens contexts shallow took) =
          Fed.accepted x e b (from_start run) f tokens (same ∙ ap (λ ks. record { sheet = r.sheet; next = next_of r.next; contexts = ks; before = after l.kind; written = [] }) (sym contexts)) took

  pub finished_accepted : {p : Place} {d : Draft} → r.sheet ≡ Some t → s' ≡ shut (standing r) → k ≡ end_mark r.before → c ≡ ending p → Moves r.contexts.items k c free m n (Ok d) → Finished (over m (standing r)) t p free (over n s') (Ok d)
  finished_accepted {p} {d} e same at is told = accepted (moves_at at is told)
    where
      accepted : Moves r.contexts.items (end_mark r.before) (ending p) free m n (Ok d) → Finished (over m (standing r)) t p free (over n s') (Ok d)
      accepted (Moves.accepted x (Tries.fits run w f) tokens contexts shallow took) = Finished.accepted x e (from_start run) w f tokens same took

-- all but the parser is as before, so the sheet stands as before
pub beside_standing : {P : Type 0} (r q : Resolver P) → Beside r q → standing q ≡ standing r
beside_standing r q same = λ i. record { sheet = same.sheet i; next = next_of (same.next i); contexts = stacked (same.contexts i).items; before = same.last i; written = [] }
