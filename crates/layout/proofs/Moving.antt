-- What comes is tried on a marked parser: accepted, refused, and taken back. Assumes nothing.
use Rattle.std.proofs.Common.{◌≡◌, ℕ, ◌-◌, ◌<◌, ◌≤◌, List, [], ◌++◌, length, Ok, Err, Result, sym, ap, ◌∙◌, subst, arith, Option}
use Rattle.std.proofs.lemmas.List.{append-nil}
use Rattle.parser.specs.Meaning.{Alike, Mark as Held, Meaning, SameMark, holds, kept, marked, restored, returned}
use Rattle.parser.specs.Runs.{after as after_kinds}
use Rattle.parser.specs.Sets.{Lists, Same}
use Rattle.parser.proofs.Meanings.{mark_trans, same_sym, same_trans}
use Rattle.sheet.specs.declared.fault.Reason.{Reason}
use Rattle.sheet.specs.declared.fault.Reason.TheVariants.{NoRoom, NotComplete}
use Rattle.layout.specs.Contexts.{stacked}
use Rattle.layout.specs.Drafts.{Bound, Laying, drafted_tokens}
use Rattle.layout.specs.Drafts as drafts
use Rattle.layout.specs.Layout.{kinds}
use Rattle.layout.specs.Limits.{Laid}
use Rattle.layout.specs.Moves.{Attempts, Moves, Tries, Whole, WholeAt}
use Rattle.layout.specs.declared.draft.Draft.{Draft}
use Rattle.layout.specs.declared.rule.Coming.{Coming}
use Rattle.layout.specs.declared.rule.Coming.TheVariants.{Lexeme as lexeme, End as ending}
use Rattle.layout.specs.declared.rule.Mark.{Mark}
use Rattle.layout.proofs.Shifts.{runs_at}

module _ (cs : List ℕ) (m : Option Mark) (c : Coming) (free : ℕ) (before now : Meaning) where
  -- the parser tells at the end whether what was written is a sentence
  whole_told : (c : Coming) (x : Laid) → Alike now (after_kinds (kinds x.tokens) before) → WholeAt now.remainder c → Whole before.remainder c x
  whole_told (lexeme l) x so w = tt
  whole_told (ending p) x so w = subst before.remainder (append-nil (kinds x.tokens)) ((so.remainder []).0 w)

  told_whole : (c : Coming) (x : Laid) → Alike now (after_kinds (kinds x.tokens) before) → Whole before.remainder c x → WholeAt now.remainder c
  told_whole (lexeme l) x so w = tt
  told_whole (ending p) x so w = (so.remainder []).1 (subst before.remainder (sym (append-nil (kinds x.tokens))) w)

  bound_of : (u : List ℕ) → Alike now (after_kinds u before) → Bound now before
  bound_of u so = record { language = so.language; reach = so.reach; mark = so.mark }

  -- the rules stop
  pub attempt_stopped : (why : Reason) → Laying cs m c before now (Err why) → Attempts cs m c free before now (Err why)
  attempt_stopped why (drafts.stopped r b) = Attempts.refused (Tries.stopped r) b

  -- the sentence is not whole
  pub attempt_not_whole : (d : Draft) → Laying cs m c before now (Ok d) → (WholeAt now.remainder c → ⊥) → Attempts cs m c free before now (Err NotComplete)
  attempt_not_whole d (drafts.laid x r tokens contexts shallow so) n = Attempts.refused (Tries.not_whole r (λ w. n (told_whole c x so w))) (bound_of (kinds x.tokens) so)

  -- not all of it fits
  pub attempt_no_room : (d : Draft) → Laying cs m c before now (Ok d) → WholeAt now.remainder c → free < length (drafted_tokens c d) → Attempts cs m c free before now (Err NoRoom)
  attempt_no_room d (drafts.laid x r tokens contexts shallow so) w few = Attempts.refused (Tries.no_room r (whole_told c x so w) (omega (arith, ap length tokens))) (bound_of (kinds x.tokens) so)

  -- all is accepted
  pub attempt_fits : (d : Draft) → Laying cs m c before now (Ok d) → WholeAt now.remainder c → length (drafted_tokens c d) ≤ free → Attempts cs m c free before now (Ok d)
  attempt_fits d (drafts.laid x r tokens contexts shallow so) w enough = Attempts.accepted x (Tries.fits r (whole_told c x so w) (omega (arith, ap length tokens))) tokens contexts shallow so

-- over a language with the same lists all is tried alike
whole_same : {A R : Lists} (c : Coming) (x : Laid) → Same A R → Whole A c x → Whole R c x
whole_same a b c d = grind arith

pub tries_same : {A R : Lists} {left : ℕ} {ks : List ℕ} {m : Option Mark} {c : Coming} {free : ℕ} {o : Result Laid Reason} → Same A R → Tries A left ks m c free o → Tries R left ks m c free o
tries_same {A} {R} {c = c} same (Tries.fits {x = x} r w f) = Tries.fits (runs_at A R [] same r) (whole_same c x same w) f
tries_same {A} {R} same (Tries.stopped r) = Tries.stopped (runs_at A R [] same r)
tries_same {A} {R} {c = c} same (Tries.not_whole {x = x} r n) = Tries.not_whole (runs_at A R [] same r) (λ w. n (whole_same c x (same_sym same) w))
tries_same {A} {R} {c = c} same (Tries.no_room {x = x} r w f) = Tries.no_room (runs_at A R [] same r) (whole_same c x same w) f

module _ (cs : List ℕ) (m : Option Mark) (c : Coming) (free : ℕ) (before mid now last : Meaning) (mark : Alike mid (marked before)) where
  tried : {o : Result Laid Reason} → Tries mid.remainder mid.left (stacked cs) m c free o → Tries before.remainder before.left (stacked cs) m c free o
  tried {o} t = subst (λ n. Tries before.remainder n (stacked cs) m c free o) mark.left (tries_same mark.remainder t)

  -- what was accepted is kept
  pub moved_on : (d : Draft) → Attempts cs m c free mid now (Ok d) → Alike last (kept now) → Moves cs m c free before last (Ok d)
  moved_on d (Attempts.accepted x t tokens contexts shallow so) end =
      let u = kinds x.tokens in
      Moves.accepted x (tried t) tokens contexts shallow
      (record {
        language = same_trans end.language (same_trans so.language mark.language);
        reach = end.reach ∙ so.reach ∙ mark.reach;
        remainder = same_trans end.remainder (same_trans so.remainder (λ w. mark.remainder (u ++ w)));
        left = end.left ∙ so.left ∙ ap (λ n. n - length u) mark.left;
      })

  back_to : (held : Held) → SameMark held (holds before.remainder before.left) → (n : Meaning) → Alike n (restored held now) → Same n.remainder before.remainder × (n.left ≡ before.left) × Same n.language now.language × (n.reach ≡ now.reach)
  back_to a b c d = grind arith

  -- what was refused is taken back
  pub moved_back : (why : Reason) → Attempts cs m c free mid now (Err why) → Alike last (returned now) → Moves cs m c free before last (Err why)
  moved_back why (Attempts.refused t b) end =
      let as_before = back_to now.mark (mark_trans now.mark mid.mark (holds before.remainder before.left) b.mark mark.mark) last end in
      Moves.refused (tried t)
      (record {
        language = same_trans as_before.2 (same_trans b.language mark.language);
        reach = as_before.3 ∙ b.reach ∙ mark.reach;
        remainder = as_before.0;
        left = as_before.1 ∙ omega arith;
      })
