-- Inside the limits, a sheet is finished exactly when the rules turn it into a sentence. Assumes nothing.
use Rattle.std.proofs.Common.{◌≡◌, ℕ, true, ◌⊎◌, List, [], ◌∷◌, ◌++◌, is_some, Some, sym, refl, ap, ◌∙◌, subst, inl, inr, ⊎_elim}
use Rattle.std.proofs.lemmas.List.{append-nil, map-append}
use Rattle.std.proofs.lemmas.Bool.{false≢true}
use Rattle.parser.specs.Sets.{Lists}
use Rattle.sheet.specs.declared.fault.Reason.{Reason}
use Rattle.sheet.specs.declared.fault.Reason.TheVariants.{TooDeep, ReachSpent, NoRoom}
use Rattle.sheet.specs.declared.lexeme.Lexeme.{Lexeme}
use Rattle.sheet.specs.declared.lexeme.Place.{Place}
use Rattle.sheet.specs.declared.lexeme.Token.{Token}
use Rattle.layout.specs.Law.{Accepted, FinishLaw, Inside, Sheet, sheet_of, since, since_begin}
use Rattle.layout.specs.Layout.{Lays, Resolves, TurnsIntoSentence, at_end, kinds}
use Rattle.layout.specs.Limits.{Laid}
use Rattle.layout.specs.Marks.{end_mark, mark_of}
use Rattle.layout.specs.declared.rule.Before.{Before}
use Rattle.layout.specs.declared.rule.Before.TheVariants.{Nothing}
use Rattle.layout.specs.declared.rule.Coming.TheVariants.{Lexeme as lexeme, End as ending}
use Rattle.layout.specs.Service.{Does, Event, FinishFails, Run, State, begin_open, begin_spent, begins, feed_fails, feeds, finish_fails, finishes, give_up_fails, gives_up, more, new, none}
use Rattle.layout.specs.declared.call.Answer.{Answer}
use Rattle.layout.specs.declared.call.Call.{Call}
use Rattle.layout.specs.declared.call.Call.TheVariants.{Finish as finish}
use Rattle.layout.proofs.Single.{single_step}
use Rattle.layout.proofs.Sofar.{Sofar, end_limited, runs_lays, start, step, through, whole}

module _ (G : Lists) (reach : ℕ) where
  -- while a sheet is open, its tokens are what the rules write of its lexemes, and the service stands where they do
  pub record Open (s : State) (x : Sheet) : Type 0 where
    pub sofar : Sofar G x.lexemes x.tokens s.contexts s.before
    pub written : s.written ≡ kinds x.tokens

  abbrev pub Stands : State → Sheet → Type 0
  Stands s x = is_some s.sheet ≡ true → Open s x

  stands_on : {s s' : State} {c : Call} {a : Answer} {ts : List Token} (x : Sheet) → Stands s x → Does G reach s c a ts s' → Stands s' (since x c a ts)
  stands_on x h (begins e n) o = record { sofar = start; written = refl }
  stands_on x h (begin_open e) o = h o
  stands_on x h (begin_spent e n) o = h o
  stands_on {s} x h (feeds {l = l} {x = y} e b r f) o =
      let before = h o in
      record {
        sofar = step before.sofar (subst (λ (u : List ℕ). Lays G u s.contexts (mark_of s.before l) (lexeme l) y.tokens y.contexts) before.written (runs_lays G r refl));
        written = ap (λ w. w ++ kinds y.tokens) before.written ∙ sym (map-append (λ (t : Token). t.kind) x.tokens y.tokens);
      }
  stands_on x h (feed_fails w) o = h o
  stands_on x h (finishes e r g f) o = absurd (false≢true o)
  stands_on x h (finish_fails w) o = h o
  stands_on x h (gives_up e) o = absurd (false≢true o)
  stands_on x h (give_up_fails n) o = h o

  stands_run : {s t : State} (x : Sheet) (es : List Event) → Stands s x → Run G reach s es t → Stands t (since_begin x es)
  stands_run x [] h none = h
  stands_run x (e ∷ es) h (more d r) = stands_run (since x e.call e.answer e.tokens) es (stands_on x h d) r

  -- the open sheet of a run
  pub stands : (first : ℕ) (es : List Event) (s : State) (t : ℕ) → Run G reach (new first) es s → s.sheet ≡ Some t → Open s (sheet_of es)
  stands first es s t r e = stands_run (record { lexemes = []; tokens = [] }) es (λ o. absurd (false≢true o)) r (ap is_some e)

  -- what is finished is a sentence
  finished : (ls : List Lexeme) (ts : List Token) (s : State) (p : Place) (y : Laid) → Sofar G ls ts s.contexts s.before → s.written ≡ kinds ts → Lays G s.written s.contexts (end_mark s.before) (ending p) y.tokens y.contexts
      → Resolves G [] [] Nothing ls p (ts ++ y.tokens)
  finished ls ts s p y so w lays =
      subst (λ (x : List Lexeme). Resolves G [] [] Nothing x p (ts ++ y.tokens)) (append-nil ls)
      (whole G [] p y.tokens so (at_end (subst (λ (u : List ℕ). Lays G u s.contexts (end_mark s.before) (ending p) y.tokens y.contexts) w lays)))

  pub sentence : (ts us : List Token) (w : List ℕ) → w ≡ kinds ts → kinds (ts ++ us) ≡ w ++ kinds us
  sentence ts us w e = map-append (λ (t : Token). t.kind) ts us ∙ ap (λ x. x ++ kinds us) (sym e)

  told : {s s' : State} {t : ℕ} {p : Place} {free : ℕ} {a : Answer} {us : List Token} (x : Sheet) → Open s x → Does G reach s (finish t p free) a us s' → Accepted a → Resolves G [] [] Nothing x.lexemes p (x.tokens ++ us) × TurnsIntoSentence G x.lexemes p
  told {s} {p = p} x o (finishes {x = y} e r g f) ok =
      let r' = finished x.lexemes x.tokens s p y o.sofar o.written (runs_lays G r refl) in
      (r', (x.tokens ++ y.tokens, (r', subst G (sym (sentence x.tokens y.tokens s.written o.written)) g)))
  told x o (finish_fails w) ok = absurd ok

  -- a sentence is finished, unless a limit stops it
  fails_so : {s : State} {t : ℕ} {p : Place} {free : ℕ} {w : Reason} {us : List Token} {ls : List ℕ} → s.sheet ≡ Some t → Lays G s.written s.contexts (end_mark s.before) (ending p) us ls → G (s.written ++ kinds us) → FinishFails G reach s t p free w
      → (w ≡ TooDeep) ⊎ ((w ≡ ReachSpent) ⊎ (w ≡ NoRoom))
  fails_so e lays g (FinishFails.wrong_ticket n) = absurd (n e)
  fails_so e lays g (FinishFails.stopped {why = w} e' r) = ⊎_elim inl (λ x. inr (inl x)) (end_limited G w lays r refl g)
  fails_so {s} e lays g (FinishFails.not_complete e' r n) = absurd (n (subst (λ (l : List Token). G (s.written ++ kinds l)) (single_step G lays (runs_lays G r refl)).0 g))
  fails_so e lays g (FinishFails.no_room e' r g' f) = inr (inr refl)

  end_of : {u ks : List ℕ} {b : Before} {p : Place} {us : List Token} → Resolves G u ks b [] p us → (ls : List ℕ) × Lays G u ks (end_mark b) (ending p) us ls
  end_of (at_end {ks' = ls} lays) = (ls, lays)

  accepted_so : {s s' : State} {t : ℕ} {p : Place} {free : ℕ} {a : Answer} {us : List Token} (x : Sheet) → Open s x → s.sheet ≡ Some t → Does G reach s (finish t p free) a us s' → Inside a → TurnsIntoSentence G x.lexemes p → Accepted a
  accepted_so x o e (finishes e' r g f) inside turns = tt
  accepted_so {s} {p = p} x o e (finish_fails w) inside turns =
      let out = turns.0 in
      let rest = through G [] p out o.sofar (subst (λ (l : List Lexeme). Resolves G [] [] Nothing l p out) (sym (append-nil x.lexemes)) turns.1.0) in
      let last = end_of rest.resolves in
      let g = subst G (ap kinds rest.split ∙ sentence x.tokens rest.rest s.written o.written) turns.1.1 in
      ⊎_elim inside.0 (⊎_elim inside.1 inside.2)
      (fails_so e (subst (λ (u : List ℕ). Lays G u s.contexts (end_mark s.before) (ending p) rest.rest last.0) (sym o.written) last.1) g w)

  pub finish_law : FinishLaw G reach
  finish_law =
      record {
        accepted = λ first es s s' t p free a ts run e d ok. told (sheet_of es) (stands first es s t run e) d ok;
        accepts = λ first es s s' t p free a ts run e d inside turns. accepted_so (sheet_of es) (stands first es s t run e) e d inside turns;
      }
