-- The tokens of a sheet have the shape of braces, and are no more than the reach. Assumes nothing.
use Rattle.std.proofs.Common.{◌≡◌, ℕ, ◌-◌, ◌≤◌, Bool, true, false, List, [], ◌∷◌, ◌++◌, length, is_some, Some, sym, refl, ap, subst, arith}
use Rattle.std.proofs.lemmas.List.{length-append, length-map}
use Rattle.std.proofs.lemmas.Bool.{false≢true}
use Rattle.parser.specs.Sets.{Lists}
use Rattle.sheet.specs.declared.lexeme.Place.{Place}
use Rattle.sheet.specs.declared.lexeme.Token.{Token}
use Rattle.layout.specs.Law.{sheet_of}
use Rattle.layout.specs.Layout.{kinds}
use Rattle.layout.specs.Service.{Does, Event, Run, State, begin_open, begin_spent, begins, feed_fails, feeds, finish_fails, finishes, give_up_fails, gives_up, more, new, none}
use Rattle.layout.specs.declared.call.Answer.{Answer}
use Rattle.layout.specs.declared.call.Answer.TheVariants.{Count as count}
use Rattle.layout.specs.declared.call.Call.{Call}
use Rattle.layout.specs.declared.call.Call.TheVariants.{Finish as finish}
use Rattle.layout.specs.declared.rule.Before.TheVariants.{Nothing}
use Rattle.layout.proofs.Finish.{sentence, stands}
use Rattle.layout.proofs.Due.{due, due_following, not_the_start, ready_end, ready_lexeme}
use Rattle.layout.proofs.Paths.{path_on}
use Rattle.layout.specs.Shape.{Path, here}
use Rattle.layout.proofs.Shapes.{runs_shaped}

-- some tokens, and no more of them than were left
fits_on : (u : List ℕ) (ts : List Token) (reach : ℕ) → length u ≤ reach → length ts ≤ reach - length u → length (u ++ kinds ts) ≤ reach
fits_on u ts reach h x = simp (length-append, length-map) (omega arith)

module _ (G : Lists) (reach : ℕ) where
  -- while a sheet is open, what was written leads from its start to where the service stands
  record Braced (s : State) : Type 0 where
    path : Path 0 true s.written (length s.contexts) (due s.before)
    fits : length s.written ≤ reach
    fresh : s.before ≡ Nothing → s.contexts ≡ []

  abbrev Keeps : State → Type 0
  Keeps s = is_some s.sheet ≡ true → Braced s

  keeps_on : {s s' : State} {c : Call} {a : Answer} {ts : List Token} → Keeps s → Does G reach s c a ts s' → Keeps s'
  keeps_on h (begins e n) o = record { path = here; fits = omega arith; fresh = λ x. refl }
  keeps_on h (begin_open e) o = h o
  keeps_on h (begin_spent e n) o = h o
  keeps_on {s} h (feeds {l = l} {x = y} e b r f) o =
      let at = h o in
      let x = runs_shaped (due s.before) r (b.0, b.1) (ready_lexeme s.before l s.contexts at.fresh) in
      record {
        path = subst (λ (d : Bool). Path 0 true (s.written ++ kinds y.tokens) (length y.contexts) d) (sym (due_following l.kind)) (path_on at.path x.path);
        fits = fits_on s.written y.tokens reach at.fits x.fits;
        fresh = λ z. absurd (not_the_start l.kind z);
      }
  keeps_on h (feed_fails w) o = h o
  keeps_on h (finishes e r g f) o = absurd (false≢true o)
  keeps_on h (finish_fails w) o = h o
  keeps_on h (gives_up e) o = absurd (false≢true o)
  keeps_on h (give_up_fails n) o = h o

  keeps_run : {s t : State} (es : List Event) → Keeps s → Run G reach s es t → Keeps t
  keeps_run [] h none = h
  keeps_run (e ∷ es) h (more d r) = keeps_run es (keeps_on h d) r

  -- the tokens of a finished sheet: a sentence, in the shape of braces, within the reach
  pub record Whole (ts : List Token) : Type 0 where
    pub path : Path 0 true (kinds ts) 0 false
    pub fits : length ts ≤ reach
    pub sentence : G (kinds ts)

  -- what a finished sheet is, by the kinds alone
  whole_so : (u : List ℕ) (ts us : List Token) → u ≡ kinds ts → Path 0 true (u ++ kinds us) 0 false → length (u ++ kinds us) ≤ reach → G (u ++ kinds us) → Whole (ts ++ us)
  whole_so u ts us e p n g =
      let same = sym (sentence G reach ts us u e) in
      record {
        path = subst (λ (w : List ℕ). Path 0 true w 0 false) same p;
        fits = omega (arith, ap length same, length-map (ts ++ us) (λ (t : Token). t.kind));
        sentence = subst G same g;
      }

  finished_so : {s s' : State} {t : ℕ} {p : Place} {free n : ℕ} {us : List Token} (ts : List Token) → Keeps s → (s.sheet ≡ Some t → s.written ≡ kinds ts) → Does G reach s (finish t p free) (count n) us s' → Whole (ts ++ us)
  finished_so {s} {p = p} ts h w (finishes {x = y} e r g f) =
      let at = h (ap is_some e) in
      let x = runs_shaped (due s.before) r tt (ready_end s.before p s.contexts) in
      whole_so s.written ts y.tokens (w e) (path_on at.path x.path) (fits_on s.written y.tokens reach at.fits x.fits) g

  pub finished_whole : (first : ℕ) (es : List Event) (s s' : State) (t : ℕ) (p : Place) (free n : ℕ) (ts : List Token) → Run G reach (new first) es s → Does G reach s (finish t p free) (count n) ts s' → Whole ((sheet_of es).tokens ++ ts)
  finished_whole first es s s' t p free n ts run d = finished_so (sheet_of es).tokens (keeps_run es (λ o. absurd (false≢true o)) run) (λ e. (stands G reach first es s t run e).written) d
