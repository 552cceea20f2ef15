-- The end of a sheet on a resolver. Assumes nothing.
use Rattle.std.proofs.Common.{◌≡◌, ℕ, Bool, true, false, cond, List, [], ◌∷◌, ◌++◌, take, Some, Ok, Err, sym, refl, ap, ◌∙◌, subst, arith}
use Rattle.std.proofs.lemmas.List.{append-nil}
use Rattle.parser.specs.Meaning.{Meaning}
use Rattle.parser.specs.Sets.{Lists}
use Rattle.sheet.specs.declared.fault.Fault.{Fault}
use Rattle.sheet.specs.declared.lexeme.Place.{Place}
use Rattle.sheet.specs.declared.lexeme.Token.{Token}
use Rattle.layout.specs.Calling.{anew, Calls, over, shut, Writes}
use Rattle.layout.specs.Service.{Does, State, finish_fails, gives_up}
use Rattle.layout.specs.declared.call.Answer.TheVariants.{Count as count, Closed as closed, Refused as refused}
use Rattle.layout.specs.declared.call.Call.TheVariants.{Finish as finish, GiveUp as give_up}
use Rattle.whole.specs.Feeding.{Closes, EndsWith, Keeps, Ran}
use Rattle.whole.specs.Keeping.{Gains, Keeping, some}
use Rattle.whole.specs.Whole.{Ends, all_faults, all_tokens, end_of, finished, given_up, most_faults, places, told, unfinished}
use Rattle.whole.specs.declared.progress.Progress.{Progress}
use Rattle.whole.proofs.Behind.{behind, ends_behind}

gives : {G : Lists} {reach : ℕ} {s : State} {t : ℕ} {us : List Token} {s' : State} → Does G reach s (give_up t) closed us s' → s' ≡ shut s
gives (gives_up e) = refl

-- one that is refused leaves it open
finish_leaves : {G : Lists} {reach : ℕ} {s : State} {t : ℕ} {p : Place} {free : ℕ} {f : Fault} {us : List Token} {s' : State} → Does G reach s (finish t p free) (refused f) us s' → s' ≡ s
finish_leaves (finish_fails w) = refl

pub refused_open : {m n : Meaning} {s s' : State} {t : ℕ} {p : Place} {free : ℕ} {f : Fault} {q q' : List Token} → Writes (over m s) (finish t p free) (refused f) q q' (over n s') → s'.sheet ≡ s.sheet
refused_open x = let c = x.calls in ap (λ (z : State). z.sheet) (c.state ∙ ap anew (finish_leaves c.does))

unfinished_ends : {G : Lists} {reach : ℕ} {s : State} {t : ℕ} {p : Place} {f : Fault} {us : List Token} {s' : State} (ts : List Token) → Does G reach s (finish t p places) (refused f) us s' → s'.sheet ≡ Some t → Ends G reach s t p ts [] (Err (f ∷ [])) (shut s')
unfinished_ends ts (finish_fails w) e = unfinished (finish_fails w) (gives_up e)

module _ (m n : Meaning) (s s' : State) (t : ℕ) (p : Place) (free : ℕ) (enough : free ≡ places) (q q' : List Token) (empty : q ≡ []) where
  -- nothing was refused
  finishing : (k : ℕ) (ts : List Token) (fs : List Fault) → some fs ≡ false → Writes (over m s) (finish t p free) (count k) q q' (over n s') → EndsWith (over m s) t p ts q' fs [] s'
  finishing k ts [] e x =
      let c = x.calls in
      let list : q' ≡ x.tokens = x.list ∙ ap (λ (l : List Token). l ++ x.tokens) empty in
      record {
        outcome = Ok (ts ++ q');
        ended = record {
          left = c.left;
          ends = subst (λ (us : List Token). Ends m.remainder m.left s t p ts [] (Ok (ts ++ us)) c.left) (sym list) (finished (subst (λ (j : ℕ). Does m.remainder m.left s (finish t p j) (count k) x.tokens c.left) enough c.does));
          state = c.state;
        };
        tokens = refl;
        faults = refl;
      }
  finishing k ts (f ∷ fs) e x = absurd (let z : ◌≡◌ {A = ℕ} 0 1 = cc in omega arith)

  -- nothing was refused but finish
  failing : (o : Meaning) (s'' : State) (f : Fault) (us : List Token) (ts : List Token) (fs : List Fault) → some fs ≡ false → Writes (over m s) (finish t p free) (refused f) q q' (over n s') → s'.sheet ≡ Some t → Calls (over n s') (give_up t) closed us (over o s'') → EndsWith (over m s) t p ts [] fs (f ∷ []) s''
  failing o s'' f us ts [] e x opened g =
      let c = x.calls in
      record {
        outcome = Err (f ∷ []);
        ended = record {
          left = shut c.left;
          ends = unfinished_ends ts (subst (λ (j : ℕ). Does m.remainder m.left s (finish t p j) (refused f) x.tokens c.left) enough c.does) (sym (ap (λ (z : State). z.sheet) c.state) ∙ opened);
          state = g.state ∙ ap anew (gives g.does) ∙ ap (λ (z : State). anew (shut z)) c.state;
        };
        tokens = sym (append-nil ts);
        faults = refl;
      }
  failing o s'' f us ts (h ∷ fs) e x opened g = absurd (let z : ◌≡◌ {A = ℕ} 0 1 = cc in omega arith)

  module _ {K : Type 0} (kept : K → List Token → List Fault → K → Type 0) (a : Progress K) (clean : a.refused ≡ false) (b : K) where
    pub closes_finished : (k : ℕ) → Writes (over m s) (finish t p free) (count k) q q' (over n s') → kept a.keeper q' [] b → Closes kept (over m s) t p a b s'
    closes_finished k w e = record { tokens = q'; faults = []; ends = λ ts fs is. finishing k ts fs (sym is ∙ clean) w; keeper = e }

    pub closes_unfinished : (o : Meaning) (s'' : State) (f : Fault) (us : List Token) → Writes (over m s) (finish t p free) (refused f) q q' (over n s') → s'.sheet ≡ Some t → Calls (over n s') (give_up t) closed us (over o s'') → kept a.keeper [] (f ∷ []) b → Closes kept (over m s) t p a b s''
    closes_unfinished o s'' f us w opened g e = record { tokens = []; faults = f ∷ []; ends = λ ts fs is. failing o s'' f us ts fs (sym is ∙ clean) w opened g; keeper = e }

-- something was refused: the sheet is given up
given : {m n : Meaning} {s s' : State} {t : ℕ} {us : List Token} (p : Place) (ts : List Token) (fs : List Fault) → some fs ≡ true → s.sheet ≡ Some t → Calls (over m s) (give_up t) closed us (over n s') → EndsWith (over m s) t p ts [] fs [] s'
given p ts [] e opened c = absurd (let z : ◌≡◌ {A = ℕ} 0 1 = cc in omega arith)
given {s = s} p ts (f ∷ fs) e opened c =
    record {
      outcome = Err (take most_faults (f ∷ fs));
      ended = record { left = shut s; ends = given_up (gives_up opened); state = c.state ∙ ap anew (gives c.does) };
      tokens = sym (append-nil ts);
      faults = sym (append-nil (f ∷ fs));
    }

module _ {K : Type 0} {kept : K → List Token → List Fault → K → Type 0} (laws : Keeping kept) where
  pub closes_given_up : {m n : Meaning} {s s' : State} {t : ℕ} {us : List Token} (p : Place) (a : Progress K) → a.refused ≡ true → s.sheet ≡ Some t → Calls (over m s) (give_up t) closed us (over n s') → Closes kept (over m s) t p a a.keeper s'
  closes_given_up p a e opened c = record { tokens = []; faults = []; ends = λ ts fs is. given p ts fs (sym is ∙ e) opened c; keeper = laws.none a.keeper }

  -- all that was fed, and then the end
  pub ran : {m n : Meaning} {s s' s'' : State} {t : ℕ} {p : Place} {a : K} {b c : Progress K} {d : K} (text : List ℕ) → b.keeper ≡ a → b.refused ≡ false → Keeps (Gains kept) (over m s) t (told text) b c (over n s') → p ≡ end_of text → Closes kept (over n s') t p c d s'' → Ran kept (over m s) t text a d s''
  ran {m} {n} {s} {s'} {s''} {t} {p} {a} {b} {c} {d} text starts clean k place x =
      let y = k.fed in
      let u = y.left.written in
      let ts = k.tokens in
      let fs = k.faults in
      let told-so : c.refused ≡ some fs = k.keeper.refused ∙ ap (λ (v : Bool). cond v true (some fs)) clean in
      let z = x.ends ts fs told-so in
      let out = z.outcome in
      let e = z.ended in
      let at : Ends n.remainder n.left (anew y.left) t p ts fs out e.left = subst (λ (v : State). Ends n.remainder n.left v t p ts fs out e.left) y.state e.ends in
      let there : Ends m.remainder m.left (behind u (anew y.left)) t p ts fs out (behind u e.left) = ends_behind n.remainder m.remainder u y.parser.remainder n.left m.left y.parser.left at in
      let start : behind u (anew y.left) ≡ y.left = ap (λ (w : List ℕ). record { sheet = y.left.sheet; next = y.left.next; contexts = y.left.contexts; before = y.left.before; written = w }) (append-nil u) in
      let from : Ends m.remainder m.left y.left t p ts fs out (behind u e.left) = subst (λ (v : State). Ends m.remainder m.left v t p ts fs out (behind u e.left)) start there in
      let both : kept b.keeper (ts ++ x.tokens) (fs ++ x.faults) d = laws.on b.keeper c.keeper d ts x.tokens fs x.faults k.keeper.keeper x.keeper in
      record {
        tokens = ts;
        faults = fs;
        outcome = out;
        fed = y.left;
        left = behind u e.left;
        feeding = y.feeding;
        ends = subst (λ (q : Place). Ends m.remainder m.left y.left t q ts fs out (behind u e.left)) place from;
        state = e.state;
        keeper = subst (λ (h : K). kept h (all_tokens ts out) (all_faults fs out) d) starts
            (subst (λ (l : List Fault). kept b.keeper (all_tokens ts out) l d) (sym z.faults) (subst (λ (l : List Token). kept b.keeper l (fs ++ x.faults) d) (sym z.tokens) both));
      }
