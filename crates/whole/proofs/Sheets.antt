-- A whole sheet over the language of a resolver's parser, and its law. Assumes nothing.
use Rattle.std.proofs.Common.{◌≡◌, ℕ, ◌-◌, List, [], ◌∷◌, ◌++◌, map, length, take, vec_items, Some, Ok, Err, Result, sym, refl, ap, ◌∙◌, subst, arith}
use Rattle.std.proofs.lemmas.List.{append_assoc, append-nil}
use Rattle.parser.specs.Meaning.{Meaning}
use Rattle.parser.specs.Sets.{Lists}
use Rattle.sheet.specs.declared.fault.Fault.{Fault}
use Rattle.sheet.specs.declared.lexeme.Lexeme.{Lexeme}
use Rattle.sheet.specs.declared.lexeme.Place.{Place}
use Rattle.sheet.specs.declared.lexeme.Token.{Token}
use Rattle.layout.specs.Calling.{Stand, anew, Calls, over}
use Rattle.layout.specs.Law.{Sheet, since_begin}
use Rattle.layout.specs.Layout.{Turns, kinds}
use Rattle.layout.specs.Service.{Does, Event, Run, State, begin_open, begin_spent, begins, feed_fails, feeds, more, none as no_call}
use Rattle.layout.specs.declared.call.Answer.{Answer}
use Rattle.layout.specs.declared.call.Answer.TheVariants.{Ticket as ticket, Count as count, Refused as refused}
use Rattle.layout.specs.declared.call.Call.TheVariants.{Begin as begin, Feed as feed, Finish as finish}
use Rattle.layout.proofs.Finish.{finish_law}
use Rattle.layout.proofs.Single.{single_sheet}
use Rattle.whole.specs.Feeding.{Brings, Comes, Ran}
use Rattle.whole.specs.Kept.{Holds}
use Rattle.whole.specs.Whole.{Ends, Feeding, Lawful, Sound, Whole, Yields, all_faults, all_tokens, begun, end_of, fault_of, fed, finished, given_up, most_faults, none, not_begun, places, told, unfinished, unread, verdict}
use Rattle.whole.specs.declared.kept.Kept.{Kept}
use Rattle.whole.proofs.Behind.{ends_behind, feeding_behind}
use Rattle.whole.proofs.Feeds.{fed_sheet}

module _ (m n : Meaning) (s s₁ : State) where
  refused_whole : {l : State} {us : List Token} (f : Fault) (xs : List (Result Lexeme Fault)) (p : Place) → Does m.remainder m.left s begin (refused f) us l → Yields m.language m.reach s xs p [] (f ∷ []) (Err (f ∷ [])) l
  refused_whole f xs p (begin_open e) = not_begun (begin_open e)
  refused_whole f xs p (begin_spent e n) = not_begun (begin_spent e n)

  -- a sheet that could not be begun
  pub brings_not_begun : {K : Type 0} (kept : K → List Token → List Fault → K → Type 0) (f : Fault) (us : List Token) (text : List ℕ) (a b : K) → Calls (over m s) begin (refused f) us (over n s₁) → kept a [] (f ∷ []) b → Brings kept (over m s) text a b s₁
  brings_not_begun kept f us text a b c e =
      record { tokens = []; faults = f ∷ []; outcome = Err (f ∷ []); left = c.left; yields = refused_whole f (told text) (end_of text) c.does; state = c.state; keeper = e }

  opens : {l : State} {us : List Token} (k : ℕ) → Does m.remainder m.left s begin (ticket k) us l → l.sheet ≡ Some k
  opens k (begins e n) = refl

  pub begun_open : (k : ℕ) (us : List Token) → Calls (over m s) begin (ticket k) us (over n s₁) → s₁.sheet ≡ Some k
  begun_open k us c = ap (λ (z : State). z.sheet) c.state ∙ opens k c.does

  begun_none : {l : State} {us : List Token} (k : ℕ) → Does m.remainder m.left s begin (ticket k) us l → l.written ≡ []
  begun_none k (begins e n) = refl

  begins_there : {l : State} {us : List Token} (k : ℕ) → Does m.remainder m.left s begin (ticket k) us l → Does m.language m.reach s begin (ticket k) [] (anew l)
  begins_there k (begins e n) = begins e n

  pub brings_begun : {K : Type 0} (kept : K → List Token → List Fault → K → Type 0) (k : ℕ) (us : List Token) (text : List ℕ) (a b : K) (s₂ : State) → Calls (over m s) begin (ticket k) us (over n s₁) → Ran kept (over n s₁) k text a b s₂ → Brings kept (over m s) text a b s₂
  brings_begun kept k us text a b s₂ c x =
      let nothing = begun_none k c.does in
      let same : (w : List ℕ) → (n.remainder w → m.language w) × (m.language w → n.remainder w) =
      λ w. let z = c.parser.remainder w in (λ h. subst (λ (u : List ℕ). m.language (u ++ w)) nothing (z.0 h), λ h. z.1 (subst (λ (u : List ℕ). m.language (u ++ w)) (sym nothing) h)) in
      let all : n.left ≡ m.reach - length {A = ℕ} [] = omega (arith, c.parser.left, ap length nothing) in
      let feeding : Feeding m.language m.reach k s₁ (told text) x.tokens x.faults x.fed = feeding_behind n.remainder m.language [] same n.left m.reach all x.feeding in
      record {
        tokens = all_tokens x.tokens x.outcome;
        faults = all_faults x.faults x.outcome;
        outcome = x.outcome;
        left = x.left;
        yields = begun (begins_there k c.does) (subst (λ (z : State). Feeding m.language m.reach k z (told text) x.tokens x.faults x.fed) c.state feeding) (ends_behind n.remainder m.language [] same n.left m.reach all x.ends);
        state = x.state;
        keeper = x.keeper;
      }

-- the outcome of a sheet with these tokens and faults
module _ {G : Lists} {reach : ℕ} {s s' : State} {xs : List (Result Lexeme Fault)} {p : Place} where
  pub whole_of : {ts : List Token} {fs : List Fault} {r : Result (List Token) (List Fault)} → Yields G reach s xs p ts fs r s' → Whole G reach s xs p r s'
  whole_of (not_begun d) = Whole.not_begun d
  whole_of (begun d x e) = Whole.begun d x e

ends_verdict : {G : Lists} {reach t : ℕ} {s s' : State} {p : Place} {ts : List Token} {fs : List Fault} {r : Result (List Token) (List Fault)} → Ends G reach s t p ts fs r s' → r ≡ verdict (all_tokens ts r) (take most_faults (all_faults fs r))
ends_verdict (given_up d) = refl
ends_verdict (unfinished d x) = refl
ends_verdict (finished d) = refl

pub yields_verdict : {G : Lists} {reach : ℕ} {s s' : State} {xs : List (Result Lexeme Fault)} {p : Place} {ts : List Token} {fs : List Fault} {r : Result (List Token) (List Fault)} → Yields G reach s xs p ts fs r s' → r ≡ verdict ts (take most_faults fs)
yields_verdict (not_begun d) = refl
yields_verdict (begun d x e) = ends_verdict e

-- what was kept tells the outcome
pub comes_kept : {x : Stand} {text : List ℕ} {a b : Kept} {s' : State} (r : Result (List Token) (List Fault)) → vec_items a.tokens ≡ [] → vec_items a.faults ≡ [] → Brings Holds x text a b s' → r ≡ verdict (vec_items b.tokens) (vec_items b.faults) → Comes x text r s'
comes_kept {x} {text} {b = b} r no-tokens no-faults y is =
    let tokens = y.keeper.tokens ∙ ap (λ (l : List Token). l ++ y.tokens) no-tokens in
    let faults = y.keeper.faults ∙ ap (λ (l : List Fault). take most_faults (l ++ y.faults)) no-faults in
    let same = yields_verdict y.yields ∙ ap (λ (l : List Token). verdict l (take most_faults y.faults)) (sym tokens) ∙ ap (verdict (vec_items b.tokens)) (sym faults) ∙ sym is in
    record { left = y.left; whole = subst (λ (o : Result (List Token) (List Fault)). Whole x.parser.language x.parser.reach x.sheet (told text) (end_of text) o y.left) same (whole_of y.yields); state = y.state }

-- lexemes of which none was refused, as a run of the service
record Clean (G : Lists) (reach : ℕ) (s s' : State) (xs : List (Result Lexeme Fault)) (ts : List Token) : Type 0 where
  lexemes : List Lexeme
  read : xs ≡ map Ok lexemes
  events : List Event
  run : Run G reach s events s'
  since : (x : Sheet) → since_begin x events ≡ record { lexemes = x.lexemes ++ lexemes; tokens = x.tokens ++ ts }
  sheet : s'.sheet ≡ s.sheet

module _ (G : Lists) (reach : ℕ) where
  -- a lexeme that was not refused was accepted
  answered : {s : State} {t : ℕ} {l : Lexeme} {free : ℕ} {a : Answer} {us : List Token} {s' : State} (fs : List Fault) → Does G reach s (feed t l free) a us s' → fault_of a ++ fs ≡ [] → (n : ℕ) × (a ≡ count n)
  answered fs (feeds {x = x} e b r f) none-refused = (length x.tokens, refl)
  answered fs (feed_fails w) none-refused = absurd (let z : ◌≡◌ {A = ℕ} 0 1 = cc in omega arith)

  clean : {t : ℕ} {s s' : State} {xs : List (Result Lexeme Fault)} {ts : List Token} {fs : List Fault} → Feeding G reach t s xs ts fs s' → fs ≡ [] → Clean G reach s s' xs ts
  clean none e =
      record { lexemes = []; read = refl; events = []; run = no_call; since = λ x. sym (ap (λ (ls : List Lexeme). record { lexemes = ls; tokens = x.tokens ++ [] }) (append-nil x.lexemes) ∙ ap (λ (us : List Token). record { lexemes = x.lexemes; tokens = us }) (append-nil x.tokens)); sheet = refl }
  clean (unread x) e = absurd (let z : ◌≡◌ {A = ℕ} 0 1 = cc in omega arith)
  clean {t} (fed {s = s} {s' = s'} {l = l} {a = a} {us = us} {ts = ts} {fs = fs} d x) e =
      let k = answered fs d e in
      let y = clean x (subst (λ (b : Answer). fault_of b ++ fs ≡ []) k.1 e) in
      record {
        lexemes = l ∷ y.lexemes;
        read = ap (λ (ys : List (Result Lexeme Fault)). Ok l ∷ ys) y.read;
        events = record { call = feed t l places; answer = count k.0; tokens = us } ∷ y.events;
        run = more (subst (λ (b : Answer). Does G reach s (feed t l places) b us s') k.1 d) y.run;
        since = λ z. y.since (record { lexemes = z.lexemes ++ l ∷ []; tokens = z.tokens ++ us })
            ∙ ap (λ (ls : List Lexeme). record { lexemes = ls; tokens = (z.tokens ++ us) ++ ts }) (append_assoc z.lexemes (l ∷ []) y.lexemes) ∙ ap (λ (vs : List Token). record { lexemes = z.lexemes ++ (l ∷ y.lexemes); tokens = vs }) (append_assoc z.tokens us ts);
        sheet = y.sheet ∙ fed_sheet d;
      }

  sound : {s s₁ s₂ s₃ : State} {t k : ℕ} {ts us vs : List Token} {fs : List Fault} (text : List ℕ) → Does G reach s begin (ticket t) vs s₁ → Feeding G reach t s₁ (told text) ts fs s₂ → fs ≡ [] → Does G reach s₂ (finish t (end_of text) places) (count k) us s₃ → Sound G text (ts ++ us)
  sound {s₂ = s₂} {s₃ = s₃} {t = t} {k = k} {ts = ts} {us = us} text (begins e n) x no-faults d =
      let y = clean x no-faults in
      let es : List Event = record { call = begin; answer = ticket t; tokens = [] } ∷ y.events in
      let law = (finish_law G reach).accepted t es s₂ s₃ t (end_of text) places (count k) us (more (begins refl n) y.run) y.sheet d tt in
      let is = y.since (record { lexemes = []; tokens = [] }) in
      let turns : Turns G y.lexemes (end_of text) (ts ++ us) = subst (λ (z : Sheet). Turns G z.lexemes (end_of text) (z.tokens ++ us)) is law.0 in
      let other = subst (λ (z : Sheet). (out : List Token) × (Turns G z.lexemes (end_of text) out × G (kinds out))) is law.1 in
      record { lexemes = y.lexemes; read = y.read; turns = turns; sentence = subst (λ (out : List Token). G (kinds out)) (single_sheet G other.1.0 turns) other.1.1 }

  pub lawful : {s s' : State} (text : List ℕ) (r : Result (List Token) (List Fault)) → Whole G reach s (told text) (end_of text) r s' → Lawful G text r
  lawful text (Err fs) w = tt
  lawful text (Ok ts) (begun d x (finished f)) = sound text d x refl f
