-- What a text tells, fed on a resolver. Assumes nothing.
use Rattle.std.proofs.Common.{◌≡◌, ℕ, List, [], ◌∷◌, ◌++◌, map, Ok, Result, sym, refl, ap, ◌∙◌, subst, arith, length-append}
use Rattle.std.proofs.lemmas.List.{append_assoc, append-nil, map-append}
use Rattle.parser.specs.Meaning.{Meaning}
use Rattle.parser.specs.Sets.{Lists}
use Rattle.parser.proofs.Meanings.{same_trans}
use Rattle.sheet.specs.declared.fault.Fault.{Fault}
use Rattle.sheet.specs.declared.lexeme.Lexeme.{Lexeme}
use Rattle.sheet.specs.declared.lexeme.Token.{Token}
use Rattle.layout.specs.Calling.{anew, Calls, over, Writes}
use Rattle.layout.specs.Moves.{Took}
use Rattle.layout.specs.Service.{Does, State, feed_fails, feeds}
use Rattle.layout.specs.declared.call.Answer.{Answer}
use Rattle.layout.specs.declared.call.Answer.TheVariants.{Count as count, Refused as refused}
use Rattle.layout.specs.declared.call.Call.TheVariants.{Feed as feed}
use Rattle.layout.proofs.Sheets.{took_none}
use Rattle.whole.specs.Feeding.{Fed, Keeps, SameParser, Within}
use Rattle.whole.specs.Keeping.{Keeping}
use Rattle.whole.specs.Whole.{Feeding, fault_of, fed, none, places}
use Rattle.whole.proofs.Behind.{behind, feeding_behind, feeding_on}

-- a lexeme that is fed leaves the sheet open
pub fed_sheet : {G : Lists} {reach : ℕ} {s : State} {t : ℕ} {l : Lexeme} {free : ℕ} {a : Answer} {us : List Token} {s' : State} → Does G reach s (feed t l free) a us s' → s'.sheet ≡ s.sheet
fed_sheet (feeds e b r f) = refl
fed_sheet (feed_fails w) = refl

-- one that is refused writes nothing
fed_nothing : {G : Lists} {reach : ℕ} {s : State} {t : ℕ} {l : Lexeme} {free : ℕ} {f : Fault} {us : List Token} {s' : State} → Does G reach s (feed t l free) (refused f) us s' → us ≡ []
fed_nothing (feed_fails w) = refl

-- the parser goes on
pub took_on : {u v : List ℕ} {m n o : Meaning} → Took u m n → Took v n o → Took (u ++ v) m o
took_on {u} {v} {m} {n} {o} x y =
    record {
      language = same_trans y.language x.language;
      reach = y.reach ∙ x.reach;
      remainder = same_trans y.remainder (λ w. let z = x.remainder (v ++ w) in let r = append_assoc u v w in (λ h. subst m.remainder (sym r) (z.0 h), λ h. z.1 (subst m.remainder r h)));
      left = omega (arith, y.left, x.left, length-append u v);
    }

pub same_parser : (m : Meaning) → SameParser m m
same_parser m = record { language = λ w. (λ h. h, λ h. h); reach = refl }

pub same_on : {m n o : Meaning} → SameParser m n → SameParser n o → SameParser m o
same_on x y = record { language = same_trans y.language x.language; reach = y.reach ∙ x.reach }

pub within_none : (m : Meaning) (s : State) → Within (over m s) (over m s)
within_none m s = record { parser = same_parser m; sheet = refl }

pub within_on : {m n o : Meaning} {s s' s'' : State} → Within (over m s) (over n s') → Within (over n s') (over o s'') → Within (over m s) (over o s'')
within_on x y = record { parser = same_on x.parser y.parser; sheet = y.sheet ∙ x.sheet }

-- nothing was fed yet
pub fed_none : (m : Meaning) (s : State) (t : ℕ) → Fed (over m (anew s)) t [] [] [] (over m (anew s))
fed_none m s t = record { left = anew s; feeding = none; state = refl; parser = took_none m }

-- some and then others
pub fed_on : {m n o : Meaning} {s s' s'' : State} {t : ℕ} {xs ys : List (Result Lexeme Fault)} {ts us : List Token} {fs gs : List Fault} → Fed (over m s) t xs ts fs (over n s') → Fed (over n s') t ys us gs (over o s'') → Fed (over m s) t (xs ++ ys) (ts ++ us) (fs ++ gs) (over o s'')
fed_on {m} {n} {o} {s} {s'} {s''} {t} {xs} {ys} {ts} {us} {fs} {gs} x y =
    let u = x.left.written in
    let at : Feeding n.remainder n.left t (anew x.left) ys us gs y.left = subst (λ (z : State). Feeding n.remainder n.left t z ys us gs y.left) x.state y.feeding in
    let there = feeding_behind n.remainder m.remainder u x.parser.remainder n.left m.left x.parser.left at in
    let start : behind u (anew x.left) ≡ x.left = ap (λ (w : List ℕ). record { sheet = x.left.sheet; next = x.left.next; contexts = x.left.contexts; before = x.left.before; written = w }) (append-nil u) in
    record {
      left = behind u y.left;
      feeding = feeding_on x.feeding (subst (λ (z : State). Feeding m.remainder m.left t z ys us gs (behind u y.left)) start there);
      state = y.state;
      parser = took_on x.parser y.parser;
    }

module _ {K : Type 0} {kept : K → List Token → List Fault → K → Type 0} (laws : Keeping kept) where
  pub keeps_none : (m : Meaning) (s : State) (t : ℕ) (a : K) → Keeps kept (over m (anew s)) t [] a a (over m (anew s))
  keeps_none m s t a = record { tokens = []; faults = []; fed = fed_none m s t; keeper = laws.none a }

  pub keeps_on : {m n o : Meaning} {s s' s'' : State} {t : ℕ} {xs ys : List (Result Lexeme Fault)} {a b c : K} → Keeps kept (over m s) t xs a b (over n s') → Keeps kept (over n s') t ys b c (over o s'') → Keeps kept (over m s) t (xs ++ ys) a c (over o s'')
  keeps_on {a = a} {b = b} {c = c} x y =
      record {
        tokens = x.tokens ++ y.tokens;
        faults = x.faults ++ y.faults;
        fed = fed_on x.fed y.fed;
        keeper = laws.on a b c x.tokens y.tokens x.faults y.faults x.keeper y.keeper;
      }

-- one lexeme
module _ (m n : Meaning) (s s' : State) (t : ℕ) (l : Lexeme) (free : ℕ) (enough : free ≡ places) (q q' : List Token) (empty : q ≡ []) where
  pub one_within : (a : Answer) → Writes (over m s) (feed t l free) a q q' (over n s') → Within (over m s) (over n s')
  one_within a x = let c = x.calls in record { parser = record { language = c.parser.language; reach = c.parser.reach }; sheet = ap (λ (z : State). z.sheet) c.state ∙ fed_sheet c.does }

  one_fed : (a : Answer) (us : List Token) → Calls (over m s) (feed t l free) a us (over n s') → Fed (over m s) t (Ok l ∷ []) us (fault_of a ++ []) (over n s')
  one_fed a us c =
      subst (λ (vs : List Token). Fed (over m s) t (Ok l ∷ []) vs (fault_of a ++ []) (over n s')) (append-nil us)
      (record { left = c.left; feeding = fed (subst (λ k. Does m.remainder m.left s (feed t l k) a us c.left) enough c.does) none; state = c.state; parser = c.parser })

  module _ {K : Type 0} (kept : K → List Token → List Fault → K → Type 0) (a b : K) where
    pub one_accepted : (k : ℕ) → Writes (over m s) (feed t l free) (count k) q q' (over n s') → kept a q' [] b → Keeps kept (over m s) t (Ok l ∷ []) a b (over n s')
    one_accepted k x e =
        record { tokens = x.tokens; faults = []; fed = one_fed (count k) x.tokens x.calls; keeper = subst (λ us. kept a us [] b) (x.list ∙ ap (λ us. us ++ x.tokens) empty) e }

    pub one_refused : (f : Fault) → Writes (over m s) (feed t l free) (refused f) q q' (over n s') → kept a [] (f ∷ []) b → Keeps kept (over m s) t (Ok l ∷ []) a b (over n s')
    one_refused f x e =
        record {
          tokens = [];
          faults = f ∷ [];
          fed = subst (λ (vs : List Token). Fed (over m s) t (Ok l ∷ []) vs (f ∷ []) (over n s')) (fed_nothing x.calls.does) (one_fed (refused f) x.tokens x.calls);
          keeper = e;
        }

-- lexemes that wait are fed one by one: some were, and the others still wait
pub record Sofar {K : Type 0} (kept : K → List Token → List Fault → K → Type 0) (m : Meaning) (s : State) (t : ℕ) (all : List Lexeme) (a b : K) (n : Meaning) (s' : State) (rest : List Lexeme) : Type 0 where
  pub seen : List Lexeme
  pub whole : all ≡ seen ++ rest
  pub within : Within (over m s) (over n s')
  pub keeps : Keeps kept (over m s) t (map Ok seen) a b (over n s')

module _ {K : Type 0} {kept : K → List Token → List Fault → K → Type 0} (laws : Keeping kept) where
  pub sofar_none : (m : Meaning) (s : State) (t : ℕ) (all : List Lexeme) (a : K) → Sofar kept m (anew s) t all a a m (anew s) all
  sofar_none m s t all a = record { seen = []; whole = refl; within = within_none m (anew s); keeps = keeps_none laws m s t a }

  pub sofar_more : {m n o : Meaning} {s s' s'' : State} {t : ℕ} {all rest rest' : List Lexeme} {a b c : K} (l : Lexeme) → Sofar kept m s t all a b n s' rest → rest ≡ l ∷ rest' → Within (over n s') (over o s'') → Keeps kept (over n s') t (Ok l ∷ []) b c (over o s'') → Sofar kept m s t all a c o s'' rest'
  sofar_more {m} {n} {o} {s} {s'} {s''} {t} {all} {rest} {rest'} {a} {b} {c} l x e w k =
      record {
        seen = x.seen ++ l ∷ [];
        whole = x.whole ∙ ap (λ y. x.seen ++ y) e ∙ sym (append_assoc x.seen (l ∷ []) rest');
        within = within_on x.within w;
        keeps = subst (λ (ys : List (Result Lexeme Fault)). Keeps kept (over m s) t ys a c (over o s'')) (sym (map-append Ok x.seen (l ∷ []))) (keeps_on laws x.keeps k);
      }
