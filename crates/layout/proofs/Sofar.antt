-- The rules lexeme by lexeme agree with the rules over the whole sheet. Assumes nothing.
use Rattle.std.proofs.Common.{◌≡◌, ℕ, true, ◌⊎◌, List, [], ◌∷◌, ◌++◌, map, length, is_ok, Ok, Err, Result, sym, refl, ap, ◌∙◌, subst, inl, inr, arith, Option}
use Rattle.std.proofs.lemmas.List.{append_assoc, map-append}
use Rattle.std.proofs.lemmas.Bool.{false≢true, true≢false}
use Rattle.parser.specs.Sets.{Lists}
use Rattle.sheet.specs.declared.fault.Reason.{Reason}
use Rattle.sheet.specs.declared.fault.Reason.TheVariants.{TooDeep, ReachSpent}
use Rattle.sheet.specs.declared.lexeme.Lexeme.{Lexeme}
use Rattle.sheet.specs.declared.lexeme.Place.{Place}
use Rattle.sheet.specs.declared.lexeme.Token.{Token}
use Rattle.layout.proofs.Whys.{why_of}
use Rattle.layout.specs.Layout.{Lays, Resolves, at_end, at_lexeme, kinds}
use Rattle.layout.specs.Layout as layout
use Rattle.layout.specs.Limits.{Goes, Laid, Runs, and_before}
use Rattle.layout.specs.Marks.{after, column, inserted, mark_of}
use Rattle.layout.specs.Rules.{inserts, leaves, onward}
use Rattle.layout.specs.declared.rule.Before.{Before}
use Rattle.layout.specs.declared.rule.Before.TheVariants.{Nothing}
use Rattle.layout.specs.declared.rule.Coming.{Coming}
use Rattle.layout.specs.declared.rule.Coming.TheVariants.{Lexeme as lexeme, End as ending}
use Rattle.layout.specs.declared.rule.Mark.{Mark}
use Rattle.layout.proofs.Exits.{kinds_inserted}
use Rattle.layout.proofs.Single.{mark_in, single_rule, single_step, way}

-- what was laid
abbrev tokens_in : Result Laid Reason → List Token
tokens_in (Ok x) = x.tokens
tokens_in (Err w) = []

abbrev contexts_in : Result Laid Reason → List ℕ
contexts_in (Ok x) = x.contexts
contexts_in (Err w) = []

stopped_in : (ts : List Token) (o : Result Laid Reason) (why : Reason) → and_before ts o ≡ Err why → o ≡ Err why
stopped_in a b c d = grind arith

-- the kinds of inserted tokens and of what follows
regroup : (u w : List ℕ) (p : Place) (out : List Token) → u ++ kinds (map (inserted (ending p)) w ++ out) ≡ (u ++ w) ++ kinds out
regroup u w p out = ap (λ x. u ++ x) (map-append (λ (t : Token). t.kind) (map (inserted (ending p)) w) out ∙ ap (λ x. x ++ kinds out) (kinds_inserted (ending p) w)) ∙ sym (append_assoc u w (kinds out))

module _ (G : Lists) where
  -- a run inside the limits is one of the rules
  pub runs_lays : {u : List ℕ} {left : ℕ} {ks : List ℕ} {m : Option Mark} {c : Coming} {o : Result Laid Reason} → Runs G u left ks m c o → is_ok o ≡ true → Lays G u ks m c (tokens_in o) (contexts_in o)
  runs_lays {u} {left} {ks} {m} {c} (Runs.goes_on {m' = x} {r = r} {o = o} a e g rest) ok = go o (runs_lays rest) ok
    where
      go : (p : Result Laid Reason) → (is_ok p ≡ true → Lays G (u ++ inserts r) (leaves r (column c) ks) x c (tokens_in p) (contexts_in p)) → is_ok (and_before (map (inserted c) (inserts r)) p) ≡ true
          → Lays G u ks m c (tokens_in (and_before (map (inserted c) (inserts r)) p)) (contexts_in (and_before (map (inserted c) (inserts r)) p))
      go (Ok y) ih ok' = layout.goes_on a e (ih refl)
      go (Err w) ih ok' = absurd (false≢true ok')
  runs_lays (Runs.stops a e g) ok = absurd (false≢true ok)
  runs_lays (Runs.writes a e g) ok = layout.writes a e
  runs_lays (Runs.refuses a e g) ok = absurd (false≢true ok)
  runs_lays (Runs.is_undefined a e) ok = absurd (false≢true ok)
  runs_lays (Runs.ends a e) ok = layout.ends a e

  -- the rules over some lexemes from the start of a sheet, up to where they stand
  pub data Sofar : List Lexeme → List Token → List ℕ → Before → Type 0 where
    start : Sofar [] [] [] Nothing
    step : {ls : List Lexeme} {ts : List Token} {ks : List ℕ} {b : Before} {l : Lexeme} {out : List Token} {ks' : List ℕ} → Sofar ls ts ks b → Lays G (kinds ts) ks (mark_of b l) (lexeme l) out ks' → Sofar (ls ++ l ∷ []) (ts ++ out) ks' (after l.kind)

  -- and then over the rest, they are the rules over the whole
  pub whole : {ls : List Lexeme} {ts : List Token} {ks : List ℕ} {b : Before} (ms : List Lexeme) (p : Place) (rest : List Token) → Sofar ls ts ks b → Resolves G (kinds ts) ks b ms p rest → Resolves G [] [] Nothing (ls ++ ms) p (ts ++ rest)
  whole ms p rest start r = r
  whole ms p rest (step {ls = ls} {ts = ts} {ks = ks} {b = b} {l = l} {out = out} {ks' = ks'} so lays) r =
      let here = at_lexeme lays (subst (λ (u : List ℕ). Resolves G u ks' (after l.kind) ms p rest) (map-append (λ (t : Token). t.kind) ts out) r) in
      subst (λ (x : List Token). Resolves G [] [] Nothing ((ls ++ l ∷ []) ++ ms) p x) (sym (append_assoc ts out rest))
      (subst (λ (x : List Lexeme). Resolves G [] [] Nothing x p (ts ++ (out ++ rest))) (sym (append_assoc ls (l ∷ []) ms)) (whole (l ∷ ms) p (out ++ rest) so here))

  -- the rules over the whole go through where the rules over some lexemes stand
  pub record Rest (ts : List Token) (ks : List ℕ) (b : Before) (ms : List Lexeme) (p : Place) (out : List Token) : Type 0 where
    pub rest : List Token
    pub resolves : Resolves G (kinds ts) ks b ms p rest
    pub split : out ≡ ts ++ rest

  rest_after : {ts : List Token} {ks : List ℕ} {b : Before} {l : Lexeme} {o : List Token} {ks' : List ℕ} (ms : List Lexeme) (p : Place) (out : List Token) → Lays G (kinds ts) ks (mark_of b l) (lexeme l) o ks' → Rest ts ks b (l ∷ ms) p out → Rest (ts ++ o) ks' (after l.kind) ms p out
  rest_after {ts} {ks} {b} {l} {o} {ks'} ms p out lays x = go x.rest x.resolves x.split
    where
      go : (rest : List Token) → Resolves G (kinds ts) ks b (l ∷ ms) p rest → out ≡ ts ++ rest → Rest (ts ++ o) ks' (after l.kind) ms p out
      go rest (at_lexeme {out = o'} {rest = rest'} {ks' = ks''} lays' more) split =
          let same = single_step G lays lays' in
          record {
            rest = rest';
            resolves = subst (λ (u : List ℕ). Resolves G u ks' (after l.kind) ms p rest') (sym (map-append (λ (t : Token). t.kind) ts o))
                (subst (λ (x : List ℕ). Resolves G (kinds ts ++ kinds o) x (after l.kind) ms p rest') (sym same.1) (subst (λ (x : List Token). Resolves G (kinds ts ++ kinds x) ks'' (after l.kind) ms p rest') (sym same.0) more));
            split = split ∙ ap (λ (x : List Token). ts ++ (x ++ rest')) (sym same.0) ∙ sym (append_assoc ts o rest');
          }

  pub through : {ls : List Lexeme} {ts : List Token} {ks : List ℕ} {b : Before} (ms : List Lexeme) (p : Place) (out : List Token) → Sofar ls ts ks b → Resolves G [] [] Nothing (ls ++ ms) p out → Rest ts ks b ms p out
  through ms p out start r = record { rest = out; resolves = r; split = refl }
  through ms p out (step {ls = ls} {l = l} so lays) r = rest_after ms p out lays (through (l ∷ ms) p out so (subst (λ (x : List Lexeme). Resolves G [] [] Nothing x p out) (append_assoc ls (l ∷ []) ms) r))

  -- where tokens go on to a sentence, only a limit stops them
  goes_limited : {depth : ℕ} {u : List ℕ} {left : ℕ} {w : List ℕ} {why : Reason} (v : List ℕ) → Goes G depth u left w (Err why) → G (u ++ (w ++ v)) → (why ≡ TooDeep) ⊎ (why ≡ ReachSpent)
  goes_limited {u = u} v (Goes.goes {k = k} {w = w} room x g) s = goes_limited v g (subst G (sym (append_assoc u (k ∷ []) (w ++ v))) s)
  goes_limited v (Goes.too_deep x) s = inl refl
  goes_limited v (Goes.not_viable {w = w} room x) s = absurd (x (w ++ v, s))
  goes_limited v (Goes.reach_spent room x) s = inr refl

  -- where the rules end in a sentence, only a limit stops them
  pub end_limited : {u : List ℕ} {left : ℕ} {ks : List ℕ} {m : Option Mark} {p : Place} {out : List Token} {ls : List ℕ} {o : Result Laid Reason} (why : Reason) → Lays G u ks m (ending p) out ls → Runs G u left ks m (ending p) o → o ≡ Err why → G (u ++ kinds out) → (why ≡ TooDeep) ⊎ (why ≡ ReachSpent)
  end_limited {u} {left} {ks} {m} {p} why (Lays.goes_on {m' = x} {r = r} {out = out} a e rest) (Runs.goes_on {left' = n} {m' = x'} {r = r'} {o = o} a' e' g more) is s =
      let same = single_rule G u a a' in
      let marks : x' ≡ x = ap (λ w. mark_in w m) (sym e' ∙ ap onward (sym same) ∙ e) in
      let moved = subst (λ y. Runs G (u ++ inserts r) n (leaves r (column (ending p)) ks) y (ending p) o) marks (subst (λ y. Runs G (u ++ inserts y) n (leaves y (column (ending p)) ks) x' (ending p) o) (sym same) more) in
      end_limited why rest moved (stopped_in (map (inserted (ending p)) (inserts r')) o why is) (subst G (regroup u (inserts r) p out) s)
  end_limited {u} {left} {ks} {p = p} why (Lays.goes_on {r = r} {out = out} a e rest) (Runs.stops {why = w} a' e' g) is s =
      let same = single_rule G u a a' in
      subst (λ y. (y ≡ TooDeep) ⊎ (y ≡ ReachSpent)) (ap (λ o. why_of o w) is)
      (goes_limited (kinds out) (subst (λ y. Goes G (length ks) u left (inserts y) (Err w)) (sym same) g) (subst G (regroup u (inserts r) p out ∙ append_assoc u (inserts r) (kinds out)) s))
  end_limited {u} why (Lays.goes_on a e rest) (Runs.is_undefined a' e') is s = absurd (omega (arith, ap way (sym e ∙ ap onward (single_rule G u a a') ∙ e')))
  end_limited {u} why (Lays.goes_on a e rest) (Runs.ends a' e') is s = absurd (omega (arith, ap way (sym e ∙ ap onward (single_rule G u a a') ∙ e')))
  end_limited {u} why (Lays.ends a e) (Runs.goes_on a' e' g more) is s = absurd (omega (arith, ap way (sym e ∙ ap onward (single_rule G u a a') ∙ e')))
  end_limited {u} why (Lays.ends a e) (Runs.stops a' e' g) is s = absurd (omega (arith, ap way (sym e ∙ ap onward (single_rule G u a a') ∙ e')))
  end_limited {u} why (Lays.ends a e) (Runs.is_undefined a' e') is s = absurd (omega (arith, ap way (sym e ∙ ap onward (single_rule G u a a') ∙ e')))
  end_limited why (Lays.ends a e) (Runs.ends a' e') is s = absurd (true≢false (ap is_ok is))
