-- How the rules over what comes end. Assumes nothing.
use Rattle.std.proofs.Common.{◌≡◌, ℕ, ◌≤◌, List, [], ◌∷◌, ◌++◌, map, length, Ok, Err, sym, refl, ap, ◌∙◌, subst, arith, Option}
use Rattle.std.proofs.lemmas.List.{append-nil, map-append}
use Rattle.parser.specs.Meaning.{Alike, Meaning}
use Rattle.parser.specs.Runs.{after}
use Rattle.parser.specs.Sets.{Lists}
use Rattle.parser.proofs.Meanings.{alike_refl, alike_trans, mark_trans, same_trans}
use Rattle.sheet.specs.declared.fault.Reason.{Reason}
use Rattle.sheet.specs.declared.lexeme.Lexeme.{Lexeme}
use Rattle.sheet.specs.declared.lexeme.Place.{Place}
use Rattle.sheet.specs.declared.lexeme.Token.{Token}
use Rattle.sheet.specs.Tokens.{written}
use Rattle.layout.specs.Drafts.{Bound, Laying, Step, contexts_of, laid, stopped, tokens_of}
use Rattle.layout.specs.Layout.{kinds}
use Rattle.layout.specs.Limits.{done, ends, is_undefined, refuses, undefined_at, writes}
use Rattle.layout.specs.Marks.{column, inserted, kind}
use Rattle.layout.specs.Rules.{Applies, leaves, onward}
use Rattle.layout.specs.declared.draft.Draft.{Draft}
use Rattle.layout.specs.declared.rule.Coming.{Coming}
use Rattle.layout.specs.declared.rule.Coming.TheVariants.{Lexeme as lexeme, End as ending}
use Rattle.layout.specs.declared.rule.Mark.{Mark}
use Rattle.layout.specs.declared.rule.Onward.TheVariants.{Lexeme as lexeme_written, End as ended, Undefined as undefined}
use Rattle.layout.specs.declared.rule.Rule.{Rule}
use Rattle.layout.proofs.Inserts.{step_goes, step_leaves, step_stops, step_takes}
use Rattle.layout.proofs.Running.{Standing, after_on}

-- inserted tokens have their kinds
pub kinds_inserted : (c : Coming) (u : List ℕ) → kinds (map (inserted c) u) ≡ u
kinds_inserted c [] = refl
kinds_inserted (lexeme l) (k ∷ u) = ap (λ w. k ∷ w) (kinds_inserted (lexeme l) u)
kinds_inserted (ending p) (k ∷ u) = ap (λ w. k ∷ w) (kinds_inserted (ending p) u)

bound_of : (n m before : Meaning) (u : List ℕ) → Alike n m → Alike m (after u before) → Bound n before
bound_of n m before u x y = record { language = same_trans x.language y.language; reach = x.reach ∙ y.reach; mark = mark_trans n.mark m.mark before.mark x.mark y.mark }

module _ (cs : List ℕ) (m₀ : Option Mark) (before : Meaning) (e : Draft) (m : Option Mark) (now : Meaning) (r : Rule) where
  -- the lexeme is written
  pub exit_written : (l : Lexeme) → Standing cs m₀ (lexeme l) before e m now → Applies before.remainder (tokens_of e) m (lexeme l) (contexts_of cs e) r → onward r ≡ lexeme_written → (next : Meaning) (f : Draft)
      → Step l.kind (length (contexts_of cs e)) now next (Ok tt) → tokens_of f ≡ tokens_of e → contexts_of cs f ≡ leaves r l.column (contexts_of cs e) → f.depth ≤ e.depth → Laying cs m₀ (lexeme l) before next (Ok f)
  exit_written l so rule on next f s tokens contexts shallow =
      let u = tokens_of e in
      let told : kinds (map (inserted (lexeme l)) u ++ written l ∷ []) ≡ u ++ l.kind ∷ [] = map-append (λ (t : Token). t.kind) (map (inserted (lexeme l)) u) (written l ∷ []) ∙ ap (λ w. w ++ l.kind ∷ []) (kinds_inserted (lexeme l) u) in
      laid (record { tokens = map (inserted (lexeme l)) u ++ written l ∷ []; contexts = leaves r l.column (contexts_of cs e) })
      (so.runs _ (writes rule on (step_goes l.kind (length (contexts_of cs e)) u before now next [] (Ok next.left) so.steps s done)))
      (ap (λ w. map (inserted (lexeme l)) w ++ written l ∷ []) (sym tokens)) (sym contexts) (omega (arith, so.shallow))
      (subst (λ (w : List ℕ). Alike next (after w before)) (sym told) (alike_trans next (after (l.kind ∷ []) now) (after (u ++ l.kind ∷ []) before) (step_takes l.kind (length (contexts_of cs e)) now next s) (after_on u (l.kind ∷ []) before now so.steps)))

  -- the lexeme is refused
  pub exit_refused : (l : Lexeme) → Standing cs m₀ (lexeme l) before e m now → Applies before.remainder (tokens_of e) m (lexeme l) (contexts_of cs e) r → onward r ≡ lexeme_written → (next : Meaning) (why : Reason)
      → Step l.kind (length (contexts_of cs e)) now next (Err why) → Laying cs m₀ (lexeme l) before next (Err why)
  exit_refused l so rule on next why s =
      stopped (so.runs (Err why) (refuses rule on (step_stops l.kind (length (contexts_of cs e)) (tokens_of e) before now next [] why so.steps s)))
      (bound_of next now before (tokens_of e) (step_leaves l.kind (length (contexts_of cs e)) now next why s) so.steps)

  -- the rules are undefined
  pub exit_undefined : (c : Coming) → Standing cs m₀ c before e m now → Applies before.remainder (tokens_of e) m c (contexts_of cs e) r → onward r ≡ undefined → Laying cs m₀ c before now (Err (undefined_at c))
  exit_undefined c so rule on = stopped (so.runs (Err (undefined_at c)) (is_undefined rule on)) (bound_of now now before (tokens_of e) (alike_refl now) so.steps)

  -- the end is reached
  pub exit_ended : (p : Place) → Standing cs m₀ (ending p) before e m now → Applies before.remainder (tokens_of e) m (ending p) (contexts_of cs e) r → onward r ≡ ended → Laying cs m₀ (ending p) before now (Ok e)
  exit_ended p so rule on =
      let u = tokens_of e in
      let ts = map (inserted (ending p)) u in
      laid (record { tokens = ts ++ []; contexts = contexts_of cs e }) (so.runs _ (ends rule on)) (append-nil ts) refl so.shallow
      (subst (λ (w : List ℕ). Alike now (after w before)) (sym (ap kinds (append-nil ts) ∙ kinds_inserted (ending p) u)) so.steps)

-- where a rule writes the lexeme, one comes; where it reaches the end, none does
pub no_lexeme : {G : Lists} {u : List ℕ} {m : Option Mark} {p : Place} {ks : List ℕ} {r : Rule} → Applies G u m (ending p) ks r → onward r ≡ lexeme_written → ⊥
no_lexeme a b = grind arith

no_end : {G : Lists} {u : List ℕ} {m : Option Mark} {l : Lexeme} {ks : List ℕ} {r : Rule} → Applies G u m (lexeme l) ks r → onward r ≡ ended → ⊥
no_end a b = grind arith

module _ (cs : List ℕ) (m₀ : Option Mark) (before : Meaning) (e : Draft) (m : Option Mark) (now : Meaning) (r : Rule) where
  pub written_at : (c : Coming) → Standing cs m₀ c before e m now → Applies before.remainder (tokens_of e) m c (contexts_of cs e) r → onward r ≡ lexeme_written → (next : Meaning) (f : Draft)
      → Step (kind c) (length (contexts_of cs e)) now next (Ok tt) → tokens_of f ≡ tokens_of e → contexts_of cs f ≡ leaves r (column c) (contexts_of cs e) → f.depth ≤ e.depth → Laying cs m₀ c before next (Ok f)
  written_at (lexeme l) so rule on next f s = exit_written cs m₀ before e m now r l so rule on next f s
  written_at (ending p) so rule on next f s = absurd (no_lexeme rule on)

  pub refused_at : (c : Coming) → Standing cs m₀ c before e m now → Applies before.remainder (tokens_of e) m c (contexts_of cs e) r → onward r ≡ lexeme_written → (next : Meaning) (why : Reason)
      → Step (kind c) (length (contexts_of cs e)) now next (Err why) → Laying cs m₀ c before next (Err why)
  refused_at (lexeme l) so rule on next why s = exit_refused cs m₀ before e m now r l so rule on next why s
  refused_at (ending p) so rule on next why s = absurd (no_lexeme rule on)

  pub ended_at : (c : Coming) → Standing cs m₀ c before e m now → Applies before.remainder (tokens_of e) m c (contexts_of cs e) r → onward r ≡ ended → Laying cs m₀ c before now (Ok e)
  ended_at (lexeme l) so rule on = absurd (no_end rule on)
  ended_at (ending p) so rule on = exit_ended cs m₀ before e m now r p so rule on
