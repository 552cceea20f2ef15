-- What is viable where a parser stands is what is viable after the kinds that it took. Assumes nothing.
use Rattle.std.proofs.Common.{ℕ, List, [], ◌∷◌, ◌++◌, length, Result, sym, subst, Option}
use Rattle.std.proofs.lemmas.List.{append_assoc, append-nil}
use Rattle.parser.specs.Sets.{Lists, Same}
use Rattle.sheet.specs.declared.fault.Reason.{Reason}
use Rattle.layout.specs.Limits.{Goes, Laid, Runs, done, goes, not_viable, reach_spent, too_deep}
use Rattle.layout.specs.Marks.{column}
use Rattle.layout.specs.Rules.{Applies, MustClose, Viable, block_left_open, close_at_end, close_on_error, close_shallower, close_typed, drop_deeper, drop_outside, empty_block, end, inserts, leaves, open_block, open_typed, separate, stray_close, write_lexeme}
use Rattle.layout.specs.declared.rule.Coming.{Coming}
use Rattle.layout.specs.declared.rule.Mark.{Mark}
use Rattle.layout.specs.declared.rule.Rule.{Rule}

module _ (A R : Lists) (u : List ℕ) (same : Same A (λ w. R (u ++ w))) where
  viable_to : (v : List ℕ) (k : ℕ) → Viable A v k → Viable R (u ++ v) k
  viable_to v k x = (x.0, subst R (sym (append_assoc u v (k ∷ x.0))) ((same (v ++ k ∷ x.0)).0 x.1))

  viable_from : (v : List ℕ) (k : ℕ) → Viable R (u ++ v) k → Viable A v k
  viable_from v k x = (x.0, (same (v ++ k ∷ x.0)).1 (subst R (append_assoc u v (k ∷ x.0)) x.1))

  must_to : (v : List ℕ) (t : ℕ) (ks : List ℕ) → MustClose A v t ks → MustClose R (u ++ v) t ks
  must_to v t [] m = elim m [ ]
  must_to v t (k ∷ ks) m = (m.0, λ x. m.1 (viable_from v t x), viable_to v 4 m.2)

  must_from : (v : List ℕ) (t : ℕ) (ks : List ℕ) → MustClose R (u ++ v) t ks → MustClose A v t ks
  must_from v t [] m = elim m [ ]
  must_from v t (k ∷ ks) m = (m.0, λ x. m.1 (viable_to v t x), viable_from v 4 m.2)

  applies_on : (v : List ℕ) {m : Option Mark} {c : Coming} {ks : List ℕ} {r : Rule} → Applies A v m c ks r → Applies R (u ++ v) m c ks r
  applies_on v (separate e) = separate e
  applies_on v (close_shallower h) = close_shallower h
  applies_on v (drop_deeper h) = drop_deeper h
  applies_on v drop_outside = drop_outside
  applies_on v (open_block h) = open_block h
  applies_on v (empty_block h) = empty_block h
  applies_on v (close_typed k x) = close_typed k x
  applies_on v (stray_close k x) = stray_close k x
  applies_on v (open_typed k) = open_typed k
  applies_on v (close_on_error {l = l} {ks = ks} p x) = close_on_error p (must_to v l.kind ks x)
  applies_on v (write_lexeme {l = l} {ks = ks} p x) = write_lexeme p (λ m. x (must_from v l.kind ks m))
  applies_on v (close_at_end h) = close_at_end h
  applies_on v end = end
  applies_on v (block_left_open e) = block_left_open e

  -- the rule that applies where the parser stands applies after the kinds that it took
  pub applies_at : {m : Option Mark} {c : Coming} {ks : List ℕ} {r : Rule} → Applies A [] m c ks r → Applies R u m c ks r
  applies_at {m} {c} {ks} {r} a = subst (λ v. Applies R v m c ks r) (append-nil u) (applies_on [] a)

  goes_on : (depth : ℕ) {v : List ℕ} {left : ℕ} {w : List ℕ} {o : Result ℕ Reason} → Goes A depth v left w o → Goes R depth (u ++ v) left w o
  goes_on depth done = done
  goes_on depth (goes {u = v} {left = left} {k = k} {w = w} {o = o} room x rest) = goes room (viable_to v k x) (subst (λ z. Goes R depth z left w o) (sym (append_assoc u v (k ∷ []))) (goes_on depth rest))
  goes_on depth (too_deep x) = too_deep x
  goes_on depth (not_viable {u = v} {k = k} room x) = not_viable room (λ y. x (viable_from v k y))
  goes_on depth (reach_spent {u = v} {k = k} room x) = reach_spent room (viable_to v k x)

  -- and so do tokens that are written
  pub goes_at : (depth : ℕ) {left : ℕ} {w : List ℕ} {o : Result ℕ Reason} → Goes A depth [] left w o → Goes R depth u left w o
  goes_at depth {left} {w} {o} g = subst (λ v. Goes R depth v left w o) (append-nil u) (goes_on depth g)

  pub runs_on : {v : List ℕ} {left : ℕ} {ks : List ℕ} {m : Option Mark} {c : Coming} {o : Result Laid Reason} → Runs A v left ks m c o → Runs R (u ++ v) left ks m c o
  runs_on (Runs.goes_on {u = v} {ks = ks} {left' = n} {m' = m} {c = c} {r = r} {o = o} a e g rest) =
      Runs.goes_on (applies_on v a) e (goes_on (length ks) g) (subst (λ z. Runs R z n (leaves r (column c) ks) m c o) (sym (append_assoc u v (inserts r))) (runs_on rest))
  runs_on (Runs.stops {u = v} {ks = ks} a e g) = Runs.stops (applies_on v a) e (goes_on (length ks) g)
  runs_on (Runs.writes {u = v} {ks = ks} a e g) = Runs.writes (applies_on v a) e (goes_on (length ks) g)
  runs_on (Runs.refuses {u = v} {ks = ks} a e g) = Runs.refuses (applies_on v a) e (goes_on (length ks) g)
  runs_on (Runs.is_undefined {u = v} a e) = Runs.is_undefined (applies_on v a) e
  runs_on (Runs.ends {u = v} a e) = Runs.ends (applies_on v a) e

  -- and so do the rules over what comes
  pub runs_at : {left : ℕ} {ks : List ℕ} {m : Option Mark} {c : Coming} {o : Result Laid Reason} → Runs A [] left ks m c o → Runs R u left ks m c o
  runs_at {left} {ks} {m} {c} {o} r = subst (λ v. Runs R v left ks m c o) (append-nil u) (runs_on r)
