-- Over two languages with the same lists, the rules and the calls come out the same. Assumes nothing.
use Rattle.std.proofs.Common.{◌≡◌, ℕ, List, [], ◌∷◌, ◌++◌, map, length, is_ok, Ok, Err, Result, sym, refl, ap, ◌∙◌, subst, arith, Option}
use Rattle.std.proofs.lemmas.Bool.{false≢true, true≢false}
use Rattle.parser.specs.Sets.{Lists, Same}
use Rattle.sheet.specs.declared.fault.Reason.{Reason}
use Rattle.sheet.specs.Tokens.{written}
use Rattle.layout.proofs.Whys.{why_of}
use Rattle.layout.specs.Limits.{Goes, Laid, Runs, and_before, done, ends, goes, goes_on, is_undefined, not_viable, reach_spent, refuses, stops, too_deep, writes}
use Rattle.layout.specs.Marks.{column, inserted}
use Rattle.layout.specs.Rules.{Applies, MustClose, Viable, block_left_open, close_at_end, close_on_error, close_shallower, close_typed, drop_deeper, drop_outside, empty_block, end, inserts, leaves, onward, open_block, open_typed, separate, stray_close, write_lexeme}
use Rattle.layout.specs.declared.rule.Coming.{Coming}
use Rattle.layout.specs.declared.rule.Mark.{Mark}
use Rattle.layout.specs.declared.rule.Rule.{Rule}
use Rattle.layout.proofs.Single.{mark_in, single_rule, way}

abbrev or_zero : Result ℕ Reason → ℕ
or_zero (Ok n) = n
or_zero (Err w) = 0

module _ (G H : Lists) (same : Same G H) where
  viable_same : (u : List ℕ) (k : ℕ) → Viable G u k → Viable H u k
  viable_same u k x = (x.0, (same (u ++ k ∷ x.0)).0 x.1)

  viable_back : (u : List ℕ) (k : ℕ) → Viable H u k → Viable G u k
  viable_back u k x = (x.0, (same (u ++ k ∷ x.0)).1 x.1)

  must_same : (u : List ℕ) (t : ℕ) (ks : List ℕ) → MustClose G u t ks → MustClose H u t ks
  must_same a b c d = grind arith

  must_back : (u : List ℕ) (t : ℕ) (ks : List ℕ) → MustClose H u t ks → MustClose G u t ks
  must_back a b c d = grind arith

  applies_same : {u : List ℕ} {m : Option Mark} {c : Coming} {ks : List ℕ} {r : Rule} → Applies G u m c ks r → Applies H u m c ks r
  applies_same (separate e) = separate e
  applies_same (close_shallower h) = close_shallower h
  applies_same (drop_deeper h) = drop_deeper h
  applies_same drop_outside = drop_outside
  applies_same (open_block h) = open_block h
  applies_same (empty_block h) = empty_block h
  applies_same (close_typed k x) = close_typed k x
  applies_same (stray_close k x) = stray_close k x
  applies_same (open_typed k) = open_typed k
  applies_same (close_at_end h) = close_at_end h
  applies_same end = end
  applies_same (block_left_open e) = block_left_open e
  applies_same {u} (close_on_error {l = l} {ks = ks} p x) = close_on_error p (must_same u l.kind ks x)
  applies_same {u} (write_lexeme {l = l} {ks = ks} p x) = write_lexeme p (λ m. x (must_back u l.kind ks m))

  one_rule : {u : List ℕ} {m : Option Mark} {c : Coming} {ks : List ℕ} {r s : Rule} → Applies G u m c ks r → Applies H u m c ks s → r ≡ s
  one_rule {u} a b = single_rule H u (applies_same a) b

  -- tokens go on alike
  pub goes_alike : {depth : ℕ} {u : List ℕ} {left : ℕ} {w : List ℕ} {o o' : Result ℕ Reason} → Goes G depth u left w o → Goes H depth u left w o' → o ≡ o'
  goes_alike done done = refl
  goes_alike (goes room v g) (goes room' v' h) = goes_alike g h
  goes_alike (goes room v g) (too_deep x) = absurd (x room)
  goes_alike {u = u} (goes {k = k} room v g) (not_viable room' x) = absurd (x (viable_same u k v))
  goes_alike (too_deep x) (goes room v h) = absurd (x room)
  goes_alike (too_deep x) (too_deep y) = refl
  goes_alike (too_deep x) (not_viable room y) = absurd (x room)
  goes_alike (too_deep x) (reach_spent room v) = absurd (x room)
  goes_alike {u = u} (not_viable {k = k} room x) (goes room' v h) = absurd (x (viable_back u k v))
  goes_alike (not_viable room x) (too_deep y) = absurd (y room)
  goes_alike (not_viable room x) (not_viable room' y) = refl
  goes_alike {u = u} (not_viable {k = k} room x) (reach_spent room' v) = absurd (x (viable_back u k v))
  goes_alike (reach_spent room v) (too_deep y) = absurd (y room)
  goes_alike {u = u} (reach_spent {k = k} room v) (not_viable room' x) = absurd (x (viable_same u k v))
  goes_alike (reach_spent room v) (reach_spent room' v') = refl

  -- and so do the rules over what comes
  pub runs_alike : {u : List ℕ} {left : ℕ} {ks : List ℕ} {m : Option Mark} {c : Coming} {o o' : Result Laid Reason} → Runs G u left ks m c o → Runs H u left ks m c o' → o ≡ o'
  runs_alike {u} {left} {ks} {m} {c} {o' = o'} (goes_on {left' = n} {m' = x} {r = r} a e g rest) (goes_on {left' = n'} {m' = x'} {r = r'} {o = p} a' e' g' rest') =
      let same = one_rule a a' in
      let marks : x' ≡ x = ap (λ w. mark_in w m) (sym e' ∙ ap onward (sym same) ∙ e) in
      let lefts : n' ≡ n = sym (ap (or_zero) (goes_alike g (subst (λ y. Goes H (length ks) u left (inserts y) (Ok n')) (sym same) g'))) in
      let moved = subst (λ y. Runs H (u ++ inserts r) y (leaves r (column c) ks) x c p) lefts (subst (λ y. Runs H (u ++ inserts r) n' (leaves r (column c) ks) y c p) marks
      (subst (λ y. Runs H (u ++ inserts y) n' (leaves y (column c) ks) x' c p) (sym same) rest')) in
      ap (and_before (map (inserted c) (inserts r))) (runs_alike rest moved) ∙ ap (λ y. and_before (map (inserted c) (inserts y)) p) same
  runs_alike {u} {left} {ks} (goes_on a e g rest) (stops {why = w'} a' e' g') = absurd (true≢false (ap is_ok (goes_alike g (subst (λ y. Goes H (length ks) u left (inserts y) (Err w')) (sym (one_rule a a')) g'))))
  runs_alike (goes_on a e g rest) (writes a' e' g') = absurd (omega (arith, ap way (sym e ∙ ap onward (one_rule a a') ∙ e')))
  runs_alike (goes_on a e g rest) (refuses a' e' g') = absurd (omega (arith, ap way (sym e ∙ ap onward (one_rule a a') ∙ e')))
  runs_alike (goes_on a e g rest) (is_undefined a' e') = absurd (omega (arith, ap way (sym e ∙ ap onward (one_rule a a') ∙ e')))
  runs_alike (goes_on a e g rest) (ends a' e') = absurd (omega (arith, ap way (sym e ∙ ap onward (one_rule a a') ∙ e')))
  runs_alike {u} {left} {ks} (stops a e g) (goes_on {left' = n'} a' e' g' rest') = absurd (false≢true (ap is_ok (goes_alike g (subst (λ y. Goes H (length ks) u left (inserts y) (Ok n')) (sym (one_rule a a')) g'))))
  runs_alike {u} {left} {ks} (stops {r = r} {why = w} a e g) (stops {why = w'} a' e' g') = ap (λ y. Err (why_of y w)) (goes_alike g (subst (λ y. Goes H (length ks) u left (inserts y) (Err w')) (sym (one_rule a a')) g'))
  runs_alike (stops a e g) (writes a' e' g') = absurd (omega (arith, ap way (sym e ∙ ap onward (one_rule a a') ∙ e')))
  runs_alike (stops a e g) (refuses a' e' g') = absurd (omega (arith, ap way (sym e ∙ ap onward (one_rule a a') ∙ e')))
  runs_alike (stops a e g) (is_undefined a' e') = absurd (omega (arith, ap way (sym e ∙ ap onward (one_rule a a') ∙ e')))
  runs_alike (stops a e g) (ends a' e') = absurd (omega (arith, ap way (sym e ∙ ap onward (one_rule a a') ∙ e')))
  runs_alike (writes a e g) (goes_on a' e' g' rest') = absurd (omega (arith, ap way (sym e ∙ ap onward (one_rule a a') ∙ e')))
  runs_alike (writes a e g) (stops a' e' g') = absurd (omega (arith, ap way (sym e ∙ ap onward (one_rule a a') ∙ e')))
  runs_alike {ks = ks} (writes {l = l} a e g) (writes a' e' g') = ap (λ y. Ok (record { tokens = written l ∷ []; contexts = leaves y l.column ks })) (one_rule a a')
  runs_alike (writes a e g) (refuses a' e' g') = absurd (true≢false (ap is_ok (goes_alike g g')))
  runs_alike (writes a e g) (is_undefined a' e') = absurd (omega (arith, ap way (sym e ∙ ap onward (one_rule a a') ∙ e')))
  runs_alike (refuses a e g) (goes_on a' e' g' rest') = absurd (omega (arith, ap way (sym e ∙ ap onward (one_rule a a') ∙ e')))
  runs_alike (refuses a e g) (stops a' e' g') = absurd (omega (arith, ap way (sym e ∙ ap onward (one_rule a a') ∙ e')))
  runs_alike (refuses a e g) (writes a' e' g') = absurd (false≢true (ap is_ok (goes_alike g g')))
  runs_alike (refuses {why = w} a e g) (refuses a' e' g') = ap (λ y. Err (why_of y w)) (goes_alike g g')
  runs_alike (refuses a e g) (is_undefined a' e') = absurd (omega (arith, ap way (sym e ∙ ap onward (one_rule a a') ∙ e')))
  runs_alike (is_undefined a e) (goes_on a' e' g' rest') = absurd (omega (arith, ap way (sym e ∙ ap onward (one_rule a a') ∙ e')))
  runs_alike (is_undefined a e) (stops a' e' g') = absurd (omega (arith, ap way (sym e ∙ ap onward (one_rule a a') ∙ e')))
  runs_alike (is_undefined a e) (writes a' e' g') = absurd (omega (arith, ap way (sym e ∙ ap onward (one_rule a a') ∙ e')))
  runs_alike (is_undefined a e) (refuses a' e' g') = absurd (omega (arith, ap way (sym e ∙ ap onward (one_rule a a') ∙ e')))
  runs_alike (is_undefined a e) (is_undefined a' e') = refl
  runs_alike (is_undefined a e) (ends a' e') = absurd (omega (arith, ap way (sym e ∙ ap onward (one_rule a a') ∙ e')))
  runs_alike (ends a e) (goes_on a' e' g' rest') = absurd (omega (arith, ap way (sym e ∙ ap onward (one_rule a a') ∙ e')))
  runs_alike (ends a e) (stops a' e' g') = absurd (omega (arith, ap way (sym e ∙ ap onward (one_rule a a') ∙ e')))
  runs_alike (ends a e) (is_undefined a' e') = absurd (omega (arith, ap way (sym e ∙ ap onward (one_rule a a') ∙ e')))
  runs_alike (ends a e) (ends a' e') = refl
