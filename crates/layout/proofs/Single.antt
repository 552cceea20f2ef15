-- The rules are single-valued: where two apply, they are one. Assumes nothing.
use Rattle.std.proofs.Common.{◌≡◌, ℕ, List, ◌++◌, map, sym, refl, ap, ◌∙◌, subst, arith, Option}
use Rattle.parser.specs.Sets.{Lists}
use Rattle.sheet.specs.declared.lexeme.Lexeme.{Lexeme}
use Rattle.sheet.specs.declared.lexeme.Place.{Place}
use Rattle.sheet.specs.declared.lexeme.Token.{Token}
use Rattle.layout.specs.Layout.{Lays, Resolves, at_end, at_lexeme, ends, goes_on, kinds, writes}
use Rattle.layout.specs.Marks.{after, column, inserted}
use Rattle.layout.specs.Rules.{Applies, block_left_open, close_at_end, close_on_error, close_shallower, close_typed, drop_deeper, drop_outside, empty_block, end, inserts, leaves, onward, open_block, open_typed, separate, stray_close, write_lexeme}
use Rattle.layout.specs.declared.rule.Before.{Before}
use Rattle.layout.specs.declared.rule.Coming.{Coming}
use Rattle.layout.specs.declared.rule.Mark.{Mark}
use Rattle.layout.specs.declared.rule.Onward.{Onward}
use Rattle.layout.specs.declared.rule.Onward.TheVariants.{Mark as at_mark, Lexeme as lexeme_written, End as ended, Undefined as undefined}
use Rattle.layout.specs.declared.rule.Rule.{Rule}

module _ (G : Lists) (u : List ℕ) where
  -- one rule at most applies
  pub single_rule : {m : Option Mark} {c : Coming} {ks : List ℕ} {r s : Rule} → Applies G u m c ks r → Applies G u m c ks s → r ≡ s
  single_rule (separate e) (separate e') = refl
  single_rule (separate e) (close_shallower h') = absurd (omega arith)
  single_rule (separate e) (drop_deeper h') = absurd (omega arith)
  single_rule (close_shallower h) (separate e') = absurd (omega arith)
  single_rule (close_shallower h) (close_shallower h') = refl
  single_rule (close_shallower h) (drop_deeper h') = absurd (omega arith)
  single_rule (drop_deeper h) (separate e') = absurd (omega arith)
  single_rule (drop_deeper h) (close_shallower h') = absurd (omega arith)
  single_rule (drop_deeper h) (drop_deeper h') = refl
  single_rule drop_outside drop_outside = refl
  single_rule (open_block h) (open_block h') = refl
  single_rule (open_block h) (empty_block h') = absurd (h' h)
  single_rule (empty_block h) (open_block h') = absurd (h h')
  single_rule (empty_block h) (empty_block h') = refl
  single_rule (close_typed k x) (close_typed k' x') = refl
  single_rule (close_typed k x) (stray_close k' x') = absurd (x' x)
  single_rule (close_typed k x) (open_typed k') = absurd (omega arith)
  single_rule (close_typed k x) (close_on_error p' x') = absurd (p'.1 k)
  single_rule (close_typed k x) (write_lexeme p' x') = absurd (p'.1 k)
  single_rule (stray_close k x) (close_typed k' x') = absurd (x x')
  single_rule (stray_close k x) (stray_close k' x') = refl
  single_rule (stray_close k x) (open_typed k') = absurd (omega arith)
  single_rule (stray_close k x) (close_on_error p' x') = absurd (p'.1 k)
  single_rule (stray_close k x) (write_lexeme p' x') = absurd (p'.1 k)
  single_rule (open_typed k) (close_typed k' x') = absurd (omega arith)
  single_rule (open_typed k) (stray_close k' x') = absurd (omega arith)
  single_rule (open_typed k) (open_typed k') = refl
  single_rule (open_typed k) (close_on_error p' x') = absurd (p'.0 k)
  single_rule (open_typed k) (write_lexeme p' x') = absurd (p'.0 k)
  single_rule (close_on_error p x) (close_typed k' x') = absurd (p.1 k')
  single_rule (close_on_error p x) (stray_close k' x') = absurd (p.1 k')
  single_rule (close_on_error p x) (open_typed k') = absurd (p.0 k')
  single_rule (close_on_error p x) (close_on_error p' x') = refl
  single_rule (close_on_error p x) (write_lexeme p' x') = absurd (x' x)
  single_rule (write_lexeme p x) (close_typed k' x') = absurd (p.1 k')
  single_rule (write_lexeme p x) (stray_close k' x') = absurd (p.1 k')
  single_rule (write_lexeme p x) (open_typed k') = absurd (p.0 k')
  single_rule (write_lexeme p x) (close_on_error p' x') = absurd (x x')
  single_rule (write_lexeme p x) (write_lexeme p' x') = refl
  single_rule (close_at_end h) (close_at_end h') = refl
  single_rule (close_at_end h) (block_left_open e') = absurd (omega arith)
  single_rule end end = refl
  single_rule (block_left_open e) (close_at_end h') = absurd (omega arith)
  single_rule (block_left_open e) (block_left_open e') = refl

-- how a rule goes on tells the ways apart
abbrev pub way : Onward → ℕ
way (at_mark m) = 0
way lexeme_written = 1
way ended = 2
way undefined = 3

abbrev pub mark_in : Onward → Option Mark → Option Mark
mark_in (at_mark m) d = m
mark_in lexeme_written d = d
mark_in ended d = d
mark_in undefined d = d

module _ (G : Lists) where
  -- one outcome at most at a lexeme or at the end
  pub single_step : {u ks : List ℕ} {m : Option Mark} {c : Coming} {out out' : List Token} {ls ls' : List ℕ} → Lays G u ks m c out ls → Lays G u ks m c out' ls' → (out ≡ out') × (ls ≡ ls')
  single_step {u} {ks} {m} {c} (goes_on {m' = n} {r = r} a e rest) (goes_on {m' = n'} {r = s} {out = out'} {ks' = ls'} b f more) =
      let same = single_rule G u a b in
      let marks : n' ≡ n = ap (λ o. mark_in o m) (sym f ∙ ap onward (sym same) ∙ e) in
      let moved = subst (λ (x : Option Mark). Lays G (u ++ inserts r) (leaves r (column c) ks) x c out' ls') marks
      (subst (λ (x : Rule). Lays G (u ++ inserts x) (leaves x (column c) ks) n' c out' ls') (sym same) more) in
      let both = single_step rest moved in
      (ap (λ x. map (inserted c) (inserts r) ++ x) both.0 ∙ ap (λ x. map (inserted c) (inserts x) ++ out') same, both.1)
  single_step {u} (goes_on a e rest) (writes b f) = absurd (omega (arith, ap way (sym e ∙ ap onward (single_rule G u a b) ∙ f)))
  single_step {u} (goes_on a e rest) (ends b f) = absurd (omega (arith, ap way (sym e ∙ ap onward (single_rule G u a b) ∙ f)))
  single_step {u} (writes a e) (goes_on b f more) = absurd (omega (arith, ap way (sym e ∙ ap onward (single_rule G u a b) ∙ f)))
  single_step {u} {ks} (writes {l = l} a e) (writes b f) = (refl, ap (λ x. leaves x l.column ks) (single_rule G u a b))
  single_step {u} (ends a e) (goes_on b f more) = absurd (omega (arith, ap way (sym e ∙ ap onward (single_rule G u a b) ∙ f)))
  single_step (ends a e) (ends b f) = (refl, refl)

  -- one list of tokens at most for a sheet
  pub single_sheet : {u ks : List ℕ} {b : Before} {ls : List Lexeme} {p : Place} {out out' : List Token} → Resolves G u ks b ls p out → Resolves G u ks b ls p out' → out ≡ out'
  single_sheet (at_end a) (at_end b) = (single_step a b).0
  single_sheet {u} (at_lexeme {b = b} {l = l} {ls = ls} {p = p} {out = out} {ks' = ks} a rest) (at_lexeme {out = out'} {rest = rest'} {ks' = ks''} b' more) =
      let both = single_step a b' in
      let moved = subst (λ (x : List ℕ). Resolves G (u ++ kinds out) x (after l.kind) ls p rest') (sym both.1) (subst (λ (x : List Token). Resolves G (u ++ kinds x) ks'' (after l.kind) ls p rest') (sym both.0) more) in
      ap (λ x. out ++ x) (single_sheet rest moved) ∙ ap (λ x. x ++ rest') both.0
