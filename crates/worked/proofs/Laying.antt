-- The rules over one lexeme or over the end, computed with a test of what is viable; and what is computed is so. Assumes nothing.
use Rattle.std.proofs.Common.{◌≡◌, ℕ, zero, suc, ◌<◌, Bool, true, false, not, ◌&&◌, ◌||◌, eqb, ltb, List, [], ◌∷◌, ◌++◌, map, length, Some, None, Ok, Err, Decides, Option, Result, refl}
use Rattle.parser.specs.Sets.{Lists}
use Rattle.sheet.specs.declared.fault.Reason.{Reason}
use Rattle.sheet.specs.declared.fault.Reason.TheVariants.{TooDeep, NotViable, ReachSpent}
use Rattle.sheet.specs.declared.lexeme.Lexeme.{Lexeme}
use Rattle.sheet.specs.declared.lexeme.Token.{Token}
use Rattle.layout.specs.First.{block_rule, close_rule, end_rule, innermost_of, line_rule}
use Rattle.layout.specs.Limits.{Goes, Laid, Room, Runs, and_before, undefined_at}
use Rattle.sheet.specs.Tokens.{written}
use Rattle.layout.specs.Marks.{column, inserted}
use Rattle.layout.specs.Rules.{Applies, MustClose, Viable, close_on_error, inserts, leaves, onward, open_typed, write_lexeme}
use Rattle.layout.specs.declared.rule.Coming.{Coming}
use Rattle.layout.specs.declared.rule.Coming.TheVariants.{Lexeme as lexeme, End as ending}
use Rattle.layout.specs.declared.rule.Mark.{Mark}
use Rattle.layout.specs.declared.rule.Mark.TheVariants.{Line, Block}
use Rattle.layout.specs.declared.rule.Onward.{Onward}
use Rattle.layout.specs.declared.rule.Onward.TheVariants.{Mark as at_mark, Lexeme as lexeme_written, End as end_reached, Undefined as undefined}
use Rattle.layout.specs.declared.rule.Rule.{Rule}
use Rattle.layout.specs.declared.rule.Rule.TheVariants.{OpenTyped, CloseOnError, WriteLexeme}
use Rattle.layout.proofs.Firsts.{at_block, at_close, at_end, at_line}
use Rattle.worked.proofs.Tells.{IfAny, Tells, tells, tells_below, tells_equal, tells_if, tells_not}

-- a kind is written or not, by its room and whether it is viable; then it goes on with what is left to the parser
abbrev pub next : Bool → Bool → ℕ → (ℕ → Result ℕ Reason) → Result ℕ Reason
next false v left on = Err TooDeep
next true false left on = Err NotViable
next true true zero on = Err ReachSpent
next true true (suc left) on = on left

-- the rule at a lexeme, by whether it is }, whether it is { and whether a block must close
abbrev pub lexeme_rule : Bool → Bool → Bool → Option ℕ → Rule
lexeme_rule true b c k = close_rule k
lexeme_rule false true c k = OpenTyped
lexeme_rule false false true k = CloseOnError
lexeme_rule false false false k = WriteLexeme

-- tokens that were written before
abbrev pub before : List Token → Option (Result Laid Reason) → Option (Result Laid Reason)
before ts None = None
before ts (Some o) = Some (and_before ts o)

-- the tokens that a rule inserts were written or not, and it goes on
abbrev pub from_mark : List Token → Result ℕ Reason → (ℕ → Option (Result Laid Reason)) → Option (Result Laid Reason)
from_mark ts (Ok left) on = before ts (on left)
from_mark ts (Err why) on = Some (Err why)

-- the lexeme was written or not
abbrev pub from_lexeme : Lexeme → List ℕ → Result ℕ Reason → Option (Result Laid Reason)
from_lexeme l ks (Ok left) = Some (Ok (record { tokens = written l ∷ []; contexts = ks }))
from_lexeme l ks (Err why) = Some (Err why)

module _ (viable? : List ℕ → ℕ → Bool) where
  abbrev pub goes? : ℕ → List ℕ → ℕ → List ℕ → Result ℕ Reason
  goes? depth u left [] = Ok left
  goes? depth u left (k ∷ w) = next (not (eqb k 3) || ltb depth 64) (viable? u k) left (λ n. goes? depth (u ++ k ∷ []) n w)

  abbrev pub must_close? : List ℕ → ℕ → List ℕ → Bool
  must_close? u t [] = false
  must_close? u t (k ∷ ks) = ltb 0 k && (not (viable? u t) && viable? u 4)

  abbrev pub rule? : List ℕ → Option Mark → Coming → List ℕ → Rule
  rule? u (Some Line) c ks = line_rule (column c) (innermost_of ks)
  rule? u (Some Block) c ks = block_rule (column c) (innermost_of ks)
  rule? u None (lexeme l) ks = lexeme_rule (eqb l.kind 4) (eqb l.kind 3) (must_close? u l.kind ks) (innermost_of ks)
  rule? u None (ending p) ks = end_rule (innermost_of ks)

  -- a rule is followed
  abbrev pub follow : List ℕ → ℕ → List ℕ → Coming → Rule → Onward → (List ℕ → ℕ → List ℕ → Option Mark → Option (Result Laid Reason)) → Option (Result Laid Reason)
  follow u left ks c r (at_mark m) on =
      from_mark (map (inserted c) (inserts r)) (goes? (length ks) u left (inserts r)) (λ n. on (u ++ inserts r) n (leaves r (column c) ks) m)
  follow u left ks (lexeme l) r lexeme_written on = from_lexeme l (leaves r l.column ks) (goes? (length ks) u left (l.kind ∷ []))
  follow u left ks (ending p) r lexeme_written on = None
  follow u left ks (lexeme l) r end_reached on = None
  follow u left ks (ending p) r end_reached on = Some (Ok (record { tokens = []; contexts = ks }))
  follow u left ks c r undefined on = Some (Err (undefined_at c))

  -- the rules over a lexeme or over the end, so many at most
  abbrev pub runs? : ℕ → List ℕ → ℕ → List ℕ → Option Mark → Coming → Option (Result Laid Reason)
  runs? zero u left ks m c = None
  runs? (suc n) u left ks m c = let r = rule? u m c ks in follow u left ks c r (onward r) (λ v rest js k. runs? n v rest js k c)

module _ (G : Lists) (viable? : List ℕ → ℕ → Bool) (sure : (u : List ℕ) (k : ℕ) → Decides (viable? u k) (Viable G u k)) where
  tells_viable : (u : List ℕ) (k : ℕ) → Tells (viable? u k) (Viable G u k)
  tells_viable u k = tells (viable? u k) (sure u k)

  goes_next : {depth : ℕ} {u : List ℕ} {k : ℕ} {w : List ℕ} (r v : Bool) (left : ℕ) (on : ℕ → Result ℕ Reason) → Tells r (Room k depth) → Tells v (Viable G u k)
      → ((n : ℕ) → Goes G depth (u ++ k ∷ []) n w (on n)) → Goes G depth u left (k ∷ w) (next r v left on)
  goes_next false v left on room viable h = Goes.too_deep room
  goes_next true false left on room viable h = Goes.not_viable room viable
  goes_next true true zero on room viable h = Goes.reach_spent room viable
  goes_next true true (suc left) on room viable h = Goes.goes room viable (h left)

  pub goes_so : (depth : ℕ) (u : List ℕ) (left : ℕ) (w : List ℕ) → Goes G depth u left w (goes? viable? depth u left w)
  goes_so depth u left [] = Goes.done
  goes_so depth u left (k ∷ w) =
      goes_next (not (eqb k 3) || ltb depth 64) (viable? u k) left (λ n. goes? viable? depth (u ++ k ∷ []) n w)
      (tells_if (k ≡ 3) (depth < 64) (eqb k 3) (ltb depth 64) (tells_equal k 3) (tells_below depth 64)) (tells_viable u k) (λ n. goes_so depth (u ++ k ∷ []) n w)

  must_close_so : (u : List ℕ) (t : ℕ) (ks : List ℕ) → Tells (must_close? viable? u t ks) (MustClose G u t ks)
  must_close_so u t [] = λ x. x
  must_close_so u t (k ∷ ks) = by (0 < k) (Viable G u t → ⊥) (Viable G u 4) (ltb 0 k) (not (viable? u t)) (viable? u 4) (tells_below 0 k) (tells_not (Viable G u t) (viable? u t) (tells_viable u t)) (tells_viable u 4)
    where
      by : (P Q R : Type 0) (a b c : Bool) → Tells a P → Tells b Q → Tells c R → Tells (a && (b && c)) (P × Q × R)
      by P Q R true true true p q r = (p, q, r)
      by P Q R true true false p q r = λ x. r x.2
      by P Q R true false c p q r = λ x. q x.1
      by P Q R false b c p q r = λ x. p x.0

  at_lexeme : {u : List ℕ} {l : Lexeme} {ks : List ℕ} (a b c : Bool) → Tells a (l.kind ≡ 4) → Tells b (l.kind ≡ 3) → Tells c (MustClose G u l.kind ks) → Applies G u None (lexeme l) ks (lexeme_rule a b c (innermost_of ks))
  at_lexeme {u} {l} {ks} true b c four three must = at_close G u l ks four
  at_lexeme false true c four three must = open_typed three
  at_lexeme false false true four three must = close_on_error (three, four) must
  at_lexeme false false false four three must = write_lexeme (three, four) must

  pub rule_so : (u : List ℕ) (m : Option Mark) (c : Coming) (ks : List ℕ) → Applies G u m c ks (rule? viable? u m c ks)
  rule_so u (Some Line) c ks = at_line G u c ks
  rule_so u (Some Block) c ks = at_block G u c ks
  rule_so u None (lexeme l) ks =
      at_lexeme (eqb l.kind 4) (eqb l.kind 3) (must_close? viable? u l.kind ks) (tells_equal l.kind 4) (tells_equal l.kind 3) (must_close_so u l.kind ks)
  rule_so u None (ending p) ks = at_end G u p ks

  -- what is computed, if anything is, is what the rules do
  abbrev RunsSo : List ℕ → ℕ → List ℕ → Option Mark → Coming → Option (Result Laid Reason) → Type 0
  RunsSo u left ks m c = IfAny (Runs G u left ks m c)

  before_so : {u ks : List ℕ} {left n : ℕ} {m m' : Option Mark} {c : Coming} {r : Rule} (o : Option (Result Laid Reason)) → Applies G u m c ks r → onward r ≡ at_mark m'
      → Goes G (length ks) u left (inserts r) (Ok n) → RunsSo (u ++ inserts r) n (leaves r (column c) ks) m' c o → RunsSo u left ks m c (before (map (inserted c) (inserts r)) o)
  before_so None a e g h = tt
  before_so (Some o) a e g h = Runs.goes_on a e g h

  from_mark_so : {u ks : List ℕ} {left : ℕ} {m m' : Option Mark} {c : Coming} {r : Rule} (o : Result ℕ Reason) (on : ℕ → Option (Result Laid Reason)) → Applies G u m c ks r → onward r ≡ at_mark m'
      → Goes G (length ks) u left (inserts r) o → ((n : ℕ) → RunsSo (u ++ inserts r) n (leaves r (column c) ks) m' c (on n)) → RunsSo u left ks m c (from_mark (map (inserted c) (inserts r)) o on)
  from_mark_so (Ok n) on a e g h = before_so (on n) a e g (h n)
  from_mark_so (Err why) on a e g h = Runs.stops a e g

  from_lexeme_so : {u ks : List ℕ} {left : ℕ} {m : Option Mark} {l : Lexeme} {r : Rule} (o : Result ℕ Reason) → Applies G u m (lexeme l) ks r → onward r ≡ lexeme_written
      → Goes G (length ks) u left (l.kind ∷ []) o → RunsSo u left ks m (lexeme l) (from_lexeme l (leaves r l.column ks) o)
  from_lexeme_so (Ok n) a e g = Runs.writes a e g
  from_lexeme_so (Err why) a e g = Runs.refuses a e g

  follow_so : (u : List ℕ) (left : ℕ) (ks : List ℕ) (m : Option Mark) (c : Coming) (r : Rule) (w : Onward) (on : List ℕ → ℕ → List ℕ → Option Mark → Option (Result Laid Reason)) → Applies G u m c ks r → onward r ≡ w
      → ((v : List ℕ) (n : ℕ) (js : List ℕ) (k : Option Mark) → RunsSo v n js k c (on v n js k)) → RunsSo u left ks m c (follow viable? u left ks c r w on)
  follow_so u left ks m c r (at_mark k) on a e h =
      from_mark_so (goes? viable? (length ks) u left (inserts r)) (λ n. on (u ++ inserts r) n (leaves r (column c) ks) k) a e (goes_so (length ks) u left (inserts r)) (λ n. h (u ++ inserts r) n (leaves r (column c) ks) k)
  follow_so u left ks m (lexeme l) r lexeme_written on a e h = from_lexeme_so (goes? viable? (length ks) u left (l.kind ∷ [])) a e (goes_so (length ks) u left (l.kind ∷ []))
  follow_so u left ks m (ending p) r lexeme_written on a e h = tt
  follow_so u left ks m (lexeme l) r end_reached on a e h = tt
  follow_so u left ks m (ending p) r end_reached on a e h = Runs.ends a e
  follow_so u left ks m c r undefined on a e h = Runs.is_undefined a e

  pub runs_so : (n : ℕ) (u : List ℕ) (left : ℕ) (ks : List ℕ) (m : Option Mark) (c : Coming) → IfAny (Runs G u left ks m c) (runs? viable? n u left ks m c)
  runs_so zero u left ks m c = tt
  runs_so (suc n) u left ks m c =
      let r = rule? viable? u m c ks in
      follow_so u left ks m c r (onward r) (λ v rest js k. runs? viable? n v rest js k c) (rule_so u m c ks) refl (λ v rest js k. runs_so n v rest js k c)
