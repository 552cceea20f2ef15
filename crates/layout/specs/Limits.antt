-- The rules inside the limits of a call: what stops them before a token. Assumes nothing.
use Rattle.std.specs.Prelude.{◌≡◌, ℕ, suc, ◌<◌, List, [], ◌∷◌, ◌++◌, map, length, Ok, Err, Result, Option}
use Rattle.parser.specs.Sets.{Lists}
use Rattle.sheet.specs.declared.fault.Reason.{Reason}
use Rattle.sheet.specs.declared.fault.Reason.TheVariants.{StrayClose, TooDeep, NotViable, ReachSpent, BlockOpen}
use Rattle.sheet.specs.declared.lexeme.Lexeme.{Lexeme}
use Rattle.sheet.specs.declared.lexeme.Place.{Place}
use Rattle.sheet.specs.declared.lexeme.Token.{Token}
use Rattle.sheet.specs.Tokens.{written}
use Rattle.layout.specs.Marks.{column, inserted}
use Rattle.layout.specs.Rules.{Applies, Viable, inserts, leaves, onward}
use Rattle.layout.specs.declared.rule.Coming.{Coming}
use Rattle.layout.specs.declared.rule.Coming.TheVariants.{Lexeme as lexeme, End as ending}
use Rattle.layout.specs.declared.rule.Mark.{Mark}
use Rattle.layout.specs.declared.rule.Onward.TheVariants.{Mark as at_mark, Lexeme as lexeme_written, End as ended, Undefined as undefined}
use Rattle.layout.specs.declared.rule.Rule.{Rule}

-- at most 64 blocks are open, so a { needs room for one more
abbrev pub Room : ℕ → ℕ → Type 0
Room k depth = k ≡ 3 → depth < 64

-- kinds are written one after another at a depth, after the kinds u, with so many left to the parser: all are, and so many are left then, or the first that is not says why
pub data Goes (R : Lists) (depth : ℕ) : List ℕ → ℕ → List ℕ → Result ℕ Reason → Type 0 where
  done : {u : List ℕ} {left : ℕ} → Goes R depth u left [] (Ok left)
  goes : {u : List ℕ} {left k : ℕ} {w : List ℕ} {o : Result ℕ Reason} → Room k depth → Viable R u k → Goes R depth (u ++ k ∷ []) left w o → Goes R depth u (suc left) (k ∷ w) o
  too_deep : {u : List ℕ} {left k : ℕ} {w : List ℕ} → (Room k depth → ⊥) → Goes R depth u left (k ∷ w) (Err TooDeep)
  not_viable : {u : List ℕ} {left k : ℕ} {w : List ℕ} → Room k depth → (Viable R u k → ⊥) → Goes R depth u left (k ∷ w) (Err NotViable)
  reach_spent : {u : List ℕ} {k : ℕ} {w : List ℕ} → Room k depth → Viable R u k → Goes R depth u 0 (k ∷ w) (Err ReachSpent)

-- where the rules are undefined
abbrev pub undefined_at : Coming → Reason
undefined_at (lexeme l) = StrayClose
undefined_at (ending p) = BlockOpen

-- tokens written, and the contexts that are left
pub record Laid : Type 0 where
  pub tokens : List Token
  pub contexts : List ℕ

-- tokens written before
abbrev pub and_before : List Token → Result Laid Reason → Result Laid Reason
and_before ts (Ok x) = Ok (record { tokens = ts ++ x.tokens; contexts = x.contexts })
and_before ts (Err why) = Err why

-- the rules over one lexeme or over the end, up to what stops them first
pub data Runs (R : Lists) : List ℕ → ℕ → List ℕ → Option Mark → Coming → Result Laid Reason → Type 0 where
  goes_on : {u ks : List ℕ} {left left' : ℕ} {m m' : Option Mark} {c : Coming} {r : Rule} {o : Result Laid Reason} → Applies R u m c ks r → onward r ≡ at_mark m'
      → Goes R (length ks) u left (inserts r) (Ok left') → Runs R (u ++ inserts r) left' (leaves r (column c) ks) m' c o → Runs R u left ks m c (and_before (map (inserted c) (inserts r)) o)
  stops : {u ks : List ℕ} {left : ℕ} {m m' : Option Mark} {c : Coming} {r : Rule} {why : Reason} → Applies R u m c ks r → onward r ≡ at_mark m'
      → Goes R (length ks) u left (inserts r) (Err why) → Runs R u left ks m c (Err why)
  writes : {u ks : List ℕ} {left left' : ℕ} {m : Option Mark} {l : Lexeme} {r : Rule} → Applies R u m (lexeme l) ks r → onward r ≡ lexeme_written
      → Goes R (length ks) u left (l.kind ∷ []) (Ok left') → Runs R u left ks m (lexeme l) (Ok (record { tokens = written l ∷ []; contexts = leaves r l.column ks }))
  refuses : {u ks : List ℕ} {left : ℕ} {m : Option Mark} {l : Lexeme} {r : Rule} {why : Reason} → Applies R u m (lexeme l) ks r → onward r ≡ lexeme_written
      → Goes R (length ks) u left (l.kind ∷ []) (Err why) → Runs R u left ks m (lexeme l) (Err why)
  is_undefined : {u ks : List ℕ} {left : ℕ} {m : Option Mark} {c : Coming} {r : Rule} → Applies R u m c ks r → onward r ≡ undefined → Runs R u left ks m c (Err (undefined_at c))
  ends : {u ks : List ℕ} {left : ℕ} {m : Option Mark} {p : Place} {r : Rule} → Applies R u m (ending p) ks r → onward r ≡ ended → Runs R u left ks m (ending p) (Ok (record { tokens = []; contexts = ks }))
