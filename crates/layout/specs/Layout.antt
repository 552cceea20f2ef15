-- The rules over a lexeme, and over a whole sheet. Assumes nothing.
use Rattle.std.specs.Prelude.{◌≡◌, ℕ, List, [], ◌∷◌, ◌++◌, map, Option}
use Rattle.parser.specs.Sets.{Lists}
use Rattle.sheet.specs.declared.lexeme.Lexeme.{Lexeme}
use Rattle.sheet.specs.declared.lexeme.Place.{Place}
use Rattle.sheet.specs.declared.lexeme.Token.{Token}
use Rattle.sheet.specs.Tokens.{written}
use Rattle.layout.specs.Marks.{after, column, end_mark, inserted, mark_of}
use Rattle.layout.specs.Rules.{Applies, inserts, leaves, onward}
use Rattle.layout.specs.declared.rule.Before.{Before}
use Rattle.layout.specs.declared.rule.Before.TheVariants.{Nothing}
use Rattle.layout.specs.declared.rule.Coming.{Coming}
use Rattle.layout.specs.declared.rule.Coming.TheVariants.{Lexeme as lexeme, End as ending}
use Rattle.layout.specs.declared.rule.Mark.{Mark}
use Rattle.layout.specs.declared.rule.Onward.TheVariants.{Mark as at_mark, Lexeme as lexeme_written, End as ended}
use Rattle.layout.specs.declared.rule.Rule.{Rule}

-- the kinds of some tokens
abbrev pub kinds : List Token → List ℕ
kinds ts = map (λ (t : Token). t.kind) ts

-- the rules over one lexeme, or over the end: from the kinds u, the contexts ks and a mark to the tokens that they write and the contexts that they leave
pub data Lays (G : Lists) : List ℕ → List ℕ → Option Mark → Coming → List Token → List ℕ → Type 0 where
  goes_on : {u ks : List ℕ} {m m' : Option Mark} {c : Coming} {r : Rule} {out : List Token} {ks' : List ℕ} → Applies G u m c ks r → onward r ≡ at_mark m'
      → Lays G (u ++ inserts r) (leaves r (column c) ks) m' c out ks' → Lays G u ks m c (map (inserted c) (inserts r) ++ out) ks'
  writes : {u ks : List ℕ} {m : Option Mark} {l : Lexeme} {r : Rule} → Applies G u m (lexeme l) ks r → onward r ≡ lexeme_written → Lays G u ks m (lexeme l) (written l ∷ []) (leaves r l.column ks)
  ends : {u ks : List ℕ} {m : Option Mark} {p : Place} {r : Rule} → Applies G u m (ending p) ks r → onward r ≡ ended → Lays G u ks m (ending p) [] ks

-- the rules over the rest of a sheet, to its end
pub data Resolves (G : Lists) : List ℕ → List ℕ → Before → List Lexeme → Place → List Token → Type 0 where
  at_end : {u ks : List ℕ} {b : Before} {p : Place} {out : List Token} {ks' : List ℕ} → Lays G u ks (end_mark b) (ending p) out ks' → Resolves G u ks b [] p out
  at_lexeme : {u ks : List ℕ} {b : Before} {l : Lexeme} {ls : List Lexeme} {p : Place} {out rest : List Token} {ks' : List ℕ} → Lays G u ks (mark_of b l) (lexeme l) out ks'
      → Resolves G (u ++ kinds out) ks' (after l.kind) ls p rest → Resolves G u ks b (l ∷ ls) p (out ++ rest)

-- the rules turn a sheet's lexemes into tokens: they end, and wrote these
abbrev pub Turns : Lists → List Lexeme → Place → List Token → Type 0
Turns G ls p out = Resolves G [] [] Nothing ls p out

-- into a sentence of the language
abbrev pub TurnsIntoSentence : Lists → List Lexeme → Place → Type 0
TurnsIntoSentence G ls p = (out : List Token) × (Turns G ls p out × G (kinds out))

-- the rules are single-valued: they turn a sheet into one list of tokens at most
abbrev pub SingleValued : Lists → Type 0
SingleValued G = (ls : List Lexeme) (p : Place) (out out' : List Token) → Turns G ls p out → Turns G ls p out' → out ≡ out'
