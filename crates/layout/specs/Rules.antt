-- Which rule comes first, and what each rule does. A context is the column of an implicit block, or 0 for an explicit one. Assumes nothing.
use Rattle.std.specs.Prelude.{◌≡◌, ℕ, ◌<◌, Bool, true, false, List, [], ◌∷◌, ◌++◌, map, ◌≢◌, None, Option, Some}
use Rattle.parser.specs.Sets.{Lists, Begins}
use Rattle.sheet.specs.declared.lexeme.Lexeme.{Lexeme}
use Rattle.sheet.specs.declared.lexeme.Place.{Place}
use Rattle.layout.specs.Marks.{column}
use Rattle.layout.specs.declared.rule.Coming.{Coming}
use Rattle.layout.specs.declared.rule.Coming.TheVariants.{Lexeme as lexeme, End as ending}
use Rattle.layout.specs.declared.rule.Insert.{Insert}
use Rattle.layout.specs.declared.rule.Insert.TheVariants.{Open, Close, Separator}
use Rattle.layout.specs.declared.rule.Mark.{Mark}
use Rattle.layout.specs.declared.rule.Mark.TheVariants.{Line, Block}
use Rattle.layout.specs.declared.rule.Onward.{Onward}
use Rattle.layout.specs.declared.rule.Onward.TheVariants.{Mark as at_mark, Lexeme as lexeme_written, End as ended, Undefined as undefined}
use Rattle.layout.specs.declared.rule.Rule.{Rule}
use Rattle.layout.specs.declared.rule.Rule.TheVariants.{Separate, CloseShallower, DropMark, OpenBlock, EmptyBlock, CloseTyped, StrayClose, OpenTyped, CloseOnError, WriteLexeme, CloseAtEnd, End, BlockLeftOpen}

-- a kind is viable after the kinds u when u and then that kind begin a sentence of the language
abbrev pub Viable : Lists → List ℕ → ℕ → Type 0
Viable G u k = Begins (λ w. G (u ++ w)) k

-- a column is deeper than the innermost block, or there is none and it is some column at all
abbrev pub Deeper : ℕ → List ℕ → Type 0
Deeper n [] = 0 < n
Deeper n (k ∷ ks) = k < n

-- a lexeme that is no brace
abbrev pub Plain : Lexeme → Type 0
Plain l = (l.kind ≢ 3) × (l.kind ≢ 4)

-- the innermost block is implicit and has to close before a kind: no sentence goes on with the kind here, and one goes on with }
abbrev pub MustClose : Lists → List ℕ → ℕ → List ℕ → Type 0
MustClose G u t [] = ⊥
MustClose G u t (k ∷ ks) = (0 < k) × (Viable G u t → ⊥) × Viable G u 4

-- the innermost block is explicit
abbrev pub Explicit : List ℕ → Type 0
Explicit [] = ⊥
Explicit (k ∷ ks) = k ≡ 0

-- the rule that applies at a mark, after the kinds u, in the contexts ks
pub data Applies (G : Lists) (u : List ℕ) : Option Mark → Coming → List ℕ → Rule → Type 0 where
  separate : {c : Coming} {k : ℕ} {ks : List ℕ} → k ≡ column c → Applies G u (Some Line) c (k ∷ ks) Separate
  close_shallower : {c : Coming} {k : ℕ} {ks : List ℕ} → column c < k → Applies G u (Some Line) c (k ∷ ks) CloseShallower
  drop_deeper : {c : Coming} {k : ℕ} {ks : List ℕ} → k < column c → Applies G u (Some Line) c (k ∷ ks) DropMark
  drop_outside : {c : Coming} → Applies G u (Some Line) c [] DropMark
  open_block : {c : Coming} {ks : List ℕ} → Deeper (column c) ks → Applies G u (Some Block) c ks OpenBlock
  empty_block : {c : Coming} {ks : List ℕ} → (Deeper (column c) ks → ⊥) → Applies G u (Some Block) c ks EmptyBlock
  close_typed : {l : Lexeme} {ks : List ℕ} → l.kind ≡ 4 → Explicit ks → Applies G u None (lexeme l) ks CloseTyped
  stray_close : {l : Lexeme} {ks : List ℕ} → l.kind ≡ 4 → (Explicit ks → ⊥) → Applies G u None (lexeme l) ks StrayClose
  open_typed : {l : Lexeme} {ks : List ℕ} → l.kind ≡ 3 → Applies G u None (lexeme l) ks OpenTyped
  close_on_error : {l : Lexeme} {ks : List ℕ} → Plain l → MustClose G u l.kind ks → Applies G u None (lexeme l) ks CloseOnError
  write_lexeme : {l : Lexeme} {ks : List ℕ} → Plain l → (MustClose G u l.kind ks → ⊥) → Applies G u None (lexeme l) ks WriteLexeme
  close_at_end : {p : Place} {k : ℕ} {ks : List ℕ} → 0 < k → Applies G u None (ending p) (k ∷ ks) CloseAtEnd
  end : {p : Place} → Applies G u None (ending p) [] End
  block_left_open : {p : Place} {k : ℕ} {ks : List ℕ} → k ≡ 0 → Applies G u None (ending p) (k ∷ ks) BlockLeftOpen

-- the kind of a token that a rule inserts
abbrev pub insert_kind : Insert → ℕ
insert_kind Open = 3
insert_kind Close = 4
insert_kind Separator = 5

-- the tokens that a rule inserts
abbrev pub inserting : Rule → List Insert
inserting Separate = Separator ∷ []
inserting CloseShallower = Close ∷ []
inserting DropMark = []
inserting OpenBlock = Open ∷ []
inserting EmptyBlock = Open ∷ Close ∷ []
inserting CloseTyped = []
inserting StrayClose = []
inserting OpenTyped = []
inserting CloseOnError = Close ∷ []
inserting WriteLexeme = []
inserting CloseAtEnd = Close ∷ []
inserting End = []
inserting BlockLeftOpen = []

-- and their kinds
abbrev pub inserts : Rule → List ℕ
inserts r = map insert_kind (inserting r)

-- the contexts but the innermost
abbrev pub outer : List ℕ → List ℕ
outer [] = []
outer (k ∷ ks) = ks

-- what a rule leaves of the contexts, at a column
abbrev pub leaves : Rule → ℕ → List ℕ → List ℕ
leaves Separate n ks = ks
leaves CloseShallower n ks = outer ks
leaves DropMark n ks = ks
leaves OpenBlock n ks = n ∷ ks
leaves EmptyBlock n ks = ks
leaves CloseTyped n ks = outer ks
leaves StrayClose n ks = ks
leaves OpenTyped n ks = 0 ∷ ks
leaves CloseOnError n ks = outer ks
leaves WriteLexeme n ks = ks
leaves CloseAtEnd n ks = outer ks
leaves End n ks = ks
leaves BlockLeftOpen n ks = ks

-- how it goes on: at another mark before the same, with the lexeme written, with the end reached, or not at all
abbrev pub onward : Rule → Onward
onward Separate = at_mark None
onward CloseShallower = at_mark (Some Line)
onward DropMark = at_mark None
onward OpenBlock = at_mark None
onward EmptyBlock = at_mark (Some Line)
onward CloseTyped = lexeme_written
onward StrayClose = undefined
onward OpenTyped = lexeme_written
onward CloseOnError = at_mark None
onward WriteLexeme = lexeme_written
onward CloseAtEnd = at_mark None
onward End = ended
onward BlockLeftOpen = undefined

-- the rules that open a block
abbrev pub opening : Rule → Bool
opening Separate = false
opening CloseShallower = false
opening DropMark = false
opening OpenBlock = true
opening EmptyBlock = false
opening CloseTyped = false
opening StrayClose = false
opening OpenTyped = true
opening CloseOnError = false
opening WriteLexeme = false
opening CloseAtEnd = false
opening End = false
opening BlockLeftOpen = false
