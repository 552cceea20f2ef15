-- What comes next in a sheet, and the mark before it. Assumes nothing.
use Rattle.std.specs.Prelude.{◌≡◌, ℕ, Bool, true, false, cond, ◌||◌, ◌==◌, None, Option, Some}
use Rattle.std.specs.Coded.{Unit-prop, →_prop}
use Rattle.sheet.specs.declared.lexeme.Lexeme.{Lexeme}
use Rattle.sheet.specs.declared.lexeme.Token.{Token}
use Rattle.layout.specs.declared.rule.Before.{Before}
use Rattle.layout.specs.declared.rule.Before.TheVariants.{Nothing, BlockKeyword, Other}
use Rattle.layout.specs.declared.rule.Coming.{Coming}
use Rattle.layout.specs.declared.rule.Coming.TheVariants.{Lexeme as lexeme, End as ending}
use Rattle.layout.specs.declared.rule.Mark.{Mark}
use Rattle.layout.specs.declared.rule.Mark.TheVariants.{Line, Block}

-- the column by which the rules go: at the end it is 0
abbrev pub column : Coming → ℕ
column (lexeme l) = l.column
column (ending p) = 0

-- a token that is inserted before what comes: it has its place, and no bytes of the text
abbrev pub inserted : Coming → ℕ → Token
inserted (lexeme l) k = record { kind = k; line = l.line; column = l.column; offset = 0; length = 0 }
inserted (ending p) k = record { kind = k; line = p.line; column = p.column; offset = 0; length = 0 }

-- let, where, of and do
abbrev pub opens_block : ℕ → Bool
opens_block k = k == 11 || k == 13 || k == 14 || k == 15

-- what stands before the lexeme that follows one of kind k
abbrev pub after : ℕ → Before
after k = cond (opens_block k) BlockKeyword Other

-- the mark of a line, if the flag is set
abbrev pub line_mark : Bool → Option Mark
line_mark true = Some Line
line_mark false = None

-- the mark before a lexeme: a block is due before the first lexeme and after a block keyword, unless the lexeme is {
abbrev pub mark_of : Before → Lexeme → Option Mark
mark_of Nothing l = cond (l.kind == 3) (line_mark l.first) (Some Block)
mark_of BlockKeyword l = cond (l.kind == 3) None (Some Block)
mark_of Other l = line_mark l.first

-- the mark before the end
abbrev pub end_mark : Before → Option Mark
end_mark Nothing = Some Block
end_mark BlockKeyword = Some Block
end_mark Other = None

-- whether the end comes
abbrev pub is_end : Coming → Bool
is_end (lexeme l) = false
is_end (ending p) = true

-- the kind of a lexeme, and no kind at the end
abbrev pub kind : Coming → ℕ
kind (lexeme l) = l.kind
kind (ending p) = 0

-- no block is due before a {
abbrev pub Fitting : Option Mark → Coming → Type 0
Fitting None c = Unit {0}
Fitting (Some Line) c = Unit {0}
Fitting (Some Block) c = kind c ≡ 3 → ⊥

-- which has one proof at most
pub Fitting-prop : (m : Option Mark) (c : Coming) → IsProp (Fitting m c)
Fitting-prop None c = Unit-prop
Fitting-prop (Some Line) c = Unit-prop
Fitting-prop (Some Block) c = →_prop (λ x y. absurd x)
