-- The fifteen kinds and their numbers. Assumes nothing.
use Rattle.std.specs.Prelude.{◌≡◌, ℕ, Bool, true, false, Ok, Err, Result, ◌≢◌}
use Rattle.sheet.specs.declared.lexeme.Kind.{Kind}
use Rattle.sheet.specs.declared.lexeme.NoKind.{NoKind}
use Rattle.sheet.specs.declared.lexeme.Kind.TheVariants.{Name, Number, OpenBrace, CloseBrace, Semicolon, OpenParen, CloseParen, Equals, Comma, Operator, Let, In, Where, Of, Do}

-- the number of each kind
abbrev pub kind_number : Kind → ℕ
kind_number Name = 1
kind_number Number = 2
kind_number OpenBrace = 3
kind_number CloseBrace = 4
kind_number Semicolon = 5
kind_number OpenParen = 6
kind_number CloseParen = 7
kind_number Equals = 8
kind_number Comma = 9
kind_number Operator = 10
kind_number Let = 11
kind_number In = 12
kind_number Where = 13
kind_number Of = 14
kind_number Do = 15

-- a block follows let, where, of and do
abbrev pub opens : Kind → Bool
opens Name = false
opens Number = false
opens OpenBrace = false
opens CloseBrace = false
opens Semicolon = false
opens OpenParen = false
opens CloseParen = false
opens Equals = false
opens Comma = false
opens Operator = false
opens Let = true
opens In = false
opens Where = true
opens Of = true
opens Do = true

-- the kind that has the number, or a refusal where no kind has it
abbrev pub Numbered : ℕ → Result Kind NoKind → Type 0
Numbered n (Ok k) = kind_number k ≡ n
Numbered n (Err e) = (k : Kind) → kind_number k ≢ n
