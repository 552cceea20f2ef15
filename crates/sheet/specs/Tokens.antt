-- A lexeme and the token that it is written as. Assumes nothing.
use Rattle.sheet.specs.declared.lexeme.Lexeme.{Lexeme}
use Rattle.sheet.specs.declared.lexeme.Token.{Token}

-- a lexeme as it is written: without its flag
abbrev pub written : Lexeme → Token
written l = record { kind = l.kind; line = l.line; column = l.column; offset = l.offset; length = l.length }
