-- How a lexeme, a fault and a token are written: decimal numbers with a space between. Assumes nothing.
use Rattle.std.specs.Prelude.{ℕ, cond, List, ◌++◌, Some, None, codes, decimal, Option}
use Rattle.sheet.specs.Faults.{known, layer_number}
use Rattle.sheet.specs.declared.fault.Fault.{Fault}
use Rattle.sheet.specs.declared.lexeme.Lexeme.{Lexeme}
use Rattle.sheet.specs.declared.lexeme.Token.{Token}

-- line, column, kind, flag, offset and length
abbrev pub lexeme_text : Lexeme → List ℕ
lexeme_text l =
    decimal l.line ++ (codes " " ++ (decimal l.column ++ (codes " " ++ (decimal l.kind ++ (codes " " ++ (decimal (cond l.first 1 0) ++ (codes " " ++
    (decimal l.offset ++ (codes " " ++ decimal l.length)))))))))

-- a context, or a dash for an absent one
abbrev pub context_text : Option ℕ → List ℕ
context_text None = codes "-"
context_text (Some c) = decimal c

-- line, column, layer, number and context
abbrev pub fault_text : Fault → List ℕ
fault_text f =
    decimal f.line ++ (codes " " ++ (decimal f.column ++ (codes " " ++ (decimal (layer_number (known f.reason).layer) ++ (codes " " ++
    (decimal (known f.reason).number ++ (codes " " ++ context_text f.context)))))))

-- kind, line, column, offset and length
abbrev pub token_numbers : Token → List ℕ
token_numbers t =
    decimal t.kind ++ (codes " " ++ (decimal t.line ++ (codes " " ++ (decimal t.column ++ (codes " " ++
    (decimal t.offset ++ (codes " " ++ decimal t.length)))))))
