-- A number made of all lexemes and faults of a text. Assumes nothing.
use Rattle.std.specs.Prelude.{ℕ, ◌+◌, ◌%◌, ◌^◌, cond, List, [], map, length, Ok, Err, sum_by, Result, nat_le}
use Rattle.sheet.specs.Faults.{known}
use Rattle.sheet.specs.declared.fault.Fault.{Fault}
use Rattle.sheet.specs.declared.lexeme.Lexeme.{Lexeme}
use Rattle.sheet.specs.declared.lexeme.Token.{Token}
use Rattle.reader.specs.Items.{items}
use Rattle.reader.specs.Laws.{tell}
use Rattle.reader.specs.declared.stop.Stop.{Stop}
use Rattle.reader.specs.declared.stop.Stop.TheVariants.{Fault as at_fault, Full as at_full}

-- what a lexeme or a fault adds
abbrev pub weight : Result Lexeme Fault → ℕ
weight (Ok l) = l.kind + l.line + l.column + cond l.first 1 0 + l.offset + l.length
weight (Err f) = (known f.reason).number + f.line + f.column

-- what a token adds, and what a fault adds: its number and its place, and not its context
abbrev pub token_weight : Token → ℕ
token_weight t = t.kind + t.line + t.column + t.offset + t.length

abbrev pub fault_weight : Fault → ℕ
fault_weight f = weight (Err f)

-- what a reading adds that stops before the end of the text: a fault, or nothing where no place was free
abbrev pub stop_weight : Stop → ℕ
stop_weight (at_fault f) = weight (Err f)
stop_weight (at_full f) = 0

-- what a text tells, added up
abbrev pub told_sum : List ℕ → ℕ
told_sum t = sum_by weight (map tell (items t 0)) % 2 ^ 64

-- a text too long is read as empty
abbrev pub total : List ℕ → ℕ
total t = told_sum (cond (nat_le (length t) 65535) t [])
