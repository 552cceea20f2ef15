-- What a stack with a number left means, and a parser made of two such.
-- Assumes nothing.
use Rattle.std.specs.Prelude.{ℕ, Bool, true, false, List, reverse}
use Rattle.grammar.specs.Grammar.{SentencesFrom, LanguageOf}
use Rattle.grammar.specs.Sheet.{sheet}
use Rattle.parser.specs.Sets.{Lists}
use Rattle.parser.specs.Meaning.{Mark, absent, holds, Meaning}
use Rattle.table.specs.declared.level.Level.{Level}
use Rattle.table.specs.declared.table_parser.TableParser.{TableParser}

-- the stack of a level, the top first
abbrev pub stack_of : Level → List ℕ
stack_of level = reverse level.symbols.items

-- the lists of kinds that a stack derives
abbrev pub remains : List ℕ → Lists
remains stack = SentencesFrom sheet stack

-- how many tokens the table parser takes from a start
abbrev pub table_reach : ℕ
table_reach = 1024

-- the mark at a level that is held, where it counts
abbrev pub mark_of : Bool → Level → Mark
mark_of true level = holds (remains (stack_of level)) level.left
mark_of false level = absent

-- the table parser's meaning at a stack, a number left and a mark
abbrev pub means : List ℕ → ℕ → Mark → Meaning
means stack left mark =
    record { language = LanguageOf sheet; reach = table_reach; remainder = remains stack; left = left; mark = mark }

-- the meaning of a table parser
abbrev pub meaning_of : TableParser → Meaning
meaning_of parser = means (stack_of parser.present) parser.present.left (mark_of parser.marked parser.held)

-- a new parser: the sheet grammar's language may follow, the whole reach is left, and there is no mark
abbrev pub fresh : Meaning
fresh =
    record { language = LanguageOf sheet; reach = table_reach; remainder = LanguageOf sheet; left = table_reach; mark = absent }
