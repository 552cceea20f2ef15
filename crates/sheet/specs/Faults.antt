-- The number and the layer of each refusal. Assumes nothing.
use Rattle.std.specs.Prelude.{ℕ}
use Rattle.sheet.specs.declared.fault.Layer.{Layer}
use Rattle.sheet.specs.declared.fault.Layer.TheVariants.{Text, Layout, Parser}
use Rattle.sheet.specs.declared.fault.Reason.{Reason}
use Rattle.sheet.specs.declared.fault.Reason.TheVariants.{UnreadableByte, RunTooLong, ColumnTooFar, SheetOpen, NumbersSpent, WrongTicket, BadLexeme, StrayClose, TooDeep, NotViable, ReachSpent, NoRoom, BlockOpen, NotComplete}

-- the number of each layer
abbrev pub layer_number : Layer → ℕ
layer_number Text = 1
layer_number Layout = 2
layer_number Parser = 3

-- what a refusal is known by outside: its number and its layer
pub record Known : Type 0 where
  pub number : ℕ
  pub layer : Layer

-- each refusal with its number and its layer
abbrev pub known : Reason → Known
known UnreadableByte = record { number = 1; layer = Text }
known RunTooLong = record { number = 2; layer = Text }
known ColumnTooFar = record { number = 3; layer = Text }
known SheetOpen = record { number = 5; layer = Layout }
known NumbersSpent = record { number = 6; layer = Layout }
known WrongTicket = record { number = 7; layer = Layout }
known BadLexeme = record { number = 8; layer = Layout }
known StrayClose = record { number = 9; layer = Layout }
known TooDeep = record { number = 10; layer = Layout }
known NotViable = record { number = 11; layer = Parser }
known ReachSpent = record { number = 12; layer = Parser }
known NoRoom = record { number = 13; layer = Layout }
known BlockOpen = record { number = 14; layer = Layout }
known NotComplete = record { number = 15; layer = Parser }
