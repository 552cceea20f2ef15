-- A number made of all tokens and faults of a sheet. Assumes nothing.
use Rattle.std.specs.Prelude.{◌≡◌, ℕ, ◌+◌, ◌%◌, ◌^◌, List, [], sum_by, Result}
use Rattle.parser.specs.Sets.{Lists}
use Rattle.sheet.specs.declared.fault.Fault.{Fault}
use Rattle.sheet.specs.declared.lexeme.Token.{Token}
use Rattle.layout.specs.Service.{Does, State, new}
use Rattle.layout.specs.declared.call.Answer.TheVariants.{Ticket as ticket}
use Rattle.layout.specs.declared.call.Call.TheVariants.{Begin as begin}
use Rattle.whole.specs.Whole.{Ends, Feeding, all_faults, all_tokens, end_of, told}
use Rattle.speed.specs.Sums.{fault_weight, token_weight}

-- what tokens and faults add
abbrev pub worth : List Token → List Fault → ℕ
worth ts fs = sum_by token_weight ts + sum_by fault_weight fs

-- a text on a new service whose first number is 0, of a language and a reach: a sheet is begun, all that the text tells is fed, and the sheet is finished or given up; the number is the sum of all its tokens and faults
pub record Resolved (G : Lists) (reach : ℕ) (text : List ℕ) (sum : ℕ) : Type 0 where
  pub number : ℕ
  pub opened : State
  pub fed : State
  pub left : State
  pub tokens : List Token
  pub faults : List Fault
  pub outcome : Result (List Token) (List Fault)
  pub begins : Does G reach (new 0) begin (ticket number) [] opened
  pub feeding : Feeding G reach number opened (told text) tokens faults fed
  pub ends : Ends G reach fed number (end_of text) tokens faults outcome left
  pub total : sum ≡ worth (all_tokens tokens outcome) (all_faults faults outcome) % 2 ^ 64
