-- The calls as the code makes them: from where a resolver stands to where it then stands. Assumes nothing.
use Rattle.std.specs.Prelude.{◌≡◌, ℕ, ◌^◌, ◌≤◌, List, [], ◌++◌, length, Some, None, Ok, Err, Option, Result}
use Rattle.parser.specs.Meaning.{Meaning, Parts, meaning, started}
use Rattle.sheet.specs.declared.fault.Fault.{Fault}
use Rattle.sheet.specs.declared.fault.Reason.{Reason}
use Rattle.sheet.specs.declared.lexeme.Lexeme.{Lexeme}
use Rattle.sheet.specs.declared.lexeme.Place.{Place}
use Rattle.sheet.specs.declared.lexeme.Token.{Token}
use Rattle.layout.specs.Contexts.{stacked}
use Rattle.layout.specs.Drafts.{drafted_tokens}
use Rattle.layout.specs.Layout.{kinds}
use Rattle.layout.specs.Limits.{Laid}
use Rattle.layout.specs.Marks.{after}
use Rattle.layout.specs.Moves.{Took}
use Rattle.layout.specs.Service.{Does, FeedFails, Feeds, FinishFails, Finishes, Good, State}
use Rattle.layout.specs.declared.call.Answer.{Answer}
use Rattle.layout.specs.declared.call.Answer.TheVariants.{Ticket as ticket, Count as count, Closed as closed, Refused as refused}
use Rattle.layout.specs.declared.call.Call.{Call}
use Rattle.layout.specs.declared.call.Call.TheVariants.{Begin as begin, Feed as feed, Finish as finish, GiveUp as give_up}
use Rattle.layout.specs.declared.draft.Draft.{Draft}
use Rattle.layout.specs.declared.resolver.Resolver.{Resolver}
use Rattle.layout.specs.declared.rule.Coming.TheVariants.{Lexeme as lexeme, End as ending}
use Rattle.layout.specs.declared.ticket.Refusal.{Refusal}
use Rattle.layout.specs.declared.ticket.Ticket.{Ticket}

-- the number that the next sheet gets
abbrev pub next_of : Option ℕ → ℕ
next_of None = 2 ^ 64
next_of (Some n) = n

-- where a resolver stands; what was written before is in its parser, so it counts as nothing here
abbrev pub standing : {P : Type 0} → Resolver P → State
standing r = record { sheet = r.sheet; next = next_of r.next; contexts = stacked r.contexts.items; before = r.before; written = [] }

-- with the sheet closed
abbrev pub shut : State → State
shut s = record { sheet = None; next = s.next; contexts = []; before = s.before; written = s.written }

-- with what was written before left to the parser
abbrev pub anew : State → State
anew s = record { sheet = s.sheet; next = s.next; contexts = s.contexts; before = s.before; written = [] }

-- a sheet over a parser that took its tokens so far
pub record Stand : Type 1 where
  pub parser : Meaning
  pub sheet : State

-- a sheet that stands so, over a parser of this meaning
abbrev pub over : Meaning → State → Stand
over m s = record { parser = m; sheet = s }

-- where a resolver stands, with its parser
abbrev pub stand : {P : Type 0} → Parts P → Resolver P → Stand
stand parts r = over (meaning parts r.parser) (standing r)

-- a lexeme is accepted, with a draft of its tokens, or nothing is altered
pub data Fed (a : Stand) (t : ℕ) (l : Lexeme) (free : ℕ) (b : Stand) : Result Draft Reason → Type 0 where
  accepted : {d : Draft} (x : Laid) → a.sheet.sheet ≡ Some t → Good l → Feeds a.parser.remainder a.parser.left a.sheet l (Ok x) → length x.tokens ≤ free → x.tokens ≡ drafted_tokens (lexeme l) d
      → b.sheet ≡ record { sheet = a.sheet.sheet; next = a.sheet.next; contexts = x.contexts; before = after l.kind; written = [] } → Took (kinds x.tokens) a.parser b.parser → Fed a t l free b (Ok d)
  denied : {why : Reason} → FeedFails a.parser.remainder a.parser.left a.sheet t l free why → b.sheet ≡ a.sheet → Took [] a.parser b.parser → Fed a t l free b (Err why)

-- a sheet is finished, with a draft of its last tokens, or nothing is altered
pub data Finished (a : Stand) (t : ℕ) (p : Place) (free : ℕ) (b : Stand) : Result Draft Reason → Type 0 where
  accepted : {d : Draft} (x : Laid) → a.sheet.sheet ≡ Some t → Finishes a.parser.remainder a.parser.left a.sheet p (Ok x) → a.parser.remainder (kinds x.tokens) → length x.tokens ≤ free → x.tokens ≡ drafted_tokens (ending p) d
      → b.sheet ≡ shut a.sheet → Took (kinds x.tokens) a.parser b.parser → Finished a t p free b (Ok d)
  denied : {why : Reason} → FinishFails a.parser.remainder a.parser.left a.sheet t p free why → b.sheet ≡ a.sheet → Took [] a.parser b.parser → Finished a t p free b (Err why)

-- the parser from which a call goes on: begin starts it anew
abbrev pub begun : Answer → Meaning → Meaning
begun (ticket n) m = started m
begun (count n) m = m
begun closed m = m
begun (refused f) m = m

abbrev pub from : Call → Answer → Meaning → Meaning
from begin a m = begun a m
from (feed t l free) a m = m
from (finish t p free) a m = m
from (give_up t) a m = m

-- a call on a resolver is one of the service whose language is what the parser may still take: what it answers, writes and leaves
pub record Calls (x : Stand) (c : Call) (a : Answer) (ts : List Token) (y : Stand) : Type 0 where
  pub left : State
  pub does : Does x.parser.remainder x.parser.left x.sheet c a ts left
  pub state : y.sheet ≡ anew left
  pub parser : Took left.written (from c a x.parser) y.parser

-- a call that writes into a queue
pub record Writes (x : Stand) (c : Call) (a : Answer) (q q' : List Token) (y : Stand) : Type 0 where
  pub tokens : List Token
  pub list : q' ≡ q ++ tokens
  pub calls : Calls x c a tokens y

-- what begin, feed, finish and give up answer
abbrev pub begin_answer : Result Ticket Fault → Answer
begin_answer (Ok t) = ticket t.number
begin_answer (Err f) = refused f

abbrev pub feed_answer : Result ℕ Fault → Answer
feed_answer (Ok n) = count n
feed_answer (Err f) = refused f

abbrev pub finish_answer : Result ℕ Refusal → Answer
finish_answer (Ok n) = count n
finish_answer (Err r) = refused r.fault

abbrev pub give_up_answer : Result (Unit {0}) Refusal → Answer
give_up_answer (Ok x) = closed
give_up_answer (Err r) = refused r.fault
