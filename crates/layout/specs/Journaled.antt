-- Runs of calls that were made and written down. Assumes nothing.
use Rattle.std.specs.Prelude.{◌≡◌, ℕ, List, [], ◌∷◌, ◌++◌, map}
use Rattle.parser.specs.Sets.{Lists}
use Rattle.sheet.specs.declared.lexeme.Token.{Token}
use Rattle.layout.specs.Calling.{Calls, Stand}
use Rattle.layout.specs.Law.{calls}
use Rattle.layout.specs.Service.{Event, Run, State, new}
use Rattle.layout.specs.declared.call.Answer.{Answer}
use Rattle.layout.specs.declared.call.Call.{Call}
use Rattle.layout.specs.declared.call.Call.TheVariants.{Begin as begin, Feed as feed, Finish as finish, GiveUp as give_up}

-- how many places a call finds free; begin and give up write nothing
abbrev pub free_places : Call → ℕ
free_places begin = 0
free_places (feed t l free) = free
free_places (finish t p free) = free
free_places (give_up t) = 0

-- the answers of a run
abbrev pub answers : List Event → List Answer
answers es = map (λ (e : Event). e.answer) es

-- all tokens of a run, one after another
abbrev pub written_in : List Event → List Token
written_in [] = []
written_in (e ∷ es) = e.tokens ++ written_in es

-- a run from a new service with these calls, answers and tokens
pub record Replayed (G : Lists) (reach first : ℕ) (cs : List Call) (xs : List Answer) (ts : List Token) : Type 0 where
  pub events : List Event
  pub last : State
  pub run : Run G reach (new first) events last
  pub calls : calls events ≡ cs
  pub answers : answers events ≡ xs
  pub tokens : written_in events ≡ ts

-- one more call, with its answer and tokens written down behind the others
pub record Noted (x : Stand) (c : Call) (xs xs' : List Answer) (ts ts' : List Token) (y : Stand) : Type 0 where
  pub answer : Answer
  pub tokens : List Token
  pub calls : Calls x c answer tokens y
  pub answered : xs' ≡ xs ++ answer ∷ []
  pub wrote : ts' ≡ ts ++ tokens
