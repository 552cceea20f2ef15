-- An example sheet: its lexemes with what is inserted before each, and the calls of a service over them. Assumes nothing.
use Rattle.std.specs.Prelude.{◌≡◌, ℕ, true, false, List, [], ◌∷◌, ◌++◌, map, length, Some}
use Rattle.grammar.specs.Grammar.{LanguageOf}
use Rattle.grammar.specs.Sheet.{sheet}
use Rattle.sheet.specs.declared.fault.Reason.{Reason}
use Rattle.sheet.specs.declared.lexeme.Lexeme.{Lexeme}
use Rattle.sheet.specs.declared.lexeme.Place.{Place}
use Rattle.sheet.specs.declared.lexeme.Token.{Token}
use Rattle.table.specs.Level.{table_reach}
use Rattle.layout.specs.Layout.{Turns, kinds}
use Rattle.sheet.specs.Tokens.{written}
use Rattle.layout.specs.Marks.{inserted}
use Rattle.layout.specs.Service.{Event, Run, State, new}
use Rattle.layout.specs.declared.call.Answer.TheVariants.{Ticket as ticket, Count as count, Refused as refused}
use Rattle.layout.specs.declared.call.Call.TheVariants.{Begin as begin, Feed as feed, Finish as finish}
use Rattle.layout.specs.declared.rule.Coming.TheVariants.{Lexeme as lexeme, End as ending}

-- a lexeme that is first on its line: its kind, line, column, offset and length
abbrev pub first : ℕ → ℕ → ℕ → ℕ → ℕ → Lexeme
first k l c o n = record { kind = k; line = l; column = c; first = true; offset = o; length = n }

-- a lexeme that is not
abbrev pub later : ℕ → ℕ → ℕ → ℕ → ℕ → Lexeme
later k l c o n = record { kind = k; line = l; column = c; first = false; offset = o; length = n }

-- a line and a column
abbrev pub place : ℕ → ℕ → Place
place l c = record { line = l; column = c }

-- an accepted lexeme, and the kinds that are inserted before it
pub record Piece : Type 0 where
  pub inserts : List ℕ
  pub lexeme : Lexeme

infix 45 ◌▸◌
-- kinds, and the lexeme before which they are inserted
abbrev pub ◌▸◌ : List ℕ → Lexeme → Piece
ks ▸ l = record { inserts = ks; lexeme = l }

-- a lexeme before which nothing is inserted
abbrev pub plain : Lexeme → Piece
plain l = [] ▸ l

-- the lexemes of some pieces
abbrev pub lexemes : List Piece → List Lexeme
lexemes xs = map (λ (x : Piece). x.lexeme) xs

-- the tokens that a piece comes to: those inserted, at the lexeme's place, and the lexeme without its flag
abbrev pub piece_tokens : Piece → List Token
piece_tokens x = map (inserted (lexeme x.lexeme)) x.inserts ++ written x.lexeme ∷ []

-- the tokens inserted at the end
abbrev pub end_tokens : Place → List ℕ → List Token
end_tokens p ks = map (inserted (ending p)) ks

-- the tokens of pieces, one after another
abbrev pub pieces_tokens : List Piece → List Token
pieces_tokens [] = []
pieces_tokens (x ∷ xs) = piece_tokens x ++ pieces_tokens xs

-- a sheet is begun; its ticket is 0
abbrev pub begun : Event
begun = record { call = begin; answer = ticket 0; tokens = [] }

-- how many places are free in the queue at each call
abbrev pub free : ℕ
free = 64

-- a lexeme is accepted
abbrev pub fed : Piece → Event
fed x = record { call = feed 0 x.lexeme free; answer = count (length (piece_tokens x)); tokens = piece_tokens x }

-- a lexeme is refused, with the innermost context
abbrev pub not_fed : Lexeme → Reason → ℕ → Event
not_fed l why k =
    record { call = feed 0 l free; answer = refused (record { reason = why; line = l.line; column = l.column; context = Some k }); tokens = [] }

-- the sheet is finished
abbrev pub ended : Place → List ℕ → Event
ended p ks = record { call = finish 0 p free; answer = count (length ks); tokens = end_tokens p ks }

-- it is not, with the innermost context
abbrev pub not_ended : Place → Reason → ℕ → Event
not_ended p why k =
    record { call = finish 0 p free; answer = refused (record { reason = why; line = p.line; column = p.column; context = Some k }); tokens = [] }

-- these are the calls of a run of a new service over the sheet grammar, with their answers and the tokens that they write
abbrev pub Happens : List Event → Type 0
Happens es = (s : State) × Run (LanguageOf sheet) table_reach (new 0) es s

-- a sheet that is finished: its lexemes, calls that are refused before the end, the end with the kinds that are inserted there, and the kinds of all its tokens
pub record Example : Type 0 where
  pub pieces : List Piece
  pub refusals : List Event
  pub end : Place
  pub inserts : List ℕ
  pub gives : List ℕ

-- its calls
abbrev pub events : Example → List Event
events x = begun ∷ (map fed x.pieces ++ (x.refusals ++ ended x.end x.inserts ∷ []))

-- its tokens
abbrev pub tokens : Example → List Token
tokens x = pieces_tokens x.pieces ++ end_tokens x.end x.inserts

-- it happens, the rules turn its lexemes into its tokens, and these are of the kinds that it gives
pub record Finished (x : Example) : Type 0 where
  pub happens : Happens (events x)
  pub turns : Turns (LanguageOf sheet) (lexemes x.pieces) x.end (tokens x)
  pub given : kinds (tokens x) ≡ x.gives
