-- A whole sheet as the code makes it: from where a resolver stands to where it then stands. Assumes nothing.
use Rattle.std.specs.Prelude.{◌≡◌, ℕ, ◌<◌, ◌≤◌, List, ◌++◌, length, None, Result}
use Rattle.parser.specs.Meaning.{Meaning}
use Rattle.parser.specs.Sets.{Same}
use Rattle.sheet.specs.declared.fault.Fault.{Fault}
use Rattle.sheet.specs.declared.lexeme.Lexeme.{Lexeme}
use Rattle.sheet.specs.declared.lexeme.Place.{Place}
use Rattle.sheet.specs.declared.lexeme.Token.{Token}
use Rattle.layout.specs.Calling.{Stand, anew}
use Rattle.layout.specs.Moves.{Took}
use Rattle.layout.specs.Service.{State}
use Rattle.layout.specs.declared.resolver.Resolver.{Resolver}
use Rattle.whole.specs.Keeping.{some}
use Rattle.whole.specs.Whole.{Ends, Feeding, Whole, Yields, all_faults, all_tokens, end_of, told}
use Rattle.whole.specs.declared.outcome.Failure.{Failure}
use Rattle.whole.specs.declared.outcome.Failure.TheVariants.{TooLong, NoMemory}
use Rattle.whole.specs.declared.progress.Progress.{Progress}

-- the parser is of the same language and reach as before
pub record SameParser (m n : Meaning) : Type 0 where
  pub language : Same n.language m.language
  pub reach : n.reach ≡ m.reach

-- while lexemes are fed the sheet stays open
pub record Within (x y : Stand) : Type 0 where
  pub parser : SameParser x.parser y.parser
  pub sheet : y.sheet.sheet ≡ x.sheet.sheet

-- some of what a text tells was fed: over the language that the parser may still take
pub record Fed (x : Stand) (t : ℕ) (told : List (Result Lexeme Fault)) (ts : List Token) (fs : List Fault) (y : Stand) : Type 0 where
  pub left : State
  pub feeding : Feeding x.parser.remainder x.parser.left t x.sheet told ts fs left
  pub state : y.sheet ≡ anew left
  pub parser : Took left.written x.parser y.parser

-- the same, with what came of it kept
pub record Keeps {K : Type 0} (kept : K → List Token → List Fault → K → Type 0) (x : Stand) (t : ℕ) (told : List (Result Lexeme Fault)) (a b : K) (y : Stand) : Type 0 where
  pub tokens : List Token
  pub faults : List Fault
  pub fed : Fed x t told tokens faults y
  pub keeper : kept a tokens faults b

-- the end of a sheet, from where a resolver stands
pub record Ended (x : Stand) (t : ℕ) (p : Place) (ts : List Token) (fs : List Fault) (r : Result (List Token) (List Fault)) (s' : State) : Type 0 where
  pub left : State
  pub ends : Ends x.parser.remainder x.parser.left x.sheet t p ts fs r left
  pub state : s' ≡ anew left

-- the end of a sheet that had tokens and faults, to which it adds some
pub record EndsWith (x : Stand) (t : ℕ) (p : Place) (ts us : List Token) (fs gs : List Fault) (s' : State) : Type 0 where
  pub outcome : Result (List Token) (List Fault)
  pub ended : Ended x t p ts fs outcome s'
  pub tokens : all_tokens ts outcome ≡ ts ++ us
  pub faults : all_faults fs outcome ≡ fs ++ gs

-- the end of a sheet, whatever tokens and faults it had, if only it is told whether there were faults
pub record Closes {K : Type 0} (kept : K → List Token → List Fault → K → Type 0) (x : Stand) (t : ℕ) (p : Place) (a : Progress K) (b : K) (s' : State) : Type 0 where
  pub tokens : List Token
  pub faults : List Fault
  pub ends : (ts : List Token) (fs : List Fault) → a.refused ≡ some fs → EndsWith x t p ts tokens fs faults s'
  pub keeper : kept a.keeper tokens faults b

-- a sheet that was begun, from where a resolver stands, with all its tokens and all its faults kept
pub record Ran {K : Type 0} (kept : K → List Token → List Fault → K → Type 0) (x : Stand) (t : ℕ) (text : List ℕ) (a b : K) (s' : State) : Type 0 where
  pub tokens : List Token
  pub faults : List Fault
  pub outcome : Result (List Token) (List Fault)
  pub fed : State
  pub left : State
  pub feeding : Feeding x.parser.remainder x.parser.left t x.sheet (told text) tokens faults fed
  pub ends : Ends x.parser.remainder x.parser.left fed t (end_of text) tokens faults outcome left
  pub state : s' ≡ anew left
  pub keeper : kept a (all_tokens tokens outcome) (all_faults faults outcome) b

-- afterwards no sheet is open
pub record Shut (x y : Stand) : Type 0 where
  pub parser : SameParser x.parser y.parser
  pub sheet : y.sheet.sheet ≡ None

-- the outcome of a whole sheet, over the language and the reach of the resolver's parser, and where the resolver stands then
pub record Comes (x : Stand) (text : List ℕ) (r : Result (List Token) (List Fault)) (s' : State) : Type 0 where
  pub left : State
  pub whole : Whole x.parser.language x.parser.reach x.sheet (told text) (end_of text) r left
  pub state : s' ≡ anew left

-- the same, with all its tokens and all its faults kept
pub record Brings {K : Type 0} (kept : K → List Token → List Fault → K → Type 0) (x : Stand) (text : List ℕ) (a b : K) (s' : State) : Type 0 where
  pub tokens : List Token
  pub faults : List Fault
  pub outcome : Result (List Token) (List Fault)
  pub left : State
  pub yields : Yields x.parser.language x.parser.reach x.sheet (told text) (end_of text) tokens faults outcome left
  pub state : s' ≡ anew left
  pub keeper : kept a tokens faults b

-- no outcome: a text is too long, and then no call was made, or memory was wanting
abbrev pub Fails : {P : Type 0} → List ℕ → Resolver P → Failure → Resolver P → Type 0
Fails text r TooLong r' = (65535 < length text) × (r' ≡ r)
Fails text r NoMemory r' = length text ≤ 65535
