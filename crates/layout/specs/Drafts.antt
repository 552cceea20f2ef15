-- What a call would leave, as the code keeps it. Assumes nothing.
use Rattle.std.specs.Prelude.{◌≡◌, ℕ, ◌<◌, ◌≤◌, Bool, true, false, not, ◌&&◌, List, [], ◌∷◌, ◌++◌, map, length, replicate, Some, None, Ok, Err, Option, Result}
use Rattle.parser.specs.Meaning.{Alike, Meaning, SameMark, taken}
use Rattle.parser.specs.Runs.{after}
use Rattle.parser.specs.Sets.{Begins, Same}
use Rattle.parser.specs.declared.Refused.{Refused}
use Rattle.parser.specs.declared.Refused.TheVariants.{NotViable as Unviable, ReachSpent as Spent}
use Rattle.sheet.specs.declared.fault.Reason.{Reason}
use Rattle.sheet.specs.declared.fault.Reason.TheVariants.{TooDeep, NotViable, ReachSpent}
use Rattle.sheet.specs.declared.lexeme.Token.{Token}
use Rattle.sheet.specs.Tokens.{written}
use Rattle.layout.specs.Contexts.{stack, stacked}
use Rattle.layout.specs.Layout.{kinds}
use Rattle.layout.specs.Limits.{Goes, Laid, Room, Runs}
use Rattle.layout.specs.Marks.{inserted}
use Rattle.layout.specs.Rules.{insert_kind}
use Rattle.layout.specs.declared.draft.Draft.{Draft}
use Rattle.layout.specs.declared.rule.Coming.{Coming}
use Rattle.layout.specs.declared.rule.Coming.TheVariants.{Lexeme as lexeme, End as ending}
use Rattle.layout.specs.declared.rule.Mark.{Mark}
use Rattle.layout.specs.declared.rule.Insert.{Insert}
use Rattle.layout.specs.declared.rule.Insert.TheVariants.{Open, Close, Separator}

-- with one more that the call opened
abbrev pub with_opened : Option ℕ → List ℕ → List ℕ
with_opened None ks = ks
with_opened (Some k) ks = k ∷ ks

-- the contexts that a draft leaves
abbrev pub contexts_of : List ℕ → Draft → List ℕ
contexts_of cs d = with_opened d.opened (stack cs d.depth)

-- a parser's refusal as a fault's reason
abbrev pub reason_of : Refused → Reason
reason_of Unviable = NotViable
reason_of Spent = ReachSpent

-- one token, before which the depth and the parser are asked: what it makes of the parser, or why it is not written
pub data Step (kind depth : ℕ) (before after : Meaning) : Result (Unit {0}) Reason → Type 0 where
  taken_on : {x : Unit {0}} → Room kind depth → Begins before.remainder kind → 0 < before.left → Alike after (taken kind before) → Step kind depth before after (Ok x)
  too_deep : (Room kind depth → ⊥) → Alike after before → Step kind depth before after (Err TooDeep)
  not_viable : Room kind depth → (Begins before.remainder kind → ⊥) → Alike after before → Step kind depth before after (Err NotViable)
  reach_spent : Room kind depth → Begins before.remainder kind → before.left ≡ 0 → Alike after before → Step kind depth before after (Err ReachSpent)

-- a token or none
abbrev pub if_set : Bool → ℕ → List ℕ
if_set true k = k ∷ []
if_set false k = []

-- the kinds of the tokens that a draft inserts
abbrev pub tokens_of : Draft → List ℕ
tokens_of d = if_set d.brace 3 ++ (replicate d.closes 4 ++ (if_set d.separator 5 ++ replicate d.closes_after 4))

-- nothing is inserted, and as many blocks are open as before
abbrev pub empty : ℕ → Draft
empty depth = record { depth = depth; opened = None; brace = false; closes = 0; separator = false; closes_after = 0 }

-- a lexeme that is written alone, or why it is not
abbrev pub alone : ℕ → Result (Unit {0}) Reason → Result Draft Reason
alone depth (Ok x) = Ok (empty depth)
alone depth (Err why) = Err why

-- a draft stays in one row: no separator, and nothing behind it
abbrev pub Row : Draft → Draft → Type 0
Row d e = (e.separator ≡ false) × (e.closes_after ≡ d.closes_after)

abbrev pub is_separator : Insert → Bool
is_separator Open = false
is_separator Close = false
is_separator Separator = true

-- none of some tokens is a separator
abbrev pub no_separator : List Insert → Bool
no_separator [] = true
no_separator (t ∷ ts) = not (is_separator t) && no_separator ts

-- which token a draft can insert behind the others
abbrev pub Next : Draft → Insert → Type 0
Next d Open = (d.brace ≡ false) × (d.closes ≡ 0) × (d.separator ≡ false) × (d.closes_after ≡ 0)
Next d Close = Unit {0}
Next d Separator = (d.separator ≡ false) × (d.closes_after ≡ 0)

-- which tokens a draft can insert one after another: only `}` come behind the first
abbrev pub AllClose : List Insert → Type 0
AllClose [] = Unit {0}
AllClose (t ∷ ts) = (t ≡ Close) × AllClose ts

abbrev pub NextAll : Draft → List Insert → Type 0
NextAll d [] = Unit {0}
NextAll d (t ∷ ts) = Next d t × AllClose ts

-- the parser as it was for life, with its mark
pub record Bound (after before : Meaning) : Type 0 where
  pub language : Same after.language before.language
  pub reach : after.reach ≡ before.reach
  pub mark : SameMark after.mark before.mark

-- tokens taken one after another and drafted, or why one is not
pub data Inserted (ts : List Insert) (depth : ℕ) (d : Draft) (before now : Meaning) : Result Draft Reason → Type 0 where
  drafted : {e : Draft} → Goes before.remainder depth [] before.left (map insert_kind ts) (Ok now.left) → Alike now (after (map insert_kind ts) before)
      → tokens_of e ≡ tokens_of d ++ map insert_kind ts → e.depth ≡ d.depth → e.opened ≡ d.opened → (no_separator ts ≡ true → d.separator ≡ false → Row d e) → Inserted ts depth d before now (Ok e)
  refused : {why : Reason} → Goes before.remainder depth [] before.left (map insert_kind ts) (Err why) → Bound now before → Inserted ts depth d before now (Err why)

-- the tokens of a draft: those that it inserts before what comes, and the lexeme itself
abbrev pub drafted_tokens : Coming → Draft → List Token
drafted_tokens (lexeme l) d = map (inserted (lexeme l)) (tokens_of d) ++ written l ∷ []
drafted_tokens (ending p) d = map (inserted (ending p)) (tokens_of d)

-- the rules over what comes, as the code has them: a draft of what they write and leave, with the parser moved on, or why they stop
pub data Laying (cs : List ℕ) (m : Option Mark) (c : Coming) (before now : Meaning) : Result Draft Reason → Type 0 where
  laid : {d : Draft} → (x : Laid) → Runs before.remainder [] before.left (stacked cs) m c (Ok x) → x.tokens ≡ drafted_tokens c d → x.contexts ≡ contexts_of cs d → d.depth ≤ length cs
      → Alike now (after (kinds x.tokens) before) → Laying cs m c before now (Ok d)
  stopped : {why : Reason} → Runs before.remainder [] before.left (stacked cs) m c (Err why) → Bound now before → Laying cs m c before now (Err why)
