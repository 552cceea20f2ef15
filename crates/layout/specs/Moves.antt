-- What a call does to the parser, as the code has it: it takes the tokens, or all is as before. Assumes nothing.
use Rattle.std.specs.Prelude.{◌≡◌, ℕ, ◌-◌, ◌<◌, ◌≤◌, List, [], ◌++◌, length, Ok, Err, Result, Option}
use Rattle.parser.specs.Meaning.{Alike, Meaning}
use Rattle.parser.specs.Runs.{after as after_kinds}
use Rattle.parser.specs.Sets.{Lists, Same}
use Rattle.sheet.specs.declared.fault.Reason.{Reason}
use Rattle.sheet.specs.declared.fault.Reason.TheVariants.{NoRoom, NotComplete}
use Rattle.layout.specs.Contexts.{stacked}
use Rattle.layout.specs.Drafts.{Bound, contexts_of, drafted_tokens}
use Rattle.layout.specs.Layout.{kinds}
use Rattle.layout.specs.Limits.{Laid, Runs}
use Rattle.layout.specs.declared.draft.Draft.{Draft}
use Rattle.layout.specs.declared.resolver.Resolver.{Resolver}
use Rattle.layout.specs.declared.rule.Coming.{Coming}
use Rattle.layout.specs.declared.rule.Coming.TheVariants.{Lexeme as lexeme, End as ending}
use Rattle.layout.specs.declared.rule.Mark.{Mark}

-- the parser has taken kinds: what followed them may follow, and that many fewer are left
pub record Took (u : List ℕ) (before after : Meaning) : Type 0 where
  pub language : Same after.language before.language
  pub reach : after.reach ≡ before.reach
  pub remainder : Same after.remainder (λ w. before.remainder (u ++ w))
  pub left : after.left ≡ before.left - length u

-- at the end a sentence has to be whole
abbrev pub Whole : Lists → Coming → Laid → Type 0
Whole R (lexeme l) x = Unit {0}
Whole R (ending p) x = R (kinds x.tokens)

-- as the parser tells it where it stands
abbrev pub WholeAt : Lists → Coming → Type 0
WholeAt R (lexeme l) = Unit {0}
WholeAt R (ending p) = R []

-- the rules over what comes, with all that may refuse it: what they leave, or why it is refused
pub data Tries (R : Lists) (left : ℕ) (ks : List ℕ) (m : Option Mark) (c : Coming) (free : ℕ) : Result Laid Reason → Type 0 where
  fits : {x : Laid} → Runs R [] left ks m c (Ok x) → Whole R c x → length x.tokens ≤ free → Tries R left ks m c free (Ok x)
  stopped : {why : Reason} → Runs R [] left ks m c (Err why) → Tries R left ks m c free (Err why)
  not_whole : {x : Laid} → Runs R [] left ks m c (Ok x) → (Whole R c x → ⊥) → Tries R left ks m c free (Err NotComplete)
  no_room : {x : Laid} → Runs R [] left ks m c (Ok x) → Whole R c x → free < length x.tokens → Tries R left ks m c free (Err NoRoom)

-- a draft of what is accepted, with the parser moved on, or why it is refused, with the parser as before
pub data Moves (cs : List ℕ) (m : Option Mark) (c : Coming) (free : ℕ) (before after : Meaning) : Result Draft Reason → Type 0 where
  accepted : {d : Draft} → (x : Laid) → Tries before.remainder before.left (stacked cs) m c free (Ok x) → x.tokens ≡ drafted_tokens c d → x.contexts ≡ contexts_of cs d → d.depth ≤ length cs
      → Took (kinds x.tokens) before after → Moves cs m c free before after (Ok d)
  refused : {why : Reason} → Tries before.remainder before.left (stacked cs) m c free (Err why) → Took [] before after → Moves cs m c free before after (Err why)

-- the same while the parser is still marked: a refusal may leave it moved
pub data Attempts (cs : List ℕ) (m : Option Mark) (c : Coming) (free : ℕ) (before after : Meaning) : Result Draft Reason → Type 0 where
  accepted : {d : Draft} → (x : Laid) → Tries before.remainder before.left (stacked cs) m c free (Ok x) → x.tokens ≡ drafted_tokens c d → x.contexts ≡ contexts_of cs d → d.depth ≤ length cs
      → Alike after (after_kinds (kinds x.tokens) before) → Attempts cs m c free before after (Ok d)
  refused : {why : Reason} → Tries before.remainder before.left (stacked cs) m c free (Err why) → Bound after before → Attempts cs m c free before after (Err why)

-- all but the parser is as before
pub record Beside {P : Type 0} (before after : Resolver P) : Type 0 where
  pub contexts : after.contexts ≡ before.contexts
  pub last : after.before ≡ before.before
  pub sheet : after.sheet ≡ before.sheet
  pub next : after.next ≡ before.next

-- all but the contexts is as before
pub record Around {P : Type 0} (before after : Resolver P) : Type 0 where
  pub parser : after.parser ≡ before.parser
  pub last : after.before ≡ before.before
  pub sheet : after.sheet ≡ before.sheet
  pub next : after.next ≡ before.next
