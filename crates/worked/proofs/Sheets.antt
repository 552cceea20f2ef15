-- The eight sheets, each by one computation. Assumes nothing.
use Rattle.std.proofs.Common.{◌≡◌, ℕ, List, [], ◌∷◌, ◌++◌, map, length, Some, None, Option, sym, refl, subst, subst₂, arith}
use Rattle.std.proofs.lemmas.List.{append_assoc}
use Rattle.parser.specs.Sets.{Lists}
use Rattle.grammar.specs.Grammar.{LanguageOf}
use Rattle.grammar.specs.Sheet.{sheet}
use Rattle.sheet.specs.declared.lexeme.Lexeme.{Lexeme}
use Rattle.sheet.specs.declared.lexeme.Place.{Place}
use Rattle.sheet.specs.declared.lexeme.Token.{Token}
use Rattle.table.specs.Level.{table_reach}
use Rattle.layout.specs.Law.{Accepted, calls, sheet_of}
use Rattle.layout.specs.Layout.{Turns, kinds}
use Rattle.layout.specs.Service.{Does, Event, Run, State, finish_fails, finishes, more, new, none}
use Rattle.layout.specs.declared.call.Answer.{Answer}
use Rattle.layout.specs.declared.call.Answer.TheVariants.{Count as count}
use Rattle.layout.specs.declared.call.Call.TheVariants.{Finish as finish}
use Rattle.layout.proofs.Finish.{finish_law}
use Rattle.worked.specs.Examples.{Examples, in_parentheses, keyword_last, left_open, nested, no_deeper, nothing, shallower, stray_parenthesis}
use Rattle.worked.specs.Pieces.{Example, Finished, Happens, begun, end_tokens, ended, events, fed, free, lexemes, tokens}
use Rattle.worked.proofs.Calling.{Ran, run?, run_so}
use Rattle.worked.proofs.Stacks.{complete?, complete_sure, viable?, viable_sure}
use Rattle.worked.proofs.Tells.{IfAny}

-- the run of the calls of some events
abbrev ran : List Event → Option Ran
ran es = run? viable? complete? table_reach (new 0) (calls es)

-- what happened in it
abbrev happened : Option Ran → Option (List Event)
happened None = None
happened (Some r) = Some r.events

-- it has these events
happens : (es : List Event) → happened (ran es) ≡ Some es → Happens es
happens es e = by (ran es) (run_so (LanguageOf sheet) viable? complete? table_reach viable_sure complete_sure (new 0) (calls es)) e
  where
    by : (o : Option Ran) → IfAny (λ (r : Ran). Run (LanguageOf sheet) table_reach (new 0) r.events r.state) o → happened o ≡ Some es → Happens es
    by None r e = absurd (let z : ◌≡◌ {A = ℕ} 0 1 = cc in omega arith)
    by (Some x) r e = let same : x.events ≡ es = cc in (x.state, subst (λ (fs : List Event). Run (LanguageOf sheet) table_reach (new 0) fs x.state) same r)

-- a run but for its last call, and that call
run_last : {G : Lists} {reach : ℕ} (es : List Event) (e : Event) {s t : State} → Run G reach s (es ++ e ∷ []) t → (m : State) × Run G reach s es m × Does G reach m e.call e.answer e.tokens t
run_last [] e {s = s} (more d none) = (s, none, d)
run_last (x ∷ es) e (more d r) = let rest = run_last es e r in (rest.0, more d rest.1, rest.2)

-- where a sheet is finished, it was open
open_before : {G : Lists} {reach : ℕ} {s s' : State} {t : ℕ} {p : Place} {n : ℕ} {a : Answer} {ts : List Token} → Does G reach s (finish t p n) a ts s' → Accepted a → s.sheet ≡ Some t
open_before (finishes e r g f) ok = e
open_before (finish_fails w) ok = absurd ok

-- the rules turn its lexemes into its tokens
turned : (es : List Event) (p : Place) (ks : List ℕ) (s : State) → Run (LanguageOf sheet) table_reach (new 0) (es ++ ended p ks ∷ []) s → Turns (LanguageOf sheet) (sheet_of es).lexemes p ((sheet_of es).tokens ++ end_tokens p ks)
turned es p ks s r =
    let parts = run_last es (ended p ks) r in
    ((finish_law (LanguageOf sheet) table_reach).accepted 0 es parts.0 s 0 p free (count (length ks)) (end_tokens p ks) parts.1 (open_before parts.2 tt) parts.2 tt).0

-- the events of an example but for the last
abbrev before_end : Example → List Event
before_end x = begun ∷ (map fed x.pieces ++ x.refusals)

-- four computations show that it is finished
finished : (x : Example) → happened (ran (events x)) ≡ Some (events x) → (sheet_of (before_end x)).lexemes ≡ lexemes x.pieces → (sheet_of (before_end x)).tokens ++ end_tokens x.end x.inserts ≡ tokens x
    → kinds (tokens x) ≡ x.gives → Finished x
finished x e ls ts is =
    let h = happens (events x) e in
    let last = ended x.end x.inserts in
    let r = subst (λ (fs : List Event). Run (LanguageOf sheet) table_reach (new 0) (begun ∷ fs) h.0) (sym (append_assoc (map fed x.pieces) x.refusals (last ∷ []))) h.1 in
    record {
      happens = h;
      turns = subst₂ (λ (l : List Lexeme) (t : List Token). Turns (LanguageOf sheet) l x.end t) ls ts (turned (before_end x) x.end x.inserts h.0 r);
      given = is;
    }

pub examples : Examples
examples =
    record {
      empty_sheet = finished nothing refl refl refl refl;
      nested_blocks = finished nested refl refl refl refl;
      refused_parenthesis = finished stray_parenthesis refl refl refl refl;
      shallower_than_the_first = happens shallower refl;
      empty_block_then_line = finished no_deeper refl refl refl refl;
      keyword_at_the_end = finished keyword_last refl refl refl refl;
      explicit_block_left_open = happens left_open refl;
      closed_by_a_parenthesis = finished in_parentheses refl refl refl refl;
    }
