-- A lexeme that has no mark and is no brace, taken at once. Assumes nothing.
use Rattle.std.proofs.Common.{◌≡◌, ℕ, ◌<◌, ◌≤◌, List, [], length, None as nothing, Ok, Err, refl, ap, ◌∙◌, arith}
use Rattle.parser.specs.Meaning.{Alike, Meaning, taken}
use Rattle.parser.specs.Sets.{Begins, Lists}
use Rattle.sheet.specs.declared.fault.Reason.{Reason}
use Rattle.sheet.specs.declared.fault.Reason.TheVariants.{NotViable, ReachSpent}
use Rattle.sheet.specs.declared.lexeme.Lexeme.{Lexeme}
use Rattle.layout.specs.Contexts.{Implicit, stacked}
use Rattle.layout.specs.Drafts.{Laying, empty, contexts_of, if_set, not_viable, reach_spent, taken_on, tokens_of, with_opened}
use Rattle.layout.specs.Drafts as drafts
use Rattle.layout.specs.Limits.{Room}
use Rattle.layout.specs.Moves.{Moves, Took, Tries}
use Rattle.layout.specs.Rules.{MustClose, Plain, Viable, write_lexeme}
use Rattle.layout.specs.declared.rule.Coming.TheVariants.{Lexeme as lexeme}
use Rattle.layout.specs.declared.rule.Rule.TheVariants.{WriteLexeme}
use Rattle.layout.proofs.Exits.{exit_refused, exit_written}
use Rattle.layout.proofs.Running.{Running, running_new}

-- no block closes before a viable kind, nor where the innermost is not implicit
viable_stays : (G : Lists) (u : List ℕ) (t : ℕ) (ks : List ℕ) → Viable G u t → MustClose G u t ks → ⊥
viable_stays a b c d e f = grind arith

explicit_stays : (G : Lists) (u : List ℕ) (t : ℕ) (ks : List ℕ) → (Implicit ks → ⊥) → MustClose G u t ks → ⊥
explicit_stays a b c d e f = grind arith

-- parsers that took nothing are as before
pub took_same : (m n : Meaning) → Alike n m → Took [] m n
took_same m n so = record { language = so.language; reach = so.reach; remainder = so.remainder; left = so.left ∙ omega arith }

module _ (cs : List ℕ) (l : Lexeme) (m n : Meaning) (plain : Plain l) (small : length cs ≤ 64) where
  -- the rules stand at their start
  start : Running cs nothing (lexeme l) m (empty (length cs)) nothing m
  start = running_new cs nothing (lexeme l) m small tt

  -- no brace needs room
  room : (k : ℕ) → Room l.kind k
  room k e = absurd (plain.0 e)

  stopped : (free : ℕ) (why : Reason) → Alike n m → Laying cs nothing (lexeme l) m n (Err why) → Moves cs nothing (lexeme l) free m n (Err why)
  stopped free why same (drafts.stopped r b) = Moves.refused (Tries.stopped r) (took_same m n same)

  -- the parser takes the lexeme, and it is accepted where a place is free
  accepted : (free : ℕ) → 1 ≤ free → Laying cs nothing (lexeme l) m n (Ok (empty (length cs))) → Moves cs nothing (lexeme l) free m n (Ok (empty (length cs)))
  accepted free some (drafts.laid x r tokens contexts shallow so) =
      Moves.accepted x (Tries.fits r tt (omega (arith, ap length tokens))) tokens contexts shallow (record { language = so.language; reach = so.reach; remainder = so.remainder; left = so.left })

  pub direct_taken : Begins m.remainder l.kind → 0 < m.left → Alike n (taken l.kind m) → (free : ℕ) → 1 ≤ free → Moves cs nothing (lexeme l) free m n (Ok (empty (length cs)))
  direct_taken v some next free enough =
      accepted free enough (exit_written cs nothing m (empty (length cs)) nothing m WriteLexeme l start.stands (write_lexeme plain (viable_stays m.remainder [] l.kind (stacked cs) v)) refl n (empty (length cs)) (taken_on (room _) v some next) refl refl (omega arith))

  -- it takes no more
  pub direct_spent : Begins m.remainder l.kind → m.left ≡ 0 → Alike n m → (free : ℕ) → Moves cs nothing (lexeme l) free m n (Err ReachSpent)
  direct_spent v none same free =
      stopped free ReachSpent same (exit_refused cs nothing m (empty (length cs)) nothing m WriteLexeme l start.stands (write_lexeme plain (viable_stays m.remainder [] l.kind (stacked cs) v)) refl n ReachSpent (reach_spent (room _) v none same))

  -- no sentence goes on with it, and no block may close before it
  pub direct_unviable : (Begins m.remainder l.kind → ⊥) → (Implicit (stacked cs) → ⊥) → Alike n m → (free : ℕ) → Moves cs nothing (lexeme l) free m n (Err NotViable)
  direct_unviable v explicit same free =
      stopped free NotViable same (exit_refused cs nothing m (empty (length cs)) nothing m WriteLexeme l start.stands (write_lexeme plain (explicit_stays m.remainder [] l.kind (stacked cs) explicit)) refl n NotViable (not_viable (room _) v same))
