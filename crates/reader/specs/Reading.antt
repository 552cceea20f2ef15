-- What one reading does: it puts lexemes into a queue until the text ends, a fault comes, or no place is free. Assumes nothing.
use Rattle.std.specs.Prelude.{ℕ, zero, suc, ◌+◌, List, [], ◌∷◌, length, Some, None, Ok, Err, Option, Result}
use Rattle.queue.specs.Waiting.{room}
use Rattle.queue.specs.declared.ring.Queue.{Queue}
use Rattle.sheet.specs.declared.lexeme.Lexeme.{Lexeme}
use Rattle.reader.specs.Items.{Item, good, bad, items}
use Rattle.reader.specs.declared.reader.Reader.{Reader}
use Rattle.reader.specs.declared.stop.Stop.{Stop}
use Rattle.reader.specs.declared.stop.Stop.TheVariants.{Fault, Full}

-- the text of a reader, and the offset where it goes on
abbrev pub text_of : Reader → List ℕ
text_of r = r.text.now

abbrev pub offset_of : Reader → ℕ
offset_of r = r.here.offset

-- a reading: the lexemes that it puts, why it stops before the end of the text if it does, and where the next one goes on
pub record Reading : Type 0 where
  pub put : List Lexeme
  pub stop : Option Stop
  pub next : ℕ

-- one lexeme more at the front
abbrev pub and_first : Lexeme → Reading → Reading
and_first l r = record { put = l ∷ r.put; stop = r.stop; next = r.next }

-- a reading of items with so many free places; the text ends at `end`
abbrev pub reading : ℕ → ℕ → List Item → Reading
reading end free [] = record { put = []; stop = None; next = end }
reading end free (bad i n f ∷ xs) = record { put = []; stop = Some (Fault f); next = i + n }
reading end zero (good l ∷ xs) = record { put = []; stop = Some (Full (record {})); next = l.offset }
reading end (suc free) (good l ∷ xs) = and_first l (reading end free xs)

-- what it answers: how many lexemes it put, or why it stopped
abbrev pub answer_of : ℕ → Option Stop → Result ℕ Stop
answer_of n None = Ok n
answer_of n (Some s) = Err s

abbrev pub answer : Reading → Result ℕ Stop
answer r = answer_of (length r.put) r.stop

-- the reading that a reader does into a queue
abbrev pub reads : Reader → Queue Lexeme → Reading
reads r q = reading (length (text_of r)) (room q) (items (text_of r) (offset_of r))
