-- A reading, lexeme by lexeme. Assumes nothing.
use Rattle.std.proofs.Common.{◌≡◌, ℕ, zero, suc, ◌+◌, ◌<◌, ◌≤◌, false, List, [], ◌∷◌, ◌++◌, map, length, is_some, is_ok, Some, None, Ok, Err, Option, Result, sym, refl, ap, ◌∙◌, subst, append_assoc, arith}
use Rattle.std.proofs.lemmas.List.{append-nil, length_push, map_push}
use Rattle.std.proofs.lemmas.Bool.{true≢false}
use Rattle.queue.specs.Waiting.{room, SamePlaces, waiting}
use Rattle.queue.specs.declared.ring.Queue.{Queue}
use Rattle.queue.proofs.Laws.{same_places_on}
use Rattle.sheet.specs.declared.fault.Fault.{Fault}
use Rattle.sheet.specs.declared.lexeme.Lexeme.{Lexeme}
use Rattle.reader.specs.Found.{Begins, Ends, Finds}
use Rattle.reader.specs.Items.{Item, good, bad, item_of, items}
use Rattle.reader.specs.Reading.{Reading, answer, answer_of, offset_of, reading, reads, text_of}
use Rattle.reader.specs.declared.item.Found.{Found}
use Rattle.reader.specs.declared.reader.Reader.{Reader}
use Rattle.reader.specs.declared.stop.Stop.{Stop}
use Rattle.reader.specs.declared.stop.Stop.TheVariants.{Fault as stop_fault, Full as stop_full}
use Rattle.reader.proofs.Chains.{chain}
use Rattle.reader.proofs.Pieces.{piece}

-- a reading puts some lexemes and then does what another does
pub record Then (ls : List Lexeme) (a b : Reading) : Type 0 where
  pub put : a.put ≡ ls ++ b.put
  pub stop : a.stop ≡ b.stop
  pub next : a.next ≡ b.next

-- lexemes that find a free place are put
pub reading_puts : (end free : ℕ) (ls : List Lexeme) (n : ℕ) (xs : List Item) → n ≡ free + length ls → Then ls (reading end n (map good ls ++ xs)) (reading end free xs)
reading_puts end free [] n xs e = let same : n ≡ free = omega arith in record { put = ap (λ k. (reading end k xs).put) same; stop = ap (λ k. (reading end k xs).stop) same; next = ap (λ k. (reading end k xs).next) same }
reading_puts end free (l ∷ ls) zero xs e = absurd (omega arith)
reading_puts end free (l ∷ ls) (suc n) xs e =
    let rest = reading_puts end free ls n xs (omega arith) in
    record { put = ap (λ ys. l ∷ ys) rest.put; stop = rest.stop; next = rest.next }

-- what a reading has done so far: from a reader and a queue to another reader and another queue, with lexemes put on the way
pub record Sofar (r : Reader) (q : Queue Lexeme) (s : Reader) (p : Queue Lexeme) (count : ℕ) : Type 0 where
  pub ls : List Lexeme
  pub text : text_of s ≡ text_of r
  pub list : waiting p ≡ waiting q ++ ls
  pub counted : count ≡ length ls
  pub free : room q ≡ room p + length ls
  pub told : items (text_of r) (offset_of r) ≡ map good ls ++ items (text_of r) (offset_of s)
  pub few : count ≤ offset_of s
  pub places : SamePlaces q p

-- what was found is a lexeme, and was put into a queue
pub record Put (w : Result Lexeme Fault) (p p' : Queue Lexeme) : Type 0 where
  pub lexeme : Lexeme
  pub is : w ≡ Ok lexeme
  pub list : waiting p' ≡ waiting p ++ lexeme ∷ []
  pub free : room p ≡ room p' + 1
  pub places : SamePlaces p p'

-- a reading comes out as the definition says: its answer, what then waits, and where the next one goes on
pub record Outcome (r : Reader) (q : Queue Lexeme) (a : Result ℕ Stop) (list : List Lexeme) (next : ℕ) : Type 0 where
  pub answered : a ≡ answer (reads r q)
  pub waits : list ≡ waiting q ++ (reads r q).put
  pub goes_on : next ≡ (reads r q).next
  pub forward : is_ok a ≡ false → 0 < room q → offset_of r < next

-- a reading that stops before the end has come on, if it had a free place
goes_forward : (r : Reader) (q : Queue Lexeme) (s : Option Stop) → (reads r q).stop ≡ s → (n : ℕ) → is_ok (answer_of n s) ≡ false → 0 < room q → offset_of r < (reads r q).next
goes_forward r q None e n refused some = absurd (true≢false refused)
goes_forward r q (Some s) e n refused some = (piece (text_of r) (chain (text_of r) (offset_of r) r.within) (room q)).forward some (ap is_some e)

module _ {r : Reader} {q : Queue Lexeme} {s : Reader} {p : Queue Lexeme} {count : ℕ} (sofar : Sofar r q s p count) where
  -- what is still to be read is read as from the start
  onward : (xs : List Item) → items (text_of r) (offset_of s) ≡ xs → Then sofar.ls (reads r q) (reading (length (text_of r)) (room p) xs)
  onward xs e =
      subst (λ (ys : List Item). Then sofar.ls (reading (length (text_of r)) (room q) ys) (reading (length (text_of r)) (room p) xs))
      (sym (sofar.told ∙ ap (λ ys. map good sofar.ls ++ ys) e)) (reading_puts (length (text_of r)) (room p) sofar.ls (room q) xs sofar.free)

  -- blanks and line ends are passed
  pub gaps_passed : (s' : Reader) → text_of s' ≡ text_of s → items (text_of s) (offset_of s) ≡ items (text_of s) (offset_of s') → offset_of s ≤ offset_of s' → Sofar r q s' p count
  gaps_passed s' text same onward =
      record {
        ls = sofar.ls;
        text = text ∙ sofar.text;
        list = sofar.list;
        counted = sofar.counted;
        free = sofar.free;
        told = sofar.told ∙ ap (λ x. map good sofar.ls ++ x) (rw (← sofar.text) same);
        few = omega (arith, sofar.few);
        places = sofar.places;
      }

  -- what was found comes first of what is left
  found_first : (f : Found) (found : Finds (text_of s) (offset_of s) f) → items (text_of r) (offset_of s) ≡ item_of (offset_of s) found.long f.what ∷ items (text_of r) f.after.offset
  found_first f found = rw (← sofar.text) found.told

  -- a reading that puts nothing more
  halted : (xs : List Item) (stop : Option Stop) (next : ℕ) → items (text_of r) (offset_of s) ≡ xs → reading (length (text_of r)) (room p) xs ≡ record { put = []; stop = stop; next = next }
      → Outcome r q (answer_of count stop) (waiting p) next
  halted xs stop next e is =
      let on = onward xs e in
      let put : (reads r q).put ≡ sofar.ls = on.put ∙ ap (λ (x : Reading). sofar.ls ++ x.put) is ∙ append-nil sofar.ls in
      let why : (reads r q).stop ≡ stop = on.stop ∙ ap (λ (x : Reading). x.stop) is in
      record {
        answered = ap (λ n. answer_of n stop) (sofar.counted ∙ sym (ap length put)) ∙ ap (answer_of (length (reads r q).put)) (sym why);
        waits = sofar.list ∙ ap (λ l. waiting q ++ l) (sym put);
        goes_on = sym (on.next ∙ ap (λ (x : Reading). x.next) is);
        forward = λ refused some. subst (λ j. offset_of r < j) (on.next ∙ ap (λ (x : Reading). x.next) is) (goes_forward r q stop why count refused some);
      }

  -- at the end of the text
  pub halted_at_end : Ends (text_of s) (offset_of s) → Outcome r q (Ok count) (waiting p) (offset_of s)
  halted_at_end end = subst (Outcome r q (Ok count) (waiting p)) (sym (end.end ∙ ap length sofar.text)) (halted [] None _ (rw (← sofar.text) end.none) refl)

  module _ (f : Found) (found : Finds (text_of s) (offset_of s) f) where
    -- at a fault
    pub halted_at_fault : (x : Fault) → f.what ≡ Err x → Outcome r q (Err (stop_fault x)) (waiting p) f.after.offset
    halted_at_fault x is =
        let i = offset_of s in
        subst (Outcome r q (Err (stop_fault x)) (waiting p)) (sym found.past)
        (halted (bad i found.long x ∷ items (text_of r) f.after.offset) (Some (stop_fault x)) _ (found_first f found ∙ ap (λ w. item_of i found.long w ∷ items (text_of r) f.after.offset) is) refl)

    -- a lexeme that was found
    good_first : (l : Lexeme) → f.what ≡ Ok l → items (text_of r) (offset_of s) ≡ good l ∷ items (text_of r) f.after.offset
    good_first l is = found_first f found ∙ ap (λ w. item_of (offset_of s) found.long w ∷ items (text_of r) f.after.offset) is

    -- before a lexeme that finds no place
    pub halted_at_full : (l : Lexeme) → f.what ≡ Ok l → room p ≡ 0 → Outcome r q (Err (stop_full (record {}))) (waiting p) (offset_of s)
    halted_at_full l is none =
        let xs = good l ∷ items (text_of r) f.after.offset in
        let begins : l.offset ≡ offset_of s = subst (Begins (offset_of s)) is found.begins in
        subst (Outcome r q (Err (stop_full (record {}))) (waiting p)) begins
        (halted xs (Some (stop_full (record {}))) _ (good_first l is) (ap (λ n. reading (length (text_of r)) n xs) none))

    -- one lexeme more, up to where the next item may stand
    pub one_more : (p' : Queue Lexeme) → Put f.what p p' → (s' : Reader) → text_of s' ≡ text_of s → offset_of s' ≡ f.after.offset → Sofar r q s' p' (count + 1)
    one_more p' put s' text there =
        let l = put.lexeme in
        record {
          ls = sofar.ls ++ l ∷ [];
          text = text ∙ sofar.text;
          list = put.list ∙ ap (λ x. x ++ l ∷ []) sofar.list ∙ append_assoc (waiting q) sofar.ls (l ∷ []);
          counted = omega (arith, length_push sofar.ls l, sofar.counted);
          free = omega (arith, length_push sofar.ls l, sofar.free, put.free);
          told = sofar.told ∙ ap (λ x. map good sofar.ls ++ x) (good_first l put.is ∙ ap (λ j. good l ∷ items (text_of r) j) (sym there)) ∙ sym (append_assoc (map good sofar.ls) (good l ∷ []) _)
              ∙ ap (λ x. x ++ items (text_of r) (offset_of s')) (sym (map_push good sofar.ls l));
          few = omega (arith, sofar.few, found.some, found.past);
          places = same_places_on sofar.places put.places;
        }
