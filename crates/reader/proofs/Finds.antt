-- What stands at a cursor is what the text has there. Assumes nothing.
use Rattle.std.proofs.Common.{◌≡◌, ℕ, ◌+◌, ◌<◌, ◌≤◌, false, ltb, List, [], ◌∷◌, ◌++◌, length, drop, Result, sym, refl, ap, ◌∙◌, subst, arith}
use Rattle.std.proofs.lemmas.List.{drop_all, drop_more, get_or-drop}
use Rattle.std.proofs.lemmas.Bool.{cond_both}
use Rattle.sheet.specs.declared.fault.Fault.{Fault}
use Rattle.sheet.specs.declared.lexeme.Kind.{Kind}
use Rattle.sheet.specs.declared.lexeme.Lexeme.{Lexeme}
use Rattle.reader.specs.Classes.{class, is_gap}
use Rattle.reader.specs.Cursors.{NoGap, Placed}
use Rattle.reader.specs.Found.{Begins, Ends, Finds}
use Rattle.reader.specs.Items.{extent, here, item_of, items, items_from, judged, spot}
use Rattle.reader.specs.Places.{byte}
use Rattle.reader.specs.Runs.{Front, front}
use Rattle.reader.specs.declared.cursor.Cursor.{Cursor}
use Rattle.reader.proofs.Places.{placed_run}
use Rattle.reader.proofs.Solid.{SolidFront, front_solid}
use Rattle.reader.proofs.Steps.{items_front}

-- nothing is left at the end
pub ends : (t : List ℕ) (i : ℕ) → i ≡ length t → Ends t i
ends t i e = record { end = e; none = ap (items_from t 0 i) (drop_all i t (omega arith)) }

-- a cursor is the spot of its offset
pub placed_is : (t : List ℕ) (c : Cursor) → Placed t c → c ≡ spot t c.offset
placed_is t c placed i = record { offset = c.offset; line = placed.line i; column = placed.column i; first = placed.first i }

-- none of the bytes that an item takes is a blank or a line end
pub solid : (t : List ℕ) (i : ℕ) → i < length t → is_gap (class (byte t i)) ≡ false → SolidFront (drop i t) (extent (front (drop i t)))
solid t i h black = let P : List ℕ → Type 0 = λ bs. SolidFront bs (extent (front bs)) in subst P (sym (drop_more t i 0 h)) (front_solid (byte t i) (drop (i + 1) t) black)

-- a run that is no fault begins where it stands
pub judged_begins : (c : Cursor) (k : Kind) (n : ℕ) → Begins c.offset (judged c k n)
judged_begins c k n = cond_both (ltb 64 n) _ _ (Begins c.offset) (λ e. tt) (λ e. cond_both (ltb 4095 c.column) _ _ (Begins c.offset) (λ e. tt) (λ e. refl))

-- an item, as the code finds it: f stands at the front, and what it found is the item of that
pub finds : (t : List ℕ) (c : Cursor) → Placed t c → NoGap t c.offset → c.offset < length t → (f : Front) → front (drop c.offset t) ≡ f → c.offset + extent f ≤ length t
    → (what : Result Lexeme Fault) → item_of c.offset (extent f) what ∷ [] ≡ here t c.offset f → Begins c.offset what
    → (d : Cursor) → d ≡ record { offset = c.offset + extent f; line = c.line; column = c.column + extent f; first = false }
    → Finds t c.offset (record { what = what; after = d })
finds t c placed no_gap inside f is within what told begins d after =
    let i = c.offset in
    let s : SolidFront (drop i t) (extent f) = subst (λ (g : Front). SolidFront (drop i t) (extent g)) is (solid t i inside (no_gap inside)) in
    let on = ap (λ (x : Cursor). x.offset) after in
    record {
      long = extent f;
      some = s.some;
      begins = begins;
      placed = placed_run t c placed (extent f) s.some within (λ k h. ap (λ b. is_gap (class b)) (sym (get_or-drop i t k 0)) ∙ s.black k h) d after;
      past = on;
      told = items_front t i f inside is s.some ∙ ap (λ l. l ++ items t (i + extent f)) (sym told) ∙ ap (λ j. item_of i (extent f) what ∷ items t j) (sym on);
    }
