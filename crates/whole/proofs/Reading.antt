-- A text that is read in pieces and fed. Assumes nothing.
use Rattle.std.proofs.Common.{◌≡◌, ℕ, zero, suc, ◌≤◌, List, [], ◌∷◌, ◌++◌, map, length, Some, None, Ok, Err, Option, Result, sym, refl, ap, ◌∙◌, subst, arith}
use Rattle.std.proofs.lemmas.List.{append_assoc, append-nil}
use Rattle.parser.specs.Meaning.{Meaning}
use Rattle.sheet.specs.declared.fault.Fault.{Fault}
use Rattle.sheet.specs.declared.lexeme.Lexeme.{Lexeme}
use Rattle.sheet.specs.declared.lexeme.Token.{Token}
use Rattle.reader.specs.Items.{Item, bad, good, items}
use Rattle.reader.specs.Laws.{tell, tell_stop, tells}
use Rattle.reader.specs.Reading.{Reading, answer, answer_of, reading}
use Rattle.reader.specs.declared.stop.Stop.{Stop}
use Rattle.reader.specs.declared.stop.Stop.TheVariants.{Fault as at_fault, Full as at_full}
use Rattle.reader.proofs.Chains.{chain}
use Rattle.reader.proofs.Finds.{ends}
use Rattle.reader.proofs.Pieces.{piece}
use Rattle.layout.specs.Calling.{anew, over}
use Rattle.layout.specs.Service.{State}
use Rattle.layout.proofs.Sheets.{took_none}
use Rattle.whole.specs.Feeding.{Keeps, Within}
use Rattle.whole.specs.Keeping.{Keeping, stop_faults}
use Rattle.whole.specs.Whole.{none, told, unread}
use Rattle.whole.proofs.Feeds.{fed_none, keeps_none, keeps_on, within_none, within_on}

-- an answer tells how a reading stopped
pub ok_stops : (n k : ℕ) (o : Option Stop) → Ok k ≡ answer_of n o → o ≡ None
ok_stops n k None e = refl
ok_stops n k (Some s) e = absurd (let z : ◌≡◌ {A = ℕ} 0 1 = cc in omega arith)

pub err_stops : (n : ℕ) (s : Stop) (o : Option Stop) → Err s ≡ answer_of n o → o ≡ Some s
err_stops n s None e = absurd (let z : ◌≡◌ {A = ℕ} 0 1 = cc in omega arith)
err_stops n s (Some x) e = cc

-- a reading that does not stop early comes to the end
pub comes_to_end : (end free : ℕ) (xs : List Item) → (reading end free xs).stop ≡ None → (reading end free xs).next ≡ end
comes_to_end end free [] e = refl
comes_to_end end free (bad i n f ∷ xs) e = absurd (let z : ◌≡◌ {A = ℕ} 0 1 = cc in omega arith)
comes_to_end end zero (good l ∷ xs) e = absurd (let z : ◌≡◌ {A = ℕ} 0 1 = cc in omega arith)
comes_to_end end (suc free) (good l ∷ xs) e = comes_to_end end free xs e

-- what one reading does from an offset
abbrev pub read_from : List ℕ → ℕ → ℕ → Reading
read_from text i free = reading (length text) free (items text i)

pub ends_there : (text : List ℕ) (i free j : ℕ) → Ok j ≡ answer (read_from text i free) → (read_from text i free).next ≡ length text
ends_there text i free j is = comes_to_end (length text) free (items text i) (ok_stops _ j (read_from text i free).stop is)

-- a text was read up to an offset, and what it told so far was fed
pub record Readings {K : Type 0} (kept : K → List Token → List Fault → K → Type 0) (m : Meaning) (s : State) (t : ℕ) (text : List ℕ) (i : ℕ) (a b : K) (n : Meaning) (s' : State) : Type 0 where
  pub seen : List (Result Lexeme Fault)
  pub whole : seen ++ map tell (items text i) ≡ told text
  pub inside : i ≤ length text
  pub within : Within (over m s) (over n s')
  pub keeps : Keeps kept (over m s) t seen a b (over n s')

module _ {K : Type 0} {kept : K → List Token → List Fault → K → Type 0} (laws : Keeping kept) where
  pub readings_none : (m : Meaning) (s : State) (t : ℕ) (text : List ℕ) (i : ℕ) (a : K) → i ≡ 0 → Readings kept m (anew s) t text i a a m (anew s)
  readings_none m s t text i a e = record { seen = []; whole = ap (λ k. map tell (items text k)) e; inside = omega arith; within = within_none m (anew s); keeps = keeps_none laws m s t a }

  module _ {m n o : Meaning} {s s' s'' : State} {t : ℕ} {text : List ℕ} {i : ℕ} {a b c : K} (x : Readings kept m s t text i a b n s') (free : ℕ) (w : Within (over n s') (over o s''))
      (k : Keeps kept (over n s') t (map Ok (read_from text i free).put) b c (over o s'')) where
    -- its lexemes were fed
    fed_lexemes : (read_from text i free).stop ≡ None → Keeps kept (over m s) t (x.seen ++ tells (read_from text i free)) a c (over o s'')
    fed_lexemes e =
        subst (λ (ys : List (Result Lexeme Fault)). Keeps kept (over m s) t (x.seen ++ ys) a c (over o s''))
        (sym (ap (λ (z : Option Stop). map Ok (read_from text i free).put ++ tell_stop z) e ∙ append-nil (map Ok (read_from text i free).put))) (keeps_on laws x.keeps k)

    told_by : (x.seen ++ tells (read_from text i free)) ++ map tell (items text (read_from text i free).next) ≡ told text
    told_by = append_assoc x.seen (tells (read_from text i free)) (map tell (items text (read_from text i free).next)) ∙ ap (λ ys. x.seen ++ ys) (piece text (chain text i x.inside) free).whole ∙ x.whole

    onward : (next : ℕ) → next ≡ (read_from text i free).next → {n₂ : Meaning} {s₂ : State} {d : K} → Within (over n s') (over n₂ s₂) → Keeps kept (over m s) t (x.seen ++ tells (read_from text i free)) a d (over n₂ s₂) → Readings kept m s t text next a d n₂ s₂
    onward next e v y =
        record {
          seen = x.seen ++ tells (read_from text i free);
          whole = ap (λ j. (x.seen ++ tells (read_from text i free)) ++ map tell (items text j)) e ∙ told_by;
          inside = subst (λ j. j ≤ length text) (sym e) (piece text (chain text i x.inside) free).within;
          within = within_on x.within v;
          keeps = y;
        }

    -- at the end all was told
    pub read_end : (j : ℕ) → Ok j ≡ answer (read_from text i free) → Keeps kept (over m s) t (told text) a c (over o s'')
    read_end j is =
        let e = ok_stops _ j (read_from text i free).stop is in
        let end = comes_to_end (length text) free (items text i) e in
        subst (λ (ys : List (Result Lexeme Fault)). Keeps kept (over m s) t ys a c (over o s''))
        (sym (append-nil (x.seen ++ tells (read_from text i free))) ∙ ap (λ ys. (x.seen ++ tells (read_from text i free)) ++ ys) (sym (ap (λ j. map tell (items text j)) end ∙ ap (map tell) (ends text (length text) refl).none)) ∙ told_by) (fed_lexemes e)

    -- a reading that stopped early
    pub read_on : (stop : Stop) (next : ℕ) {d : K} → Err stop ≡ answer (read_from text i free) → next ≡ (read_from text i free).next → Keeps kept (over o s'') t (tell_stop (Some stop)) c d (over o s'') → Readings kept m s t text next a d o s''
    read_on stop next {d} is e y =
        let why = err_stops _ stop (read_from text i free).stop is in
        onward next e w (subst (λ (ys : List (Result Lexeme Fault)). Keeps kept (over m s) t (x.seen ++ ys) a d (over o s''))
        (sym (ap (λ (z : Option Stop). map Ok (read_from text i free).put ++ tell_stop z) why)) (subst (λ (ys : List (Result Lexeme Fault)). Keeps kept (over m s) t ys a d (over o s'')) (append_assoc x.seen (map Ok (read_from text i free).put) (tell_stop (Some stop))) (keeps_on laws (keeps_on laws x.keeps k) y)))

  -- what a reading stopped at is kept
  pub keeps_stop : (m : Meaning) (s : State) (t : ℕ) (stop : Stop) (a b : K) → kept a [] (stop_faults stop) b → Keeps kept (over m (anew s)) t (tell_stop (Some stop)) a b (over m (anew s))
  keeps_stop m s t (at_fault f) a b e = record { tokens = []; faults = f ∷ []; fed = record { left = anew s; feeding = unread none; state = refl; parser = took_none m }; keeper = e }
  keeps_stop m s t (at_full x) a b e = record { tokens = []; faults = []; fed = fed_none m s t; keeper = e }
