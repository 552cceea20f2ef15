-- What a reading adds to the number. Assumes nothing.
use Rattle.std.proofs.Common.{◌≡◌, ℕ, ◌+◌, ◌%◌, ◌^◌, ◌<◌, List, [], ◌∷◌, ◌++◌, map, length, Some, None, Ok, Err, sum_by, Option, sym, refl, ap, ◌∙◌, add_assoc, zero-add, arith}
use native.Mathlib.Nat.{mod-add-mod}
use Rattle.std.proofs.lemmas.List.Sums.{sum_by-append, sum_by-cons}
use Rattle.queue.specs.Waiting.{room, waiting}
use Rattle.queue.specs.declared.ring.Queue.{Queue}
use Rattle.sheet.specs.declared.lexeme.Lexeme.{Lexeme}
use Rattle.reader.specs.Items.{items}
use Rattle.reader.specs.Laws.{tell, tell_stop, tells}
use Rattle.reader.specs.Reading.{answer, offset_of, reads, text_of}
use Rattle.reader.specs.declared.reader.Reader.{Reader}
use Rattle.reader.specs.declared.stop.Stop.{Stop}
use Rattle.reader.specs.declared.stop.Stop.TheVariants.{Fault as at_fault, Full as at_full}
use Rattle.reader.proofs.Chains.{chain}
use Rattle.reader.proofs.Finds.{ends}
use Rattle.reader.proofs.Pieces.{piece}
use Rattle.whole.proofs.Reading.{comes_to_end, err_stops, ok_stops}
use Rattle.speed.specs.Sums.{stop_weight, weight}

-- what lexemes add, and what is left of a text from an offset on
abbrev pub of_lexemes : List Lexeme → ℕ
of_lexemes ls = sum_by (λ l. weight (Ok l)) ls

told_lexemes : (ls : List Lexeme) → of_lexemes ls ≡ sum_by weight (map Ok ls)
told_lexemes [] = refl
told_lexemes (l ∷ ls) = sum_by-cons (λ x. weight (Ok x)) l ls ∙ ap (λ n. weight (Ok l) + n) (told_lexemes ls) ∙ sym (sum_by-cons weight (Ok l) (map Ok ls))

abbrev pub of_rest : List ℕ → ℕ → ℕ
of_rest t i = sum_by weight (map tell (items t i))

abbrev pub of_stop : Option Stop → ℕ
of_stop s = sum_by weight (tell_stop s)

-- a reading divides what is left into what it puts, what it stops at, and what is left then
divides : (r : Reader) (q : Queue Lexeme) → of_lexemes (reads r q).put + of_stop (reads r q).stop + of_rest (text_of r) (reads r q).next ≡ of_rest (text_of r) (offset_of r)
divides r q =
    let t = text_of r in
    let whole = (piece t (chain t (offset_of r) r.within) (room q)).whole in
    ap (λ n. n + of_stop (reads r q).stop + of_rest t (reads r q).next) (told_lexemes (reads r q).put)
    ∙ sym (ap (λ n. n + of_rest t (reads r q).next) (sum_by-append weight (map Ok (reads r q).put) (tell_stop (reads r q).stop)))
    ∙ sym (sum_by-append weight (tells (reads r q)) (map tell (items t (reads r q).next))) ∙ ap (sum_by weight) whole

-- a number that is all that was to be added
pub settled : (sum rest x : ℕ) → rest ≡ 0 → sum < 2 ^ 64 → (sum + rest) % 2 ^ 64 ≡ x → sum ≡ x
settled sum rest x none fits e = omega arith

one_stop : (x : Stop) → stop_weight x ≡ of_stop (Some x)
one_stop (at_fault f) = sym (zero-add (weight (Err f)))
one_stop (at_full f) = refl

module _ (r : Reader) (q : Queue Lexeme) (empty : waiting q ≡ []) (ls : List Lexeme) (put : ls ≡ waiting q ++ (reads r q).put) (before sum : ℕ) (added : sum ≡ (before + of_lexemes ls) % 2 ^ 64) where
  -- after a reading whose lexemes are added
  after : (s : Option Stop) → (reads r q).stop ≡ s → (sum + (of_stop s + of_rest (text_of r) (reads r q).next)) % 2 ^ 64 ≡ (before + of_rest (text_of r) (offset_of r)) % 2 ^ 64
  after s e =
      let rest = of_rest (text_of r) (reads r q).next in
      let lexemes : of_lexemes ls ≡ of_lexemes (reads r q).put = ap of_lexemes (put ∙ ap (λ ys. ys ++ (reads r q).put) empty) in
      ap (λ n. (n + (of_stop s + rest)) % 2 ^ 64) added ∙ mod-add-mod (before + of_lexemes ls) (2 ^ 64) (of_stop s + rest)
      ∙ ap (λ n. n % 2 ^ 64) (add_assoc before (of_lexemes ls) (of_stop s + rest)
      ∙ ap (λ n. before + n) (ap (λ n. n + (of_stop s + rest)) lexemes ∙ ap (λ x. of_lexemes (reads r q).put + (of_stop x + rest)) (sym e) ∙ sym (add_assoc (of_lexemes (reads r q).put) _ _) ∙ divides r q))

  -- at the end of the text all is added
  pub at_end : (m : ℕ) → Ok m ≡ answer (reads r q) → sum ≡ (before + of_rest (text_of r) (offset_of r)) % 2 ^ 64
  at_end m e =
      let t = text_of r in
      let none = ok_stops (length (reads r q).put) m (reads r q).stop e in
      let end = comes_to_end (length t) (room q) (items t (offset_of r)) none in
      let nothing : of_rest t (reads r q).next ≡ 0 = ap (λ xs. sum_by weight (map tell xs)) (ap (items t) end ∙ (ends t (length t) refl).none) in
      settled sum (0 + of_rest t (reads r q).next) _ (omega arith) (omega arith) (after None none)

  -- where it stops before, that is still to be added
  pub at_stop : (x : Stop) (w : ℕ) → w ≡ stop_weight x → Err x ≡ answer (reads r q) → ((sum + w) % 2 ^ 64 + of_rest (text_of r) (reads r q).next) % 2 ^ 64 ≡ (before + of_rest (text_of r) (offset_of r)) % 2 ^ 64
  at_stop x w is e =
      let rest = of_rest (text_of r) (reads r q).next in
      mod-add-mod (sum + w) (2 ^ 64) rest ∙ ap (λ n. n % 2 ^ 64) (add_assoc sum w rest ∙ ap (λ n. sum + (n + rest)) (is ∙ one_stop x))
      ∙ after (Some x) (err_stops (length (reads r q).put) x (reads r q).stop e)
