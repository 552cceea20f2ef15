-- Kinds taken one by one.
-- Assumes nothing.
use Rattle.std.proofs.Common.{◌≡◌, ℕ, ◌+◌, ◌<◌, ◌≤◌, Bool, ◌⊎◌, List, [], ◌∷◌, ◌++◌, length, get_or, take, drop, Err, Decides, sym, refl, ap, ◌∙◌, subst, inl, inr, append_assoc, append-nil, arith, take-append-drop}
use Rattle.std.proofs.lemmas.List.{take_more, take_all, drop_more, length_push, length-take-le}
use Rattle.std.proofs.lemmas.Bool.Decides.{Decides-like}
use Rattle.parser.specs.Sets.{Begins}
use Rattle.parser.specs.Meaning.{Meaning, Alike, Takes, started, taken}
use Rattle.parser.specs.declared.Refused.{Refused}
use Rattle.parser.specs.declared.Refused.TheVariants.{NotViable, ReachSpent}
use Rattle.parser.specs.Runs.{after, BeginsWith, WithinReach}
use Rattle.parser.proofs.Meanings.{same_refl, same_trans, begins_same, mark_refl, alike_trans, alike_taken}

pub after_none : (m : Meaning) → Alike m (after [] m)
after_none m =
    record { language = same_refl _; reach = refl; remainder = same_refl _; left = omega arith; mark = mark_refl m.mark }

taken_after : (kinds : List ℕ) (kind : ℕ) (m : Meaning) → Alike (taken kind (after kinds m)) (after (kinds ++ kind ∷ []) m)
taken_after kinds kind m =
    record {
      language = same_refl _;
      reach = refl;
      remainder = λ w. let e = append_assoc kinds (kind ∷ []) w in (subst m.remainder (sym e), subst m.remainder e);
      left = omega (arith, length_push kinds kind);
      mark = mark_refl m.mark;
    }

-- one more kind of the list is taken
pub after_more : (kinds : List ℕ) (i : ℕ) (from m n : Meaning) → i < length kinds → Alike m (after (take i kinds) from) → Alike n (taken (get_or kinds i 0) m) → Alike n (after (take (i + 1) kinds) from)
after_more kinds i «from» m n h so step =
    let k = get_or kinds i 0 in
    subst (λ us. Alike n (after us «from»)) (sym (take_more kinds i 0 h))
    (alike_trans n (taken k m) (after (take i kinds ++ k ∷ []) «from») step
    (alike_trans (taken k m) (taken k (after (take i kinds) «from»)) (after (take i kinds ++ k ∷ []) «from») (alike_taken k m (after (take i kinds) «from») so) (taken_after (take i kinds) k «from»)))

-- where the list begins one of the remainder, its next kind is viable
pub next_viable : (kinds : List ℕ) (i : ℕ) (from m : Meaning) → i < length kinds → Alike m (after (take i kinds) from) → BeginsWith from.remainder kinds → Begins m.remainder (get_or kinds i 0)
next_viable kinds i «from» m h so b =
    let k = get_or kinds i 0 in
    let rest = drop (i + 1) kinds ++ b.0 in
    let cut : take i kinds ++ (k ∷ drop (i + 1) kinds) ≡ kinds = ap (λ l. take i kinds ++ l) (sym (drop_more kinds i 0 h)) ∙ take-append-drop i kinds in
    let whole : kinds ++ b.0 ≡ take i kinds ++ (k ∷ rest) = ap (λ l. l ++ b.0) (sym cut) ∙ append_assoc (take i kinds) (k ∷ drop (i + 1) kinds) b.0 in
    (rest, (so.remainder (k ∷ rest)).1 (subst «from».remainder whole b.1))

-- and some are left, if there were as many as the list has
pub next_left : (kinds : List ℕ) (i : ℕ) (from m : Meaning) → i < length kinds → Alike m (after (take i kinds) from) → length kinds ≤ from.left → 0 < m.left
next_left kinds i «from» m h so enough =
    let e = so.left in
    let l : length (take i kinds) ≡ i = length-take-le i kinds (omega arith) in
    omega arith

-- a refused kind leaves the meaning
pub refusal_steps : (kind : ℕ) (from m n : Meaning) (why : Refused) → Takes kind m (Err why) n → Alike m from → Alike n from
refusal_steps kind «from» m n NotViable t so = alike_trans n m «from» t.1 so
refusal_steps kind «from» m n ReachSpent t so = alike_trans n m «from» t.2 so

-- and says why
pub refusal_stops : (kind : ℕ) (m n : Meaning) (why : Refused) → Takes kind m (Err why) n → (Begins n.remainder kind → ⊥) ⊎ (n.left ≡ 0)
refusal_stops kind m n NotViable t = inl (λ b. t.0 (begins_same kind t.1.remainder b))
refusal_stops kind m n ReachSpent t = inr (t.2.left ∙ t.1)

-- a viable kind, with some left, is not refused
pub refusal_none : (kind : ℕ) (m n : Meaning) (why : Refused) → Takes kind m (Err why) n → Begins m.remainder kind → 0 < m.left → ⊥
refusal_none kind m n NotViable t b h = t.0 b
refusal_none kind m n ReachSpent t b h = omega (arith, t.1)

-- a list is a sentence within reach exactly where, from a start, it is taken whole and the remainder then has the empty list
pub accepted : (kinds : List ℕ) (r : ℕ) (b : Bool) (from fresh last : Meaning) → Alike fresh (started from) → r ≤ fresh.left → Alike last (after (take r kinds) fresh) → (BeginsWith fresh.remainder kinds → length kinds ≤ fresh.left → r ≡ length kinds) → Decides b ((r ≡ length kinds) × last.remainder []) → Decides b (WithinReach from kinds)
accepted kinds r b «from» fresh last begun paid so whole told = Decides-like b there here told
  where
    all : r ≡ length kinds → take r kinds ++ [] ≡ kinds
    all e = append-nil (take r kinds) ∙ take_all r kinds (omega arith)

    there : (r ≡ length kinds) × last.remainder [] → WithinReach «from» kinds
    there h =
        let e = h.0 in
        let l = begun.left in
        ((begun.remainder kinds).0 (subst fresh.remainder (all e) ((so.remainder []).0 h.1)), omega arith)

    here : WithinReach «from» kinds → (r ≡ length kinds) × last.remainder []
    here h =
        let l = begun.left in
        let n = h.1 in
        let inside = (begun.remainder kinds).1 h.0 in
        let e = whole ([], subst fresh.remainder (sym (append-nil kinds)) inside) (omega arith) in
        (e, (so.remainder []).1 (subst fresh.remainder (sym (all e)) inside))

-- a start after a start and a run of kinds is as the first start was
pub afresh : (kinds : List ℕ) (from fresh last end : Meaning) → Alike fresh (started from) → Alike last (after kinds fresh) → Alike end (started last) → Alike end (started from)
afresh kinds «from» fresh last end begun so again =
    record {
      language = same_trans again.language (same_trans so.language begun.language);
      reach = again.reach ∙ so.reach ∙ begun.reach;
      remainder = same_trans again.remainder (same_trans so.language begun.language);
      left = again.left ∙ so.reach ∙ begun.reach;
      mark = again.mark;
    }
