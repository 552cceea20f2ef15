-- Tokens inserted one after another. Assumes nothing.
use Rattle.std.proofs.Common.{◌≡◌, ℕ, zero, suc, ◌+◌, ◌<◌, ◌≤◌, true, false, not, List, [], ◌∷◌, ◌++◌, map, length, get_or, take, drop, Ok, Err, Result, sym, ap, ◌∙◌, subst, arith}
use Rattle.std.proofs.lemmas.List.{append_assoc, drop_all, drop-map, drop_more, get_or-map, length-map, take_all, take_more}
use Rattle.std.proofs.lemmas.Bool.{and_parts, not-true}
use Rattle.parser.specs.Meaning.{Alike, Meaning, taken}
use Rattle.parser.specs.Runs.{after}
use Rattle.parser.proofs.Meanings.{begins_same, mark_trans, same_sym, same_trans}
use Rattle.parser.proofs.Steps.{after_more}
use Rattle.sheet.specs.declared.fault.Reason.{Reason}
use Rattle.sheet.specs.declared.fault.Reason.TheVariants.{ReachSpent}
use Rattle.layout.specs.Drafts.{AllClose, Inserted, NextAll, Row, Step, drafted, is_separator, no_separator, not_viable, reach_spent, refused, taken_on, tokens_of, too_deep}
use Rattle.layout.specs.Limits.{Goes, done, goes, not_viable as goes_not_viable, reach_spent as goes_reach_spent, too_deep as goes_too_deep}
use Rattle.layout.specs.Rules.{insert_kind}
use Rattle.layout.specs.declared.draft.Draft.{Draft}
use Rattle.layout.specs.declared.rule.Insert.{Insert}

-- one token: the steps that are left begin with it
pub step_goes : (kind depth : ℕ) (u : List ℕ) (from m n : Meaning) (w : List ℕ) (o : Result ℕ Reason) → Alike m (after u from) → Step kind depth m n (Ok tt)
    → Goes from.remainder depth (u ++ kind ∷ []) n.left w o → Goes from.remainder depth u m.left (kind ∷ w) o
step_goes kind depth u from m n w o so (taken_on room begins some next) rest =
    let left : suc n.left ≡ m.left = omega (arith, next.left) in
    subst (λ k. Goes from.remainder depth u k (kind ∷ w) o) left (goes room (begins_same kind so.remainder begins) rest)

pub step_takes : (kind depth : ℕ) (m n : Meaning) → Step kind depth m n (Ok tt) → Alike n (taken kind m)
step_takes kind depth m n (taken_on room begins some next) = next

-- a token that is refused stops them
pub step_stops : (kind depth : ℕ) (u : List ℕ) (from m n : Meaning) (w : List ℕ) (why : Reason) → Alike m (after u from) → Step kind depth m n (Err why) → Goes from.remainder depth u m.left (kind ∷ w) (Err why)
step_stops kind depth u from m n w why so (too_deep no_room same) = goes_too_deep no_room
step_stops kind depth u from m n w why so (not_viable room not same) = goes_not_viable room (λ v. not (begins_same kind (same_sym so.remainder) v))
step_stops kind depth u from m n w why so (reach_spent room begins none same) =
    subst (λ k. Goes from.remainder depth u k (kind ∷ w) (Err ReachSpent)) (sym none) (goes_reach_spent room (begins_same kind so.remainder begins))

-- the first i tokens are taken and drafted
pub record Inserting (ts : List Insert) (depth : ℕ) (d : Draft) (from now : Meaning) (e : Draft) (i : ℕ) : Type 0 where
  pub steps : Alike now (after (take i (map insert_kind ts)) from)
  pub goes : (o : Result ℕ Reason) → Goes from.remainder depth (take i (map insert_kind ts)) now.left (drop i (map insert_kind ts)) o → Goes from.remainder depth [] from.left (map insert_kind ts) o
  pub tokens : tokens_of e ≡ tokens_of d ++ take i (map insert_kind ts)
  pub contexts : (e.depth ≡ d.depth) × (e.opened ≡ d.opened)
  pub order : NextAll e (drop i ts)
  pub row : no_separator ts ≡ true → d.separator ≡ false → Row d e

-- only closes come behind the first
close_next : (e : Draft) (ts : List Insert) → AllClose ts → NextAll e ts
close_next a b c = grind arith

-- a refused token leaves the parser
pub step_leaves : (kind depth : ℕ) (m n : Meaning) (why : Reason) → Step kind depth m n (Err why) → Alike n m
step_leaves a b c d e f = grind arith

-- none of the tokens is a separator
separator_at : (ts : List Insert) (i : ℕ) (t : Insert) → i < length ts → no_separator ts ≡ true → is_separator (get_or ts i t) ≡ false
separator_at [] i t h none = absurd (omega arith)
separator_at (x ∷ ts) zero t h none = not-true (is_separator x) (and_parts (not (is_separator x)) (no_separator ts) none).0
separator_at (x ∷ ts) (suc i) t h none = separator_at ts i t (omega arith) (and_parts (not (is_separator x)) (no_separator ts) none).1

module _ (ts : List Insert) (depth : ℕ) (d : Draft) (from m : Meaning) (e : Draft) (i : ℕ) (t : Insert) (so : Inserting ts depth d from m e i) (h : i < length ts) (is : t ≡ get_or ts i t) where
  -- the token that comes next
  pub next_token : drop i ts ≡ t ∷ drop (i + 1) ts
  next_token = drop_more ts i t h ∙ ap (λ x. x ∷ drop (i + 1) ts) (sym is)

  next_kind : drop i (map insert_kind ts) ≡ insert_kind t ∷ drop (i + 1) (map insert_kind ts)
  next_kind = drop-map insert_kind i ts ∙ ap (map insert_kind) next_token ∙ ap (λ l. insert_kind t ∷ l) (sym (drop-map insert_kind (i + 1) ts))

  kind_at : get_or (map insert_kind ts) i 0 ≡ insert_kind t
  kind_at = get_or-map insert_kind ts i t 0 h ∙ ap insert_kind (sym is)

  long : i < length (map insert_kind ts)
  long = omega (arith, length-map ts insert_kind)

  pub inserting_stops : (n : Meaning) (why : Reason) → Step (insert_kind t) depth m n (Err why) → Inserted ts depth d from n (Err why)
  inserting_stops n why s =
      let left = step_leaves (insert_kind t) depth m n why s in
      refused (so.goes (Err why) (subst (λ w. Goes from.remainder depth (take i (map insert_kind ts)) m.left w (Err why)) (sym next_kind) (step_stops (insert_kind t) depth (take i (map insert_kind ts)) from m n _ why so.steps s)))
      (record { language = same_trans left.language so.steps.language; reach = left.reach ∙ so.steps.reach; mark = mark_trans n.mark m.mark from.mark left.mark so.steps.mark })

  pub inserting_more : (n : Meaning) (e' : Draft) → Step (insert_kind t) depth m n (Ok tt) → tokens_of e' ≡ tokens_of e ++ insert_kind t ∷ [] → (e'.depth ≡ e.depth) × (e'.opened ≡ e.opened)
      → (is_separator t ≡ false → e.separator ≡ false → Row e e') → Inserting ts depth d from n e' (i + 1)
  inserting_more n e' s tokens same row =
      let grown : take (i + 1) (map insert_kind ts) ≡ take i (map insert_kind ts) ++ insert_kind t ∷ [] = take_more (map insert_kind ts) i 0 long ∙ ap (λ k. take i (map insert_kind ts) ++ k ∷ []) kind_at in
      record {
        steps = after_more (map insert_kind ts) i from m n long so.steps (subst (λ k. Alike n (taken k m)) (sym kind_at) (step_takes (insert_kind t) depth m n s));
        goes = λ o g. so.goes o (subst (λ w. Goes from.remainder depth (take i (map insert_kind ts)) m.left w o) (sym next_kind)
            (step_goes (insert_kind t) depth (take i (map insert_kind ts)) from m n _ o so.steps s (subst (λ u. Goes from.remainder depth u n.left (drop (i + 1) (map insert_kind ts)) o) grown g)));
        tokens = tokens ∙ ap (λ l. l ++ insert_kind t ∷ []) so.tokens ∙ append_assoc (tokens_of d) (take i (map insert_kind ts)) (insert_kind t ∷ []) ∙ ap (λ l. tokens_of d ++ l) (sym grown);
        contexts = (same.0 ∙ so.contexts.0, same.1 ∙ so.contexts.1);
        order = close_next e' (drop (i + 1) ts) (subst (NextAll e) next_token so.order).1;
        row = λ none plain.
            let sofar = so.row none plain in
            let more = row (ap is_separator is ∙ separator_at ts i t h none) sofar.0 in
            (more.0, more.1 ∙ sofar.1);
      }

pub inserting_all : (ts : List Insert) (depth : ℕ) (d : Draft) (from m : Meaning) (e : Draft) (i : ℕ) → Inserting ts depth d from m e i → length ts ≤ i → Inserted ts depth d from m (Ok e)
inserting_all ts depth d from m e i so h =
    let ks = map insert_kind ts in
    let long = length-map ts insert_kind in
    let all : take i ks ≡ ks = take_all i ks (omega arith) in
    drafted (so.goes (Ok m.left) (subst (λ w. Goes from.remainder depth (take i ks) m.left w (Ok m.left)) (sym (drop_all i ks (omega arith))) done))
    (subst (λ us. Alike m (after us from)) all so.steps) (so.tokens ∙ ap (λ l. tokens_of d ++ l) all) so.contexts.0 so.contexts.1 so.row
