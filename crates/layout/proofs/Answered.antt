-- The calls of a resolver are those of a service. Assumes nothing.
use Rattle.std.proofs.Common.{◌≡◌, ℕ, ◌+◌, ◌^◌, ◌<◌, ◌≤◌, true, false, List, [], ◌++◌, length, is_some, Some, None, Ok, Err, Option, sym, refl, ap, ◌∙◌, subst, arith}
use Rattle.std.proofs.lemmas.List.{append-nil}
use Rattle.parser.specs.Meaning.{Alike, Meaning, started}
use Rattle.parser.proofs.Meanings.{same_trans}
use Rattle.sheet.specs.declared.fault.Fault.{Fault}
use Rattle.sheet.specs.declared.fault.Reason.{Reason}
use Rattle.sheet.specs.declared.fault.Reason.TheVariants.{NumbersSpent, SheetOpen, WrongTicket}
use Rattle.sheet.specs.declared.lexeme.Lexeme.{Lexeme}
use Rattle.sheet.specs.declared.lexeme.Place.{Place}
use Rattle.sheet.specs.declared.lexeme.Token.{Token}
use Rattle.layout.specs.Calling.{Calls, Fed, Finished, next_of, over, shut, standing, Writes}
use Rattle.layout.specs.Drafts.{drafted_tokens}
use Rattle.layout.specs.Moves.{Took}
use Rattle.layout.specs.Service.{Does, State, begin_open, begin_spent, begins, fault, feed_fails, feeds, finish_fails, finishes, give_up_fails, gives_up}
use Rattle.layout.specs.declared.call.Answer.{Answer}
use Rattle.layout.specs.declared.call.Answer.TheVariants.{Ticket as ticket, Count as count, Closed as closed, Refused as refused}
use Rattle.layout.specs.declared.call.Call.TheVariants.{Begin as begin, Feed as feed, Finish as finish, GiveUp as give_up}
use Rattle.layout.specs.declared.draft.Draft.{Draft}
use Rattle.layout.specs.declared.resolver.Resolver.{Resolver}
use Rattle.layout.specs.declared.rule.Before.TheVariants.{Nothing}
use Rattle.layout.specs.declared.rule.Coming.TheVariants.{Lexeme as lexeme, End as ending}
use Rattle.layout.proofs.SameRuns.{does_same}
use Rattle.layout.proofs.Sheets.{took_none}

some_number : (o : Option ℕ) → is_some o ≡ true → (n : ℕ) × (o ≡ Some n)
some_number a b = grind arith

no_number : (o : Option ℕ) → is_some o ≡ false → o ≡ None
no_number a b = grind arith

-- tokens that are none
none_behind : (q : List Token) → q ≡ q ++ []
none_behind q = sym (append-nil q)

-- a lexeme is fed where the parser and the sheet are as before
pub feeds_from : {m n last : Meaning} {s z s' : State} {t : ℕ} {l : Lexeme} {free : ℕ} {a : Answer} {q q' : List Token} → Took [] m n → z ≡ s → Writes (over n z) (feed t l free) a q q' (over last s') → Writes (over m s) (feed t l free) a q q' (over last s')
feeds_from {m} {n} {z = z} {t = t} {l} {free} {a} same at x =
    let c = x.calls in
    let all : n.left ≡ m.left = omega (arith, same.left) in
    record {
      tokens = x.tokens;
      list = x.list;
      calls = record {
        left = c.left;
        does = subst (λ (y : State). Does m.remainder m.left y (feed t l free) a x.tokens c.left) at
            (subst (λ (k : ℕ). Does m.remainder k z (feed t l free) a x.tokens c.left) all (does_same n.remainder m.remainder same.remainder n.left c.does));
        state = c.state;
        parser = record {
          language = same_trans c.parser.language same.language;
          reach = c.parser.reach ∙ same.reach;
          remainder = same_trans c.parser.remainder (λ w. same.remainder (c.left.written ++ w));
          left = omega (arith, c.parser.left, same.left);
        };
      };
    }

module _ {P : Type 0} (r : Resolver P) {m : Meaning} where
  pub begins_open : {f : Fault} → is_some r.sheet ≡ true → f ≡ fault (standing r) 0 0 SheetOpen → Calls (over m (standing r)) begin (refused f) [] (over m (standing r))
  begins_open e is = rw is (record { left = standing r; does = begin_open (some_number r.sheet e).1; state = refl; parser = took_none m })

  pub gives_up_wrong : {f : Fault} {t : ℕ} → (r.sheet ≡ Some t → ⊥) → f ≡ fault (standing r) 0 0 WrongTicket → Calls (over m (standing r)) (give_up t) (refused f) [] (over m (standing r))
  gives_up_wrong n is = rw is (record { left = standing r; does = give_up_fails n; state = refl; parser = took_none m })

  pub gives_up_open : {s' : State} {t : ℕ} → r.sheet ≡ Some t → s' ≡ shut (standing r) → Calls (over m (standing r)) (give_up t) closed [] (over m s')
  gives_up_open e is = record { left = shut (standing r); does = gives_up e; state = is; parser = took_none m }

  pub begins_spent : {f : Fault} → is_some r.sheet ≡ false → r.next ≡ None → f ≡ fault (standing r) 0 0 NumbersSpent → Calls (over m (standing r)) begin (refused f) [] (over m (standing r))
  begins_spent e none is = rw is (record { left = standing r; does = begin_spent {s = standing r} (no_number r.sheet e) (omega (arith, ap next_of none)); state = refl; parser = took_none m })

  pub begins_new : {n : Meaning} {s' : State} {number : ℕ} → is_some r.sheet ≡ false → r.next ≡ Some number → number < 2 ^ 64 → s' ≡ record { sheet = Some number; next = number + 1; contexts = []; before = Nothing; written = [] } → Alike n (started m) → Calls (over m (standing r)) begin (ticket number) [] (over n s')
  begins_new {n} {s'} {number} e next low is so =
      let is-next : next_of r.next ≡ number = ap next_of next in
      subst (λ k. Calls (over m (standing r)) begin (ticket k) [] (over n s')) is-next
      (record {
        left = record { sheet = Some (next_of r.next); next = next_of r.next + 1; contexts = []; before = Nothing; written = [] };
        does = begins (no_number r.sheet e) (omega arith);
        state = is ∙ ap (λ k. record { sheet = Some k; next = k + 1; contexts = []; before = Nothing; written = [] }) (sym is-next);
        parser = record { language = so.language; reach = so.reach; remainder = so.remainder; left = omega (arith, so.left) };
      })

module _ {P : Type 0} (r : Resolver P) {m n : Meaning} {s' : State} {t free : ℕ} where
  -- all that is accepted has a place
  pub fed_room : {l : Lexeme} {d : Draft} → Fed (over m (standing r)) t l free (over n s') (Ok d) → length (drafted_tokens (lexeme l) d) ≤ free
  fed_room (Fed.accepted x e b run enough tokens state took) = omega (arith, ap length tokens)

  pub finished_room : {p : Place} {d : Draft} → Finished (over m (standing r)) t p free (over n s') (Ok d) → length (drafted_tokens (ending p) d) ≤ free
  finished_room (Finished.accepted x e run whole enough tokens state took) = omega (arith, ap length tokens)

  -- a lexeme was accepted
  pub fed_writes : {l : Lexeme} {d : Draft} {k : ℕ} {q q' : List Token} → Fed (over m (standing r)) t l free (over n s') (Ok d) → q' ≡ q ++ drafted_tokens (lexeme l) d → k ≡ length (drafted_tokens (lexeme l) d) → Writes (over m (standing r)) (feed t l free) (count k) q q' (over n s')
  fed_writes {l} {q = q} {q'} (Fed.accepted x e b run enough tokens state took) list is =
      subst (λ j. Writes (over m (standing r)) (feed t l free) (count j) q q' (over n s')) (ap length tokens ∙ sym is)
      (record { tokens = x.tokens; list = list ∙ ap (λ ts. q ++ ts) (sym tokens); calls = record { left = _; does = feeds e b run enough; state = state; parser = took } })

  -- or not
  pub fed_denied : {l : Lexeme} {why : Reason} {f : Fault} {q : List Token} → Fed (over m (standing r)) t l free (over n s') (Err why) → f ≡ fault s' l.line l.column why → Writes (over m (standing r)) (feed t l free) (refused f) q q (over n s')
  fed_denied {l} {why} {q = q} (Fed.denied fails state took) is =
      subst (λ (x : Fault). Writes (over m (standing r)) (feed t l free) (refused x) q q (over n s')) (sym (is ∙ ap (λ (z : State). fault z l.line l.column why) state))
      (record { tokens = []; list = none_behind q; calls = record { left = standing r; does = feed_fails fails; state = state; parser = took } })

  -- the sheet was finished
  pub finished_writes : {p : Place} {d : Draft} {k : ℕ} {q q' : List Token} → Finished (over m (standing r)) t p free (over n s') (Ok d) → q' ≡ q ++ drafted_tokens (ending p) d → k ≡ length (drafted_tokens (ending p) d) → Writes (over m (standing r)) (finish t p free) (count k) q q' (over n s')
  finished_writes {p} {q = q} {q'} (Finished.accepted x e run whole enough tokens state took) list is =
      subst (λ j. Writes (over m (standing r)) (finish t p free) (count j) q q' (over n s')) (ap length tokens ∙ sym is)
      (record { tokens = x.tokens; list = list ∙ ap (λ ts. q ++ ts) (sym tokens); calls = record { left = _; does = finishes e run whole enough; state = state; parser = took } })

  -- or not
  pub finished_denied : {p : Place} {why : Reason} {f : Fault} {q : List Token} → Finished (over m (standing r)) t p free (over n s') (Err why) → f ≡ fault s' p.line p.column why → Writes (over m (standing r)) (finish t p free) (refused f) q q (over n s')
  finished_denied {p} {why} {q = q} (Finished.denied fails state took) is =
      subst (λ (x : Fault). Writes (over m (standing r)) (finish t p free) (refused x) q q (over n s')) (sym (is ∙ ap (λ (z : State). fault z p.line p.column why) state))
      (record { tokens = []; list = none_behind q; calls = record { left = standing r; does = finish_fails fails; state = state; parser = took } })
