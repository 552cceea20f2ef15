-- A run that is written down call by call. Assumes nothing.
use Rattle.std.proofs.Common.{◌≡◌, ℕ, List, [], ◌∷◌, ◌++◌, sym, refl, ap, ◌∙◌}
use Rattle.std.proofs.lemmas.List.{append_assoc, append-nil, map-append}
use Rattle.parser.specs.Meaning.{Meaning, started}
use Rattle.parser.specs.Sets.{Lists, Same}
use Rattle.sheet.specs.declared.lexeme.Token.{Token}
use Rattle.layout.specs.Calling.{over}
use Rattle.layout.specs.Journaled.{Noted, Replayed, answers, written_in}
use Rattle.layout.specs.Law.{AlikeLaw}
use Rattle.layout.specs.Moves.{Took}
use Rattle.layout.specs.Service.{Does, Event, Run, State, more, new, none}
use Rattle.layout.specs.declared.call.Answer.{Answer}
use Rattle.layout.specs.declared.call.Call.{Call}
use Rattle.layout.proofs.Tied.{Tied, tied_new, tied_step}

-- a run and one call more
run_on : {G : Lists} {reach : ℕ} {s t t' : State} (e : Event) (es : List Event) → Run G reach s es t → Does G reach t e.call e.answer e.tokens t' → Run G reach s (es ++ e ∷ []) t'
run_on e [] none d = more d none
run_on e (x ∷ es) (more y r) d = more y (run_on e es r d)

written_on : (es : List Event) (e : Event) → written_in (es ++ e ∷ []) ≡ written_in es ++ e.tokens
written_on [] e = append-nil e.tokens
written_on (x ∷ es) e = ap (λ ts. x.tokens ++ ts) (written_on es e) ∙ sym (append_assoc x.tokens (written_in es) e.tokens)

-- the calls so far are a run of the service, and the resolver stands at its end
pub record Replaying (G : Lists) (reach first : ℕ) (cs : List Call) (xs : List Answer) (ts : List Token) (m : Meaning) (z : State) : Type 0 where
  pub so_far : Replayed G reach first cs xs ts
  pub tied : Tied G reach so_far.last m z

pub replaying_none : (G : Lists) (reach first : ℕ) (m n : Meaning) (z : State) (xs : List Answer) (ts : List Token) → Same m.language G → m.reach ≡ reach → z ≡ new first → Took [] (started m) n → xs ≡ [] → ts ≡ [] → Replaying G reach first [] xs ts n z
replaying_none G reach first m n z xs ts same is state took no-answers no-tokens =
    record { so_far = record { events = []; last = new first; run = none; calls = refl; answers = sym no-answers; tokens = sym no-tokens }; tied = tied_new G reach first m n z same is state took }

pub replaying_more : (G : Lists) (reach first : ℕ) (cs : List Call) (xs xs' : List Answer) (ts ts' : List Token) (m n : Meaning) (z z' : State) (c : Call) → Replaying G reach first cs xs ts m z → Noted (over m z) c xs xs' ts ts' (over n z') → Replaying G reach first (cs ++ c ∷ []) xs' ts' n z'
replaying_more G reach first cs xs xs' ts ts' m n z z' c so x =
    let r = so.so_far in
    let e : Event = record { call = c; answer = x.answer; tokens = x.tokens } in
    let step = tied_step G reach r.last m n z z' so.tied c x.answer x.tokens x.calls in
    record {
      so_far = record {
        events = r.events ++ e ∷ [];
        last = step.to;
        run = run_on e r.events r.run step.does;
        calls = map-append (λ (e : Event). e.call) r.events (e ∷ []) ∙ ap (λ l. l ++ c ∷ []) r.calls;
        answers = map-append (λ (e : Event). e.answer) r.events (e ∷ []) ∙ ap (λ l. l ++ x.answer ∷ []) r.answers ∙ sym x.answered;
        tokens = written_on r.events e ∙ ap (λ l. l ++ x.tokens) r.tokens ∙ sym x.wrote;
      };
      tied = step.tied;
    }

-- two runs of the same calls that are alike have the same answers and tokens
pub replayed_alike : (G H : Lists) (reach reach' first : ℕ) (cs : List Call) (xs ys : List Answer) (ts us : List Token) → AlikeLaw G reach H reach' → Replayed G reach first cs xs ts → Replayed H reach' first cs ys us → (xs ≡ ys) × (ts ≡ us)
replayed_alike G H reach reach' first cs xs ys ts us alike r q =
    let same = alike first r.events q.events r.last q.last r.run q.run (r.calls ∙ sym q.calls) in
    (sym r.answers ∙ ap answers same ∙ q.answers, sym r.tokens ∙ ap written_in same ∙ q.tokens)
