-- A run over a language is one over any language with the same lists. Assumes nothing.
use Rattle.std.proofs.Common.{◌≡◌, ℕ, List, [], Result, subst, Option}
use Rattle.parser.specs.Sets.{Lists, Same}
use Rattle.sheet.specs.declared.fault.Reason.{Reason}
use Rattle.sheet.specs.declared.lexeme.Lexeme.{Lexeme}
use Rattle.sheet.specs.declared.lexeme.Place.{Place}
use Rattle.sheet.specs.declared.lexeme.Token.{Token}
use Rattle.layout.specs.Journaled.{Replayed}
use Rattle.layout.specs.Limits.{Laid, Runs}
use Rattle.layout.specs.Service.{Does, Event, FeedFails, FinishFails, Run, State, begin_open, begin_spent, begins, feed_fails, feeds, finish_fails, finishes, give_up_fails, gives_up, more, none}
use Rattle.layout.specs.declared.call.Answer.{Answer}
use Rattle.layout.specs.declared.call.Call.{Call}
use Rattle.layout.specs.declared.rule.Coming.{Coming}
use Rattle.layout.specs.declared.rule.Mark.{Mark}
use Rattle.layout.proofs.Shifts.{runs_on}

module _ (G H : Lists) (same : Same G H) (reach : ℕ) where
  rules : {u : List ℕ} {left : ℕ} {ks : List ℕ} {m : Option Mark} {c : Coming} {o : Result Laid Reason} → Runs G u left ks m c o → Runs H u left ks m c o
  rules r = runs_on G H [] same r

  feed_same : {s : State} {t : ℕ} {l : Lexeme} {free : ℕ} {why : Reason} → FeedFails G reach s t l free why → FeedFails H reach s t l free why
  feed_same (FeedFails.wrong_ticket n) = FeedFails.wrong_ticket n
  feed_same (FeedFails.bad_lexeme e b) = FeedFails.bad_lexeme e b
  feed_same (FeedFails.stopped e b r) = FeedFails.stopped e b (rules r)
  feed_same (FeedFails.no_room e b r f) = FeedFails.no_room e b (rules r) f

  finish_same : {s : State} {t : ℕ} {p : Place} {free : ℕ} {why : Reason} → FinishFails G reach s t p free why → FinishFails H reach s t p free why
  finish_same (FinishFails.wrong_ticket n) = FinishFails.wrong_ticket n
  finish_same (FinishFails.stopped e r) = FinishFails.stopped e (rules r)
  finish_same (FinishFails.not_complete e r n) = FinishFails.not_complete e (rules r) (λ g. n ((same _).1 g))
  finish_same (FinishFails.no_room e r g f) = FinishFails.no_room e (rules r) ((same _).0 g) f

  pub does_same : {s t : State} {c : Call} {a : Answer} {ts : List Token} → Does G reach s c a ts t → Does H reach s c a ts t
  does_same (begins e n) = begins e n
  does_same (begin_open e) = begin_open e
  does_same (begin_spent e n) = begin_spent e n
  does_same (feeds e b r f) = feeds e b (rules r) f
  does_same (feed_fails w) = feed_fails (feed_same w)
  does_same (finishes e r g f) = finishes e (rules r) ((same _).0 g) f
  does_same (finish_fails w) = finish_fails (finish_same w)
  does_same (gives_up e) = gives_up e
  does_same (give_up_fails n) = give_up_fails n

  run_same : {s t : State} {es : List Event} → Run G reach s es t → Run H reach s es t
  run_same none = none
  run_same (more d r) = more (does_same d) (run_same r)

  pub replayed_same : {reach' first : ℕ} {cs : List Call} {xs : List Answer} {ts : List Token} → reach ≡ reach' → Replayed G reach first cs xs ts → Replayed H reach' first cs xs ts
  replayed_same {first = first} {cs = cs} {xs = xs} {ts = ts} e r =
      subst (λ (n : ℕ). Replayed H n first cs xs ts) e (record { events = r.events; last = r.last; run = run_same r.run; calls = r.calls; answers = r.answers; tokens = r.tokens })
