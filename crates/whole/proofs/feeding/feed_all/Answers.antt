use Rattle.std.proofs.Common.{◌≡◌, ℕ, List, [], ◌++◌, map, length, Ok, Err, Result, ap, ◌∙◌, subst, rules}
use Rattle.parser.specs.Meaning.{Meaning}
use Rattle.queue.specs.Waiting.{room, waiting}
use Rattle.queue.specs.declared.ring.Queue.{Queue}
use Rattle.sheet.specs.declared.lexeme.Lexeme.{Lexeme}
use Rattle.reader.specs.Places.{column_at, line_at}
use Rattle.reader.specs.Reading.{answer, offset_of, reads, text_of}
use Rattle.reader.specs.declared.reader.Reader.{Reader}
use Rattle.reader.specs.declared.stop.Stop.{Stop}
use Rattle.layout.specs.Calling.{over, standing}
use Rattle.whole.specs.Feeding.{Keeps}
use Rattle.whole.specs.Keeping.{Gains}
use Rattle.whole.specs.Whole.{readable}
use Rattle.whole.proofs.Gains.{gains_keeping}
use Rattle.whole.proofs.Reading.{ends_there, keeps_stop, read_end, read_from, read_on, readings_none}
use Rattle.whole.proofs.feeding.feed_all.Given as given
use Rattle.whole.proofs.feeding.feed_all.Goals as goal
use Rattle.parser.proofs.Bound.{means}

-- the parser's meaning
abbrev of : (g : given.Over) → g.row.P.Denot → Meaning
of g p = means g.P.Stepping g.P.Probing p

pub loop-reader-init : goal.loop-reader-init
loop-reader-init g c =
    let r = c.args.resolver.now in
    (c.new-lexemes.ensures.list, search rules, c.open-reader.ensures.text, readings_none (gains_keeping g.met.K.Keeper.laws) (of g r.parser) (standing r) c.args.ticket.now.number (readable c.args.text.now) (offset_of c.open-reader.result) c.args.progress.now c.open-reader.ensures.start)

-- the lexemes that were read are those that were fed
module _ (r : Reader) (q q' : Queue Lexeme) (text : List ℕ) (same : text_of r ≡ text) (empty : waiting q ≡ []) (list : waiting q' ≡ waiting q ++ (reads r q).put) where
  put_is : waiting q' ≡ (read_from text (offset_of r) (room q)).put
  put_is = list ∙ ap (λ (l : List Lexeme). l ++ (reads r q).put) empty ∙ ap (λ (t : List ℕ). (read_from t (offset_of r) (room q)).put) same

  answer_is : (a : Result ℕ Stop) → a ≡ answer (reads r q) → a ≡ answer (read_from text (offset_of r) (room q))
  answer_is a e = e ∙ ap (λ (t : List ℕ). answer (read_from t (offset_of r) (room q))) same

  next_is : (n : ℕ) → n ≡ (reads r q).next → n ≡ (read_from text (offset_of r) (room q)).next
  next_is n e = e ∙ ap (λ (t : List ℕ). (read_from t (offset_of r) (room q)).next) same

pub returns-in-Ok-clause-keeps : goal.returns-in-Ok-clause-keeps
returns-in-Ok-clause-keeps g c =
    let i = c.loop-reader.invariant in
    let r = c.loop-reader.reader in
    let q = c.loop-reader.lexemes in
    let text = readable c.args.text.now in
    let e = c.in-Ok.ensures in
    let a = answer_is r q c.read-answer.new.queue text i.2 i.0 e.list (Ok c.in-Ok.field-0) e.answer in
    let k = subst (λ (l : List Lexeme). Keeps (Gains g.K.Keeper.kept) (over (of g c.loop-reader.resolver.parser) (standing c.loop-reader.resolver)) c.args.ticket.now.number (map Ok l) c.loop-reader.progress c.feed_waiting.new.progress (over (of g c.feed_waiting.new.resolver.parser) (standing c.feed_waiting.new.resolver)))
    (put_is r q c.read-answer.new.queue text i.2 i.0 c.read-answer.ensures.list) c.in_ok-feed_waiting.ensures.keeps in
    read_end (gains_keeping g.met.K.Keeper.laws) i.3 (room q) c.in_ok-feed_waiting.ensures.within k c.in-Ok.field-0 a

pub returns-in-Ok-clause-place : goal.returns-in-Ok-clause-place
returns-in-Ok-clause-place g c =
    let i = c.loop-reader.invariant in
    let r = c.loop-reader.reader in
    let q = c.loop-reader.lexemes in
    let text = readable c.args.text.now in
    let e = c.in-Ok.ensures in
    let a = answer_is r q c.read-answer.new.queue text i.2 i.0 e.list (Ok c.in-Ok.field-0) e.answer in
    let end : offset_of c.read-answer.new.self ≡ length text = next_is r q c.read-answer.new.queue text i.2 i.0 e.list (offset_of c.read-answer.new.self) e.next ∙ ends_there text (offset_of r) (room q) c.in-Ok.field-0 a in
    c.place.ensures ∙ ap (λ (t : List ℕ). record { line = line_at t (offset_of c.read-answer.new.self); column = column_at t (offset_of c.read-answer.new.self) }) (e.text ∙ i.2) ∙ ap (λ (j : ℕ). record { line = line_at text j; column = column_at text j }) end

pub loop-reader-preserved : goal.loop-reader-preserved
loop-reader-preserved g c =
    let i = c.loop-reader.invariant in
    let r = c.loop-reader.reader in
    let q = c.loop-reader.lexemes in
    let text = readable c.args.text.now in
    let f = c.in_ok-feed_waiting.ensures in
    let e = c.in-Err.ensures in
    let z = c.feed_waiting.new.resolver in
    let a = answer_is r q c.read-answer.new.queue text i.2 i.0 e.list (Err c.in-Err.stop) e.answer in
    let k = subst (λ (l : List Lexeme). Keeps (Gains g.K.Keeper.kept) (over (of g c.loop-reader.resolver.parser) (standing c.loop-reader.resolver)) c.args.ticket.now.number (map Ok l) c.loop-reader.progress c.feed_waiting.new.progress (over (of g c.feed_waiting.new.resolver.parser) (standing c.feed_waiting.new.resolver)))
    (put_is r q c.read-answer.new.queue text i.2 i.0 c.read-answer.ensures.list) f.keeps in
    let stop = keeps_stop (gains_keeping g.met.K.Keeper.laws) (of g z.parser) (standing z) c.args.ticket.now.number c.in-Err.stop c.feed_waiting.new.progress c.stop.new.self c.in_ok-stop-in-Err.ensures in (
      f.taken,
      f.size ∙ e.places.size ∙ i.1,
      e.text ∙ i.2,
      read_on (gains_keeping g.met.K.Keeper.laws) i.3 (room q) f.within k c.in-Err.stop (offset_of c.read-answer.new.self) a (next_is r q c.read-answer.new.queue text i.2 i.0 e.list (offset_of c.read-answer.new.self) e.next) stop,
    )
