use Rattle.std.proofs.Common.{sym, ◌∙◌}
use Rattle.std.proofs.lemmas.Bool.{false≢true}
use Rattle.layout.proofs.Answered.{gives_up_open, gives_up_wrong}
use Rattle.layout.proofs.ticket.Ticket.give_up.Goals as goal

pub returns-then-not-is_open-clause-calls : goal.returns-then-not-is_open-clause-calls
returns-then-not-is_open-clause-calls g c = gives_up_wrong c.args.resolver.now (λ e. false≢true (sym c.if-not-is_open.true ∙ c.is_open.ensures.1 e)) c.fault.ensures

pub returns-clause-calls : goal.returns-clause-calls
returns-clause-calls g c = rw c.close.ensures.parser (gives_up_open c.args.resolver.now (c.is_open.ensures.0 c.if-not-is_open.false) c.close.ensures.standing)
