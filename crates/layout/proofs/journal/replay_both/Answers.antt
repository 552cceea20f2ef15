use Rattle.layout.proofs.Lawful.{law}
use Rattle.layout.proofs.Replaying.{replayed_alike}
use Rattle.layout.proofs.journal.replay_both.Goals as goal

pub returns-in_err-one-clause-law : goal.returns-in_err-one-clause-law
returns-in_err-one-clause-law g c = law _ _ _ _

pub returns-in_err-other-clause-law : goal.returns-in_err-other-clause-law
returns-in_err-other-clause-law g c = law _ _ _ _

pub returns-clause-law : goal.returns-clause-law
returns-clause-law g c = law _ _ _ _

pub returns-clause-alike : goal.returns-clause-alike
returns-clause-alike g c same e = replayed_alike _ _ _ _ _ _ _ _ _ _ ((law _ _ _ _).alike same e) c.in_ok-one.ensures c.in_ok-other.ensures
