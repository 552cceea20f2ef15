use Rattle.std.proofs.Common.{Decides, sym, subst}
use Rattle.grammar.specs.Grammar.{among, CanFollow}
use Rattle.grammar.specs.Sheet.{sheet}
use Rattle.grammar.proofs.SheetSets.{follow_exact}
use Rattle.grammar.proofs.follow_kinds.Goals as goal

pub returns : goal.returns
returns c = λ kind. subst (λ x. Decides (among kind x) (CanFollow sheet c.args.symbol kind)) (sym c.kept_followers.ensures) (follow_exact c.args.symbol kind)
