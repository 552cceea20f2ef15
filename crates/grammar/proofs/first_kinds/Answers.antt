use Rattle.std.proofs.Common.{[], ◌∷◌, Decides, sym, subst}
use Rattle.grammar.specs.Grammar.{among, IsNonterminal, CanBegin}
use Rattle.grammar.specs.Sheet.{sheet}
use Rattle.grammar.proofs.SheetSets.{begin_exact}
use Rattle.grammar.proofs.first_kinds.Goals as goal

pub returns : goal.returns
returns c = λ kind. subst (λ x. Decides (among kind x) (IsNonterminal c.args.symbol × CanBegin sheet (c.args.symbol ∷ []) kind)) (sym c.kept_beginners.ensures) (begin_exact c.args.symbol kind)
