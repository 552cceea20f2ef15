use Rattle.std.proofs.Common.{[], ◌∷◌, Decides, sym, subst}
use Rattle.grammar.specs.Grammar.{Nullable}
use Rattle.grammar.specs.Sheet.{sheet}
use Rattle.grammar.proofs.SheetSets.{null_exact}
use Rattle.grammar.proofs.is_nullable.Goals as goal

pub returns : goal.returns
returns c = subst (λ b. Decides b (Nullable sheet (c.args.symbol ∷ []))) (sym c.kept_nullable.ensures) (null_exact c.args.symbol)
