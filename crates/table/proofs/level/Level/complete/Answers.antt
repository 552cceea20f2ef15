use Rattle.std.proofs.Common.{rules}
use Rattle.std.proofs.lemmas.Bool.Decides.{same_from_decides}
use Rattle.std.proofs.lemmas.Iterator.Search.{all_from_yields_List}
use Rattle.std.proofs.lemmas.Iterator.{YieldsList-from_slice}
use Rattle.grammar.specs.Grammar.{among}
use Rattle.grammar.specs.Sets.{nullables}
use Rattle.grammar.proofs.SheetSets.{null_exact}
use Rattle.table.proofs.Levels.{empties_so}
use Rattle.table.proofs.level.Level.complete.Goals as goal

pub returns : goal.returns
returns c =
    let all = all_from_yields_List (λ s. among s nullables) _ _ c.all.result c.all.ensures.ran (YieldsList-from_slice c.deref.result.now cc) (λ x b q k. let d = null_exact x.now in (search rules, same_from_decides b (among x.now nullables) (search rules) d)) in
    rw (all, ← c.deref.ensures.0) (empties_so c.deref.result.now)
