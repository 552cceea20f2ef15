use Rattle.std.proofs.Common.{sym, subst, arith}
use Rattle.table.specs.Entry.{Entry}
use Rattle.table.proofs.Rule.{entry_at, entry_none}
use Rattle.table.proofs.entries.entry.Goals as goal

pub returns-then-not-matches : goal.returns-then-not-matches
returns-then-not-matches c = entry_none c.args.symbol c.args.kind (λ a b d e. omega arith)

pub returns : goal.returns
returns c =
    subst (Entry c.args.symbol c.args.kind) (sym c.cell.ensures)
    (entry_at c.args.symbol c.args.kind (omega arith) (omega arith) (omega arith) (omega arith))
