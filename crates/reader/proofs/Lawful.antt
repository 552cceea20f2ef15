-- Every text keeps the laws. Assumes nothing.
use Rattle.std.proofs.Common.{ℕ, List, arith}
use Rattle.reader.specs.Laws.{Laws}
use Rattle.reader.proofs.Chains.{between, chain, ordered}
use Rattle.reader.proofs.Columns.{counted_at}
use Rattle.reader.proofs.Has.{has, only}
use Rattle.reader.proofs.Pieces.{pieces}

pub lawful : (t : List ℕ) → Laws t
lawful t =
    let whole = chain t 0 (omega arith) in
    record {
      has = has t whole;
      only = λ xs h. only t h;
      ordered = ordered t whole;
      between = λ j h. between t whole j (omega arith) h;
      columns = counted_at t;
      pieces = pieces t 0 (omega arith);
    }
