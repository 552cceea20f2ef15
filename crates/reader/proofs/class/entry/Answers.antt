-- antt computes the rule at all 256 bytes and compares the list with the table; the lemma carries it to each byte.
use Rattle.std.proofs.Common.{zero-add, arith}
use Rattle.std.proofs.lemmas.List.FromFn.{get_or-map-range_with_len}
use Rattle.reader.specs.Classes.{class}
use Rattle.reader.proofs.class.entry.Goals as goal

pub returns : goal.returns
unfolding class
returns c = get_or-map-range_with_len class 0 256 c.args.index c.args.index _ (omega arith) (zero-add c.args.index)
