use Rattle.std.proofs.Common.{◌≡◌, ◌-◌, ◌≤◌, length}
use Rattle.reader.specs.Items.{items}
use Rattle.reader.specs.Reading.{offset_of, text_of}
use Rattle.reader.proofs.reader.Reader.pass_gaps.Given as goal

abbrev pub invariant-loop-self : goal.invariant-loop-self
invariant-loop-self l =
    record {
      text : text_of l.self ≡ text_of l.initial.self;
      same : items (text_of l.initial.self) (offset_of l.initial.self) ≡ items (text_of l.initial.self) (offset_of l.self);
      onward : offset_of l.initial.self ≤ offset_of l.self;
    }

abbrev pub decreases-loop-self : goal.decreases-loop-self
decreases-loop-self l = length (text_of l.self) - offset_of l.self
