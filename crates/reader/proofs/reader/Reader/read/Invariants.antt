use Rattle.std.proofs.Common.{◌-◌, length}
use Rattle.reader.specs.Reading.{offset_of, text_of}
use Rattle.reader.proofs.Readings.{Sofar}
use Rattle.reader.proofs.reader.Reader.read.Given as goal

abbrev pub invariant-loop-found : goal.invariant-loop-found
invariant-loop-found l = Sofar l.initial.self l.initial.queue l.self l.queue l.count

abbrev pub decreases-loop-found : goal.decreases-loop-found
decreases-loop-found l = length (text_of l.self) - offset_of l.self
