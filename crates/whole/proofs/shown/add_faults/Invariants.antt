use Rattle.std.proofs.Common.{◌≡◌, ◌++◌, drop, vec_items}
use Rattle.std.specs.List.{flat_map}
use Rattle.whole.specs.Listing.{fault_line}
use Rattle.whole.proofs.shown.add_faults.Given as goal

abbrev pub invariant-loop-fault : goal.invariant-loop-fault
invariant-loop-fault l = vec_items l.bytes ++ flat_map fault_line (drop l.fault-index l.faults) ≡ vec_items l.initial.bytes ++ flat_map fault_line l.faults
