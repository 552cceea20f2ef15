use Rattle.std.proofs.Common.{◌≡◌, true, ◌++◌, drop, vec_items}
use Rattle.whole.specs.Listing.{spaced}
use Rattle.whole.proofs.shown.add_tokens.Given as goal

abbrev pub invariant-loop-token : goal.invariant-loop-token
invariant-loop-token l = vec_items l.bytes ++ spaced l.text true (drop l.token-index l.rest) ≡ vec_items l.initial.bytes ++ spaced l.text true l.rest
