-- Paths of kinds, one after another.
use Rattle.std.proofs.Common.{◌++◌, List, ℕ, Bool}
use Rattle.layout.specs.Shape.{Path, here, opens, closes, other}

-- one path after another
pub path_on : {d e f : ℕ} {b c a : Bool} {ks ls : List ℕ} → Path d b ks e c → Path e c ls f a → Path d b (ks ++ ls) f a
path_on here q = q
path_on (opens h p) q = opens h (path_on p q)
path_on (closes p) q = closes (path_on p q)
path_on (other x y l h p) q = other x y l h (path_on p q)
