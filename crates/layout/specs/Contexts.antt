-- The contexts of the open blocks as a list, with the innermost first. Assumes nothing.
use Rattle.std.specs.Prelude.{ℕ, zero, suc, ◌+◌, ◌<◌, Bool, true, cond, ◌&&◌, ◌||◌, List, [], ◌∷◌, length, Some, None, Option, ◌==◌, nat_lt, slice_index}

-- the first d of some contexts, which stand with the outermost first
abbrev pub stack : List ℕ → ℕ → List ℕ
stack cs zero = []
stack cs (suc d) = slice_index cs d ∷ stack cs d

-- all of them
abbrev pub stacked : List ℕ → List ℕ
stacked cs = stack cs (length cs)

-- a context may stand above others: an implicit one exceeds the one beneath it
abbrev pub above : ℕ → List ℕ → Bool
above k [] = true
above k (j ∷ ks) = k == 0 || nat_lt j k

-- each implicit context exceeds the one beneath it
abbrev pub rises : List ℕ → Bool
rises [] = true
rises (k ∷ ks) = above k ks && rises ks

-- without a sheet no block is open
abbrev pub idle : Option ℕ → List ℕ → Bool
idle None ks = length ks == 0
idle (Some n) ks = true

-- how many contexts are of implicit blocks
abbrev pub implicit_among : List ℕ → ℕ
implicit_among [] = 0
implicit_among (k ∷ ks) = cond (k == 0) 0 1 + implicit_among ks

-- the innermost block is implicit
abbrev pub Implicit : List ℕ → Type 0
Implicit [] = ⊥
Implicit (k ∷ ks) = 0 < k
