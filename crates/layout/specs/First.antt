-- The rule that applies, by the innermost context alone. Assumes nothing.
use Rattle.std.specs.Prelude.{ℕ, cond, List, [], ◌∷◌, Some, None, Option, ◌==◌, nat_lt}
use Rattle.layout.specs.declared.rule.Rule.{Rule}
use Rattle.layout.specs.declared.rule.Rule.TheVariants.{Separate, CloseShallower, DropMark, OpenBlock, EmptyBlock, CloseTyped, StrayClose, CloseAtEnd, End, BlockLeftOpen}

-- the innermost context, if any
abbrev pub innermost_of : List ℕ → Option ℕ
innermost_of [] = None
innermost_of (k ∷ ks) = Some k

-- at the mark of a line
abbrev pub line_rule : ℕ → Option ℕ → Rule
line_rule n None = DropMark
line_rule n (Some k) = cond (k == n) Separate (cond (nat_lt n k) CloseShallower DropMark)

-- at the mark of a block
abbrev pub block_rule : ℕ → Option ℕ → Rule
block_rule n None = cond (nat_lt 0 n) OpenBlock EmptyBlock
block_rule n (Some k) = cond (nat_lt k n) OpenBlock EmptyBlock

-- at a typed }
abbrev pub close_rule : Option ℕ → Rule
close_rule None = StrayClose
close_rule (Some k) = cond (k == 0) CloseTyped StrayClose

-- at the end
abbrev pub end_rule : Option ℕ → Rule
end_rule None = End
end_rule (Some k) = cond (k == 0) BlockLeftOpen CloseAtEnd
