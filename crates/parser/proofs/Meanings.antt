-- To be alike is an equivalence, and each operation keeps it.
-- Assumes nothing.
use Rattle.std.proofs.Common.{ℕ, ◌-◌, ◌∷◌, sym, refl, ap, ◌∙◌}
use Rattle.parser.specs.Sets.{Lists, Begins, Same}
use Rattle.parser.specs.Meaning.{Mark, absent, holds, Meaning, SameMark, Alike, started, taken, marked, kept, restored, returned}

pub same_refl : (A : Lists) → Same A A
same_refl A w = (λ x. x, λ x. x)

pub same_sym : {A B : Lists} → Same A B → Same B A
same_sym h w = ((h w).1, (h w).0)

pub same_trans : {A B C : Lists} → Same A B → Same B C → Same A C
same_trans h k w = (λ x. (k w).0 ((h w).0 x), λ x. (h w).1 ((k w).1 x))

-- the same sets begin with the same kinds
pub begins_same : {A B : Lists} (kind : ℕ) → Same A B → Begins A kind → Begins B kind
begins_same kind h b = (b.0, (h (kind ∷ b.0)).0 b.1)

pub mark_refl : (m : Mark) → SameMark m m
mark_refl absent = tt
mark_refl (holds A n) = (same_refl A, refl)

pub mark_sym : (m n : Mark) → SameMark m n → SameMark n m
mark_sym absent absent h = tt
mark_sym absent (holds B n) h = h
mark_sym (holds A m) absent h = h
mark_sym (holds A m) (holds B n) h = (same_sym h.0, sym h.1)

pub mark_trans : (l m n : Mark) → SameMark l m → SameMark m n → SameMark l n
mark_trans absent absent n h k = k
mark_trans absent (holds B j) n h k = absurd h
mark_trans (holds A i) absent n h k = absurd h
mark_trans (holds A i) (holds B j) absent h k = k
mark_trans (holds A i) (holds B j) (holds C l) h k = (same_trans h.0 k.0, h.1 ∙ k.1)

pub alike_refl : (m : Meaning) → Alike m m
alike_refl m =
    record { language = same_refl _; reach = refl; remainder = same_refl _; left = refl; mark = mark_refl m.mark }

pub alike_sym : (m n : Meaning) → Alike m n → Alike n m
alike_sym m n h =
    record { language = same_sym h.language; reach = sym h.reach; remainder = same_sym h.remainder; left = sym h.left; mark = mark_sym m.mark n.mark h.mark }

pub alike_trans : (l m n : Meaning) → Alike l m → Alike m n → Alike l n
alike_trans l m n h k =
    record { language = same_trans h.language k.language; reach = h.reach ∙ k.reach; remainder = same_trans h.remainder k.remainder; left = h.left ∙ k.left; mark = mark_trans l.mark m.mark n.mark h.mark k.mark }

pub alike_started : (m n : Meaning) → Alike m n → Alike (started m) (started n)
alike_started m n h =
    record { language = h.language; reach = h.reach; remainder = h.language; left = h.reach; mark = tt }

pub alike_taken : (kind : ℕ) (m n : Meaning) → Alike m n → Alike (taken kind m) (taken kind n)
alike_taken kind m n h =
    record { language = h.language; reach = h.reach; remainder = λ w. h.remainder (kind ∷ w); left = ap (λ k. k - 1) h.left; mark = h.mark }

pub alike_marked : (m n : Meaning) → Alike m n → Alike (marked m) (marked n)
alike_marked m n h =
    record { language = h.language; reach = h.reach; remainder = h.remainder; left = h.left; mark = (h.remainder, h.left) }

pub alike_kept : (m n : Meaning) → Alike m n → Alike (kept m) (kept n)
alike_kept m n h =
    record { language = h.language; reach = h.reach; remainder = h.remainder; left = h.left; mark = tt }

alike_restored : (p q : Mark) (m n : Meaning) → SameMark p q → Alike m n → Alike (restored p m) (restored q n)
alike_restored absent absent m n s h = h
alike_restored absent (holds B j) m n s h = absurd s
alike_restored (holds A i) absent m n s h = absurd s
alike_restored (holds A i) (holds B j) m n s h =
    record { language = h.language; reach = h.reach; remainder = s.0; left = s.1; mark = tt }

pub alike_returned : (m n : Meaning) → Alike m n → Alike (returned m) (returned n)
alike_returned m n h = alike_restored m.mark n.mark m n h.mark h
