-- Context-free grammars over the symbols 1 to 15, the kinds, and 16 onward, the nonterminals, with 16 the start;
-- what is derived, what can begin and what can follow.
-- Assumes nothing.
use Rattle.std.specs.Prelude.{ℕ, suc, ◌≤◌, Bool, false, ◌||◌, List, [], ◌∷◌, ◌++◌, ◌==◌, slice_index_or}

-- a production: a left symbol, and the right symbols that may stand in its place
pub record Production : Type 0 where
  pub left : ℕ
  pub right : List ℕ

-- a grammar is its list of productions
abbrev pub Grammar : Type 0
Grammar = List Production

-- the production of this number, counted from 1
pub data Numbered : Grammar → ℕ → Production → Type 0 where
  first : {p : Production} {G : Grammar} → Numbered (p ∷ G) 1 p
  later : {n : ℕ} {p q : Production} {G : Grammar} → Numbered G n p → Numbered (q ∷ G) (suc n) p

-- the production of this number, or one of no symbols for a number that none has
abbrev pub nth : Grammar → ℕ → Production
nth G n = let none : Production = record { left = 0; right = [] } in slice_index_or (none ∷ G) n none

-- from a list of symbols another is derived: from the left, each symbol is kept or replaced by the right side of a production of its own
pub data Derives (G : Grammar) : List ℕ → List ℕ → Type 0 where
  done : Derives G [] []
  keep : {s : ℕ} {x w : List ℕ} → Derives G x w → Derives G (s ∷ x) (s ∷ w)
  replace : {n : ℕ} {p : Production} {x w : List ℕ} → Numbered G n p → Derives G (p.right ++ x) w → Derives G (p.left ∷ x) w

-- the start symbol
abbrev pub start : ℕ
start = 16

-- the symbol is a kind
abbrev pub IsKind : ℕ → Type 0
IsKind s = (1 ≤ s) × (s ≤ 15)

-- the symbol is a nonterminal
abbrev pub IsNonterminal : ℕ → Type 0
IsNonterminal s = 16 ≤ s

-- every symbol of the list is a kind
abbrev pub Kinds : List ℕ → Type 0
Kinds [] = Unit {0}
Kinds (s ∷ w) = IsKind s × Kinds w

-- the lists of kinds derived from a list of symbols
abbrev pub SentencesFrom : Grammar → List ℕ → List ℕ → Type 0
SentencesFrom G x w = Derives G x w × Kinds w

-- the language: the lists of kinds derived from the start symbol
abbrev pub LanguageOf : Grammar → List ℕ → Type 0
LanguageOf G = SentencesFrom G (start ∷ [])

-- the list derives the empty list
abbrev pub Nullable : Grammar → List ℕ → Type 0
Nullable G x = Derives G x []

-- the kind t can begin a list derived from x
abbrev pub CanBegin : Grammar → List ℕ → ℕ → Type 0
CanBegin G x t = (w : List ℕ) × IsKind t × Derives G x (t ∷ w)

-- the kind t can follow the nonterminal a: from the start symbol a list .. a t .. is derived
abbrev pub CanFollow : Grammar → ℕ → ℕ → Type 0
CanFollow G a t = (u v : List ℕ) × IsNonterminal a × IsKind t × Derives G (start ∷ []) (u ++ a ∷ t ∷ v)

-- the number is in the list
abbrev pub among : ℕ → List ℕ → Bool
among t [] = false
among t (s ∷ x) = t == s || among t x
