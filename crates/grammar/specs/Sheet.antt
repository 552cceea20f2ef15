-- The grammar of sheets: blocks in braces, items in them, expressions in these.
-- Assumes nothing.
use Rattle.std.specs.Prelude.{ℕ, List, [], ◌∷◌}
use Rattle.grammar.specs.Grammar.{Production, Grammar}

infix 40 ◌⟶◌
-- a production as it is read: its left symbol, and what may stand there
abbrev pub ◌⟶◌ : ℕ → List ℕ → Production
a ⟶ x = record { left = a; right = x }

-- the kinds by name
abbrev pub name : ℕ
name = 1

abbrev pub number : ℕ
number = 2

abbrev pub open_brace : ℕ
open_brace = 3

abbrev pub close_brace : ℕ
close_brace = 4

abbrev pub semicolon : ℕ
semicolon = 5

abbrev pub open_paren : ℕ
open_paren = 6

abbrev pub close_paren : ℕ
close_paren = 7

abbrev pub equals : ℕ
equals = 8

abbrev pub comma : ℕ
comma = 9

abbrev pub op : ℕ
op = 10

abbrev pub let' : ℕ
let' = 11

abbrev pub in' : ℕ
in' = 12

abbrev pub where' : ℕ
where' = 13

abbrev pub of' : ℕ
of' = 14

abbrev pub do' : ℕ
do' = 15

-- the nonterminals by name
abbrev pub Block : ℕ
Block = 16

abbrev pub Items : ℕ
Items = 17

abbrev pub More : ℕ
More = 18

abbrev pub Item : ℕ
Item = 19

abbrev pub Body : ℕ
Body = 20

abbrev pub Where : ℕ
Where = 21

abbrev pub Expr : ℕ
Expr = 22

abbrev pub Tail : ℕ
Tail = 23

abbrev pub Term : ℕ
Term = 24

abbrev pub Comma : ℕ
Comma = 25

-- the productions, numbered from 1 in this order
abbrev pub sheet : Grammar
sheet =
    (Block ⟶ (open_brace ∷ Items ∷ close_brace ∷ [])) ∷
    (Items ⟶ (Item ∷ More ∷ [])) ∷
    (More ⟶ (semicolon ∷ Items ∷ [])) ∷
    (More ⟶ ([])) ∷
    (Item ⟶ (name ∷ Body ∷ [])) ∷
    (Item ⟶ ([])) ∷
    (Body ⟶ (of' ∷ Block ∷ [])) ∷
    (Body ⟶ (equals ∷ Expr ∷ Where ∷ [])) ∷
    (Where ⟶ (where' ∷ Block ∷ [])) ∷
    (Where ⟶ ([])) ∷
    (Expr ⟶ (let' ∷ Block ∷ in' ∷ Expr ∷ [])) ∷
    (Expr ⟶ (Term ∷ Tail ∷ [])) ∷
    (Tail ⟶ (op ∷ Expr ∷ [])) ∷
    (Tail ⟶ ([])) ∷
    (Term ⟶ (name ∷ [])) ∷
    (Term ⟶ (number ∷ [])) ∷
    (Term ⟶ (do' ∷ Block ∷ [])) ∷
    (Term ⟶ (open_paren ∷ Expr ∷ Comma ∷ close_paren ∷ [])) ∷
    (Comma ⟶ (comma ∷ Expr ∷ Comma ∷ [])) ∷
    (Comma ⟶ ([])) ∷
    []
