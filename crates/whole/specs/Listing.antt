-- What is printed of a sheet. Assumes nothing.
use Rattle.std.specs.Prelude.{ℕ, ◌+◌, Bool, true, false, cond, List, [], ◌∷◌, ◌++◌, length, take, drop, Ok, Err, codes, Result, ◌==◌, nat_le}
use Rattle.std.specs.List.{flat_map}
use Rattle.sheet.specs.Shown.{fault_text}
use Rattle.sheet.specs.declared.fault.Fault.{Fault}
use Rattle.sheet.specs.declared.lexeme.Token.{Token}

-- an inserted token is a {, a } or a ;
abbrev pub sign_text : ℕ → List ℕ
sign_text k = cond (k == 3) (codes "{") (cond (k == 4) (codes "}") (cond (k == 5) (codes ";") []))

-- n bytes of a text from offset i on, or nothing where it has not so many
abbrev pub typed_text : List ℕ → ℕ → ℕ → List ℕ
typed_text text i n = cond (nat_le (i + n) (length text)) (take n (drop i text)) []

-- a token with no bytes of the text was inserted
abbrev pub token_text : List ℕ → Token → List ℕ
token_text text t = cond (t.length == 0) (sign_text t.kind) (typed_text text t.offset t.length)

-- a token, with a space before it if it follows another
abbrev pub one_spaced : List ℕ → Bool → Token → List ℕ
one_spaced text follows t = cond follows (codes " ") [] ++ token_text text t

-- tokens, with one space between
abbrev pub spaced : List ℕ → Bool → List Token → List ℕ
spaced text follows [] = []
spaced text follows (t ∷ ts) = one_spaced text follows t ++ spaced text true ts

-- a fault on its line
abbrev pub fault_line : Fault → List ℕ
fault_line f = fault_text f ++ codes "\n"

-- the tokens of a sheet on one line, or its faults, a line each
abbrev pub listed : List ℕ → Result (List Token) (List Fault) → List ℕ
listed text (Ok ts) = spaced text false ts ++ codes "\n"
listed text (Err fs) = flat_map fault_line fs
