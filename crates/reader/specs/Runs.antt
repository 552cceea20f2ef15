-- The runs of bytes that are lexemes: names, numbers and signs, each as long as it can be. Assumes nothing.
use Rattle.std.specs.Prelude.{ℕ, zero, suc, ◌+◌, Bool, cond, List, [], ◌∷◌, take, drop, codes, ◌==◌}
use Rattle.std.specs.Str.{bytes_eq}
use Rattle.sheet.specs.declared.lexeme.Kind.{Kind}
use Rattle.sheet.specs.declared.lexeme.Kind.TheVariants.{Name, Number, Let, In, Where, Of, Do}
use Rattle.reader.specs.Classes.{class, in_name, in_digits}
use Rattle.reader.specs.declared.class.Class.{Class}
use Rattle.reader.specs.declared.class.Class.TheVariants.{Blank, LineEnd, Letter, Digit, Apostrophe, Point, Sign, Unreadable}

-- how many bytes at the front are of the classes that pass a test
abbrev pub fronts : (Class → Bool) → List ℕ → ℕ
fronts p [] = 0
fronts p (b ∷ bs) = cond (p (class b)) (suc (fronts p bs)) 0

-- a point and n digits, which belong to a number only if there is a digit
abbrev pub point_and : ℕ → ℕ
point_and zero = 0
point_and (suc n) = suc (suc n)

-- how many bytes at the front are a point and digits
abbrev pub fraction : List ℕ → ℕ
fraction [] = 0
fraction (b ∷ bs) = cond (b == 46) (point_and (fronts in_digits bs)) 0

-- how many bytes at the front are a number: digits, or digits, a point and digits
abbrev pub number_length : List ℕ → ℕ
number_length bs = fronts in_digits bs + fraction (drop (fronts in_digits bs) bs)

-- the kind of a name: five names are keywords
abbrev pub word_kind : List ℕ → Kind
word_kind w =
    cond (bytes_eq w (codes "let")) Let (cond (bytes_eq w (codes "in")) In (cond (bytes_eq w (codes "where")) Where
    (cond (bytes_eq w (codes "of")) Of (cond (bytes_eq w (codes "do")) Do Name))))

-- what stands at the front of some bytes: a gap between lexemes, a byte that begins no lexeme, or a run of a kind and a length
pub data Front : Type 0 where
  gap : Front
  stray : Front
  run : Kind → ℕ → Front

-- by the class of the first byte
abbrev pub front_by : Class → List ℕ → Front
front_by Blank bs = gap
front_by LineEnd bs = gap
front_by Letter bs = run (word_kind (take (fronts in_name bs) bs)) (fronts in_name bs)
front_by Digit bs = run Number (number_length bs)
front_by Apostrophe bs = stray
front_by Point bs = stray
front_by (Sign k) bs = run k 1
front_by Unreadable bs = stray

-- what stands at the front
abbrev pub front : List ℕ → Front
front [] = gap
front (b ∷ bs) = front_by (class b) (b ∷ bs)
