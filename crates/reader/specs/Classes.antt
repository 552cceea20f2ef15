-- The class of each byte. Assumes nothing.
use Rattle.std.specs.Prelude.{ℕ, Bool, true, false, cond, ◌&&◌, ◌||◌, ◌==◌, nat_le}
use Rattle.sheet.specs.declared.lexeme.Kind.TheVariants.{OpenBrace, CloseBrace, Semicolon, OpenParen, CloseParen, Equals, Comma, Operator}
use Rattle.reader.specs.declared.class.Class.{Class}
use Rattle.reader.specs.declared.class.Class.TheVariants.{Blank, LineEnd, Letter, Digit, Apostrophe, Point, Sign, Unreadable}

-- from one byte up to another
abbrev between : ℕ → ℕ → ℕ → Bool
between low high b = nat_le low b && nat_le b high

-- a tab or a space
abbrev is_blank : ℕ → Bool
is_blank b = b == 9 || b == 32

-- a line feed, a form feed or a carriage return
abbrev is_line_end : ℕ → Bool
is_line_end b = b == 10 || b == 12 || b == 13

-- A to Z, a to z and the underscore
abbrev is_letter : ℕ → Bool
is_letter b = between 65 90 b || between 97 122 b || b == 95

-- 0 to 9
abbrev is_digit : ℕ → Bool
is_digit b = between 48 57 b

-- + - * /
abbrev is_operator : ℕ → Bool
is_operator b = b == 43 || b == 45 || b == 42 || b == 47

-- the sign that a byte is, { } ; ( ) = , or an operator, or else unreadable
abbrev sign : ℕ → Class
sign b =
    cond (b == 123) (Sign OpenBrace) (cond (b == 125) (Sign CloseBrace) (cond (b == 59) (Sign Semicolon) (cond (b == 40) (Sign OpenParen)
    (cond (b == 41) (Sign CloseParen) (cond (b == 61) (Sign Equals) (cond (b == 44) (Sign Comma) (cond (is_operator b) (Sign Operator) Unreadable)))))))

-- the class of a byte
unfoldable pub class : ℕ → Class
class b =
    cond (is_blank b) Blank (cond (is_line_end b) LineEnd (cond (is_letter b) Letter (cond (is_digit b) Digit
    (cond (b == 39) Apostrophe (cond (b == 46) Point (sign b))))))

-- whether a class is that of blanks
abbrev pub blank : Class → Bool
blank Blank = true
blank LineEnd = false
blank Letter = false
blank Digit = false
blank Apostrophe = false
blank Point = false
blank (Sign k) = false
blank Unreadable = false

-- whether a class is that of line ends
abbrev pub line_end : Class → Bool
line_end Blank = false
line_end LineEnd = true
line_end Letter = false
line_end Digit = false
line_end Apostrophe = false
line_end Point = false
line_end (Sign k) = false
line_end Unreadable = false

-- what a name goes on with: letters, digits and apostrophes
abbrev pub in_name : Class → Bool
in_name Blank = false
in_name LineEnd = false
in_name Letter = true
in_name Digit = true
in_name Apostrophe = true
in_name Point = false
in_name (Sign k) = false
in_name Unreadable = false

-- what digits go on with
abbrev pub in_digits : Class → Bool
in_digits Blank = false
in_digits LineEnd = false
in_digits Letter = false
in_digits Digit = true
in_digits Apostrophe = false
in_digits Point = false
in_digits (Sign k) = false
in_digits Unreadable = false

-- what stands between lexemes: blanks and line ends
abbrev pub is_gap : Class → Bool
is_gap c = blank c || line_end c
