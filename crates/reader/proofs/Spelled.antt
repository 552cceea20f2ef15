-- The run at the front is the longest lexeme there. Assumes nothing.
use Rattle.std.proofs.Common.{◌≡◌, ℕ, zero, suc, ◌+◌, ◌<◌, ◌≤◌, Bool, true, false, cond, eqb, List, [], ◌∷◌, ◌++◌, length, take, drop, sym, refl, ap, ◌∙◌, subst, append_assoc, arith, length-append, take-append-drop, take-add}
use Rattle.std.proofs.lemmas.List.{append-nil, drop_at, length-take-le}
use Rattle.std.proofs.lemmas.Bool.{cond-true, cond-false, eqb-true, false≢true}
use Rattle.sheet.specs.declared.lexeme.Kind.{Kind}
use Rattle.sheet.specs.declared.lexeme.Kind.TheVariants.{Name, Number}
use Rattle.reader.specs.Classes.{class, in_digits, in_name, is_gap}
use Rattle.reader.specs.Places.{byte}
use Rattle.reader.specs.Runs.{fraction, front_by, fronts, number_length, point_and, run, stray, word_kind}
use Rattle.reader.specs.Spelling.{All, Digits, Spells, name, whole, pointed, sign}
use Rattle.reader.specs.declared.class.Class.{Class}
use Rattle.reader.specs.declared.class.Class.TheVariants.{Blank, LineEnd, Letter, Digit, Apostrophe, Point, Sign, Unreadable}
use Rattle.reader.proofs.Fronts.{fronts_le}

-- whether a lexeme begins with a byte of a class
abbrev pub opening : Class → Bool
opening Blank = false
opening LineEnd = false
opening Letter = true
opening Digit = true
opening Apostrophe = false
opening Point = false
opening (Sign k) = true
opening Unreadable = false

-- how far a lexeme reaches that begins with such a byte, and of what kind it is
abbrev pub reach : Class → List ℕ → ℕ
reach Blank bs = 0
reach LineEnd bs = 0
reach Letter bs = fronts in_name bs
reach Digit bs = number_length bs
reach Apostrophe bs = 0
reach Point bs = 0
reach (Sign k) bs = 1
reach Unreadable bs = 0

abbrev pub kind_by : Class → List ℕ → Kind
kind_by Blank w = Name
kind_by LineEnd w = Name
kind_by Letter w = word_kind w
kind_by Digit w = Number
kind_by Apostrophe w = Name
kind_by Point w = Name
kind_by (Sign k) w = k
kind_by Unreadable w = Name

pub front_opening : (c : Class) (bs : List ℕ) → opening c ≡ true → front_by c bs ≡ run (kind_by c (take (reach c bs) bs)) (reach c bs)
front_opening c bs e = grind arith

pub front_stray : (c : Class) (bs : List ℕ) → is_gap c ≡ false → opening c ≡ false → front_by c bs ≡ stray
front_stray c bs g e = grind arith

module _ (p : Class → Bool) where
  -- the bytes that pass at the front all pass
  fronts_all : (bs : List ℕ) → All p (take (fronts p bs) bs)
  fronts_all [] = tt
  fronts_all (b ∷ bs) = go (p (class b)) refl (fronts_all bs)
    where
      go : (v : Bool) → p (class b) ≡ v → All p (take (fronts p bs) bs) → All p (take (cond v (suc (fronts p bs)) 0) (b ∷ bs))
      go true e rest = (e, rest)
      go false e rest = tt

  -- bytes that all pass are counted
  all_fronts : (xs ys : List ℕ) → All p xs → length xs ≤ fronts p (xs ++ ys)
  all_fronts [] ys a = omega arith
  all_fronts (x ∷ xs) ys a = let is = cond-true (p (class x)) (suc (fronts p (xs ++ ys))) 0 a.0 in omega (arith, all_fronts xs ys a.1)

  -- and no more, if another byte follows
  all_then_stop : (xs : List ℕ) (b : ℕ) (ys : List ℕ) → All p xs → p (class b) ≡ false → fronts p (xs ++ b ∷ ys) ≡ length xs
  all_then_stop [] b ys a e = cond-false _ _ _ e
  all_then_stop (x ∷ xs) b ys a e = cond-true _ _ _ a.0 ∙ ap suc (all_then_stop xs b ys a.1 e)

  -- a front that passes is counted
  take_fronts : (bs : List ℕ) (m : ℕ) → m ≤ length bs → All p (take m bs) → m ≤ fronts p bs
  take_fronts bs m h a = subst (λ n. m ≤ fronts p n) (take-append-drop m bs) (omega (arith, all_fronts (take m bs) (drop m bs) a, length-take-le m bs h))

pub fraction_of : (es tail : List ℕ) → Digits es → suc (length es) ≤ fraction (46 ∷ (es ++ tail))
fraction_of es tail d = go (fronts in_digits (es ++ tail)) (all_fronts in_digits es tail d.1)
  where
    go : (n : ℕ) → length es ≤ n → suc (length es) ≤ point_and n
    go zero h = absurd (omega (arith, d.0))
    go (suc n) h = omega arith

point_no_digit : in_digits (class 46) ≡ false
unfolding class
point_no_digit = refl

-- digits, a point and digits reach as far as a number does
pub pointed_reach : (ds es tail : List ℕ) → Digits ds → Digits es → length ds + suc (length es) ≤ number_length (ds ++ 46 ∷ (es ++ tail))
pointed_reach ds es tail d e =
    let n = all_then_stop in_digits ds 46 (es ++ tail) d.1 point_no_digit in
    let rest = ap (λ k. fraction (drop k (ds ++ 46 ∷ (es ++ tail)))) n ∙ ap fraction (drop_at ds (46 ∷ (es ++ tail)) (length ds) refl) in
    omega (arith, n, rest, fraction_of es tail e)

-- the class of a digit is that of digits
digit_class : (c : Class) → in_digits c ≡ true → c ≡ Digit
digit_class c e = grind arith

-- what is spelled at the front of some bytes begins with their first byte, is of its kind and reaches no further
pub record Bounded (b : ℕ) (bs : List ℕ) (k : Kind) (m : ℕ) : Type 0 where
  pub opens : opening (class b) ≡ true
  pub some : 0 < m
  pub far : m ≤ reach (class b) (b ∷ bs)
  pub kind : k ≡ kind_by (class b) (take m (b ∷ bs))

-- by the class that the first byte is of
bounded_by : (b : ℕ) (bs : List ℕ) (k : Kind) (m : ℕ) (c : Class) → class b ≡ c → opening c ≡ true → 0 < m → m ≤ reach c (b ∷ bs) → k ≡ kind_by c (take m (b ∷ bs)) → Bounded b bs k m
bounded_by b bs k m c e o s f g =
    record {
      opens = ap opening e ∙ o;
      some = s;
      far = subst (λ x. m ≤ reach x (b ∷ bs)) (sym e) f;
      kind = g ∙ ap (λ x. kind_by x (take m (b ∷ bs))) (sym e);
    }

module _ (b : ℕ) (bs : List ℕ) (k : Kind) where
  name_bounded : (m x : ℕ) (xs : List ℕ) → m ≤ length (b ∷ bs) → take m (b ∷ bs) ≡ x ∷ xs → class x ≡ Letter → All in_name xs → k ≡ word_kind (take m (b ∷ bs)) → Bounded b bs k m
  name_bounded zero x xs h e letter all kind = cc
  name_bounded (suc m) x xs h e letter all kind =
      let same : b ≡ x = ap (λ l. byte l 0) e in
      let rest : take m bs ≡ xs = ap (drop 1) e in
      let is : class b ≡ Letter = ap class same ∙ letter in
      let reaches = take_fronts in_name bs m (omega arith) (subst (All in_name) (sym rest) all) in
      let more = cond-true (in_name (class b)) (suc (fronts in_name bs)) 0 (ap in_name is) in
      bounded_by b bs k (suc m) Letter is refl (omega arith) (omega arith) kind

  -- digits come first
  digits_first : (m : ℕ) (ds es : List ℕ) → take m (b ∷ bs) ≡ ds ++ es → Digits ds → (0 < m) × (class b ≡ Digit)
  digits_first m [] es e d = absurd (omega (arith, d.0))
  digits_first zero (x ∷ ds) es e d = cc
  digits_first (suc m) (x ∷ ds) es e d = (omega arith, ap class (ap (λ l. byte l 0) e) ∙ digit_class (class x) d.1.0)

  whole_bounded : (m : ℕ) → m ≤ length (b ∷ bs) → Digits (take m (b ∷ bs)) → k ≡ Number → Bounded b bs k m
  whole_bounded m h d kind =
      let first = digits_first m (take m (b ∷ bs)) [] (sym (append-nil _)) d in
      bounded_by b bs k m Digit first.1 refl first.0 (omega (arith, take_fronts in_digits (b ∷ bs) m h d.1)) kind

  pointed_bounded : (m : ℕ) (ds es : List ℕ) → m ≤ length (b ∷ bs) → take m (b ∷ bs) ≡ ds ++ 46 ∷ es → Digits ds → Digits es → k ≡ Number → Bounded b bs k m
  pointed_bounded m ds es h e d f kind =
      let first = digits_first m ds (46 ∷ es) e d in
      let all : b ∷ bs ≡ ds ++ 46 ∷ (es ++ drop m (b ∷ bs)) = sym (take-append-drop m (b ∷ bs)) ∙ ap (λ l. l ++ drop m (b ∷ bs)) e ∙ append_assoc ds (46 ∷ es) (drop m (b ∷ bs)) in
      let long = sym (length-take-le m (b ∷ bs) h) ∙ ap length e ∙ length-append ds (46 ∷ es) in
      let far : m ≤ number_length (b ∷ bs) = subst (λ l. m ≤ number_length l) (sym all) (omega (arith, long, pointed_reach ds es (drop m (b ∷ bs)) d f)) in
      bounded_by b bs k m Digit first.1 refl first.0 far kind

  sign_bounded : (m x : ℕ) → m ≤ length (b ∷ bs) → take m (b ∷ bs) ≡ x ∷ [] → class x ≡ Sign k → Bounded b bs k m
  sign_bounded m x h e is =
      let one : m ≡ 1 = sym (length-take-le m (b ∷ bs) h) ∙ ap length e in
      let same : b ≡ x = ap (λ l. byte l 0) (ap (λ n. take n (b ∷ bs)) (sym one) ∙ e) in
      bounded_by b bs k m (Sign k) (ap class same ∙ is) refl (omega arith) (omega arith) refl

  pub bounded : (m : ℕ) → m ≤ length (b ∷ bs) → Spells k (take m (b ∷ bs)) → Bounded b bs k m
  bounded m h (name x xs e letter all kind) = name_bounded m x xs h e letter all kind
  bounded m h (whole d kind) = whole_bounded m h d kind
  bounded m h (pointed ds es e d f kind) = pointed_bounded m ds es h e d f kind
  bounded m h (sign x e is) = sign_bounded m x h e is

-- a number reaches over its digits, or over its digits, the point and the digits behind it
module _ (bs : List ℕ) (d : ℕ) (digits : Digits (take d bs)) where
  whole_spelled : (n : ℕ) → n ≡ 0 → Spells Number (take (d + n) bs)
  whole_spelled n e = let same : d ≡ d + n = omega arith in subst (λ k. Spells Number (take k bs)) same (whole digits refl)

  pointed_spelled : (xs : List ℕ) → drop d bs ≡ 46 ∷ xs → (n : ℕ) → fronts in_digits xs ≡ n → Spells Number (take (d + point_and n) bs)
  pointed_spelled xs e zero f = whole_spelled 0 refl
  pointed_spelled xs e (suc n) f =
      pointed (take d bs) (take (suc n) xs) (take-add d (suc (suc n)) bs ∙ ap (λ l. take d bs ++ take (suc (suc n)) l) e) digits
      (omega (arith, length-take-le (suc n) xs (omega (arith, fronts_le in_digits xs))), subst (λ k. All in_digits (take k xs)) f (fronts_all in_digits xs)) refl

  number_by : (rest : List ℕ) → drop d bs ≡ rest → Spells Number (take (d + fraction rest) bs)
  number_by [] e = whole_spelled 0 refl
  number_by (x ∷ xs) e = go (eqb x 46) refl
    where
      go : (v : Bool) → eqb x 46 ≡ v → Spells Number (take (d + cond v (point_and (fronts in_digits xs)) 0) bs)
      go true is = pointed_spelled xs (e ∙ ap (λ y. y ∷ xs) (eqb-true x 46 is)) (fronts in_digits xs) refl
      go false is = whole_spelled 0 refl

number_spelled : (b : ℕ) (bs : List ℕ) → class b ≡ Digit → Spells Number (take (number_length (b ∷ bs)) (b ∷ bs))
number_spelled b bs is =
    let d = fronts in_digits (b ∷ bs) in
    let some = cond-true (in_digits (class b)) (suc (fronts in_digits bs)) 0 (ap in_digits is) in
    let long = length-take-le d (b ∷ bs) (fronts_le in_digits (b ∷ bs)) in
    number_by (b ∷ bs) d (omega arith, fronts_all in_digits (b ∷ bs)) (drop d (b ∷ bs)) refl

-- the run at the front is spelled as a lexeme
pub spelled : (b : ℕ) (bs : List ℕ) (c : Class) → class b ≡ c → opening c ≡ true → Spells (kind_by c (take (reach c (b ∷ bs)) (b ∷ bs))) (take (reach c (b ∷ bs)) (b ∷ bs))
spelled b bs Blank is o = absurd (false≢true o)
spelled b bs LineEnd is o = absurd (false≢true o)
spelled b bs Letter is o =
    let n = cond-true (in_name (class b)) (suc (fronts in_name bs)) 0 (ap in_name is) in
    name b (take (fronts in_name bs) bs) (ap (λ m. take m (b ∷ bs)) n) is (fronts_all in_name bs) refl
spelled b bs Digit is o = number_spelled b bs is
spelled b bs Apostrophe is o = absurd (false≢true o)
spelled b bs Point is o = absurd (false≢true o)
spelled b bs (Sign k) is o = sign b refl is
spelled b bs Unreadable is o = absurd (false≢true o)
