-- What the rules write has the shape of braces. Assumes nothing.
use Rattle.std.proofs.Common.{◌≡◌, ℕ, suc, ◌+◌, ◌<◌, ◌≤◌, Bool, true, false, List, [], ◌∷◌, ◌++◌, map, length, Ok, Err, Result, sym, refl, ap, ◌∙◌, subst, arith, None, Option, Some}
use Rattle.std.proofs.lemmas.List.{length-append, length-map, map-append}
use Rattle.parser.specs.Sets.{Lists}
use Rattle.sheet.specs.declared.fault.Reason.{Reason}
use Rattle.sheet.specs.declared.lexeme.Lexeme.{Lexeme}
use Rattle.sheet.specs.declared.lexeme.Place.{Place}
use Rattle.sheet.specs.declared.lexeme.Token.{Token}
use Rattle.layout.specs.Layout.{kinds}
use Rattle.layout.specs.Limits.{Goes, Laid, Runs, and_before}
use Rattle.layout.specs.Marks.{column, inserted, kind, opens_block}
use Rattle.layout.specs.Rules.{Applies, block_left_open, close_at_end, close_on_error, close_shallower, close_typed, drop_deeper, drop_outside, empty_block, end, inserts, leaves, onward, open_block, open_typed, separate, stray_close, write_lexeme}
use Rattle.layout.specs.declared.rule.Coming.{Coming}
use Rattle.layout.specs.declared.rule.Coming.TheVariants.{Lexeme as lexeme, End as ending}
use Rattle.layout.specs.declared.rule.Mark.{Mark}
use Rattle.layout.specs.declared.rule.Mark.TheVariants.{Line, Block}
use Rattle.layout.specs.declared.rule.Onward.TheVariants.{Lexeme as lexeme_written, End as ended}
use Rattle.layout.specs.declared.rule.Rule.{Rule}
use Rattle.layout.proofs.Exits.{kinds_inserted}
use Rattle.layout.proofs.Paths.{path_on}
use Rattle.layout.specs.Shape.{Path, closes, here, opens, other}
use Rattle.layout.proofs.Single.{mark_in, way}

-- where a { is due before what comes: at the mark of a block, or at a typed {
abbrev pub Ready : Bool → Option Mark → Coming → List ℕ → Type 0
Ready false m c ks = Unit {0}
Ready true None c ks = kind c ≡ 3
Ready true (Some Line) c ks = (kind c ≡ 3) × (ks ≡ [])
Ready true (Some Block) c ks = Unit {0}

-- a { that was written found room
goes_room : {R : Lists} {depth : ℕ} {u : List ℕ} {left n : ℕ} {w : List ℕ} → Goes R depth u left (3 ∷ w) (Ok n) → depth < 64
goes_room (Goes.goes room v g) = room refl

-- where a rule leads that goes on at a mark
pub record Leads (b : Bool) (m : Option Mark) (c : Coming) (ks : List ℕ) (r : Rule) (m' : Option Mark) : Type 0 where
  pub flag : Bool
  pub path : Path (length ks) b (inserts r) (length (leaves r (column c) ks)) flag
  pub ready : Ready flag m' c (leaves r (column c) ks)

not_empty : (k : ℕ) (ks : List ℕ) → k ∷ ks ≡ [] → ⊥
not_empty k ks e = omega (arith, ap length e)

semicolon_path : {d : ℕ} → Path d false (5 ∷ []) d false
semicolon_path = other (λ e. omega arith) (λ e. omega arith) (omega arith) (omega arith) here

leads : {G : Lists} {u : List ℕ} {m : Option Mark} {c : Coming} {ks : List ℕ} {r : Rule} {left n : ℕ} (b : Bool) → Applies G u m c ks r → way (onward r) ≡ 0 → Ready b m c ks → Goes G (length ks) u left (inserts r) (Ok n) → Leads b m c ks r (mark_in (onward r) None)
leads true (separate {k = k} {ks = ks} e) on x g = absurd (not_empty k ks x.1)
leads false (separate e) on x g = record { flag = false; path = semicolon_path; ready = tt }
leads true (close_shallower {k = k} {ks = ks} h) on x g = absurd (not_empty k ks x.1)
leads false (close_shallower h) on x g = record { flag = false; path = closes here; ready = tt }
leads true (drop_deeper {k = k} {ks = ks} h) on x g = absurd (not_empty k ks x.1)
leads false (drop_deeper h) on x g = record { flag = false; path = here; ready = tt }
leads true drop_outside on x g = record { flag = true; path = here; ready = x.0 }
leads false drop_outside on x g = record { flag = false; path = here; ready = tt }
leads b (open_block h) on x g = record { flag = false; path = opens (goes_room g) here; ready = tt }
leads b (empty_block h) on x g = record { flag = false; path = opens (goes_room g) (closes here); ready = tt }
leads b (close_typed k x) on y g = absurd (omega arith)
leads b (stray_close k x) on y g = absurd (omega arith)
leads b (open_typed k) on y g = absurd (omega arith)
leads true (close_on_error p x) on y g = absurd (p.0 y)
leads false (close_on_error {ks = []} p x) on y g = elim x [ ]
leads false (close_on_error {ks = k ∷ ks} p x) on y g = record { flag = false; path = closes here; ready = tt }
leads b (write_lexeme p x) on y g = absurd (omega arith)
leads true (close_at_end h) on x g = absurd (omega (arith, x))
leads false (close_at_end h) on x g = record { flag = false; path = closes here; ready = tt }
leads b end on x g = absurd (omega arith)
leads b (block_left_open e) on x g = absurd (omega arith)

-- where a rule leads that writes the lexeme
written_path : {G : Lists} {u : List ℕ} {m : Option Mark} {l : Lexeme} {ks : List ℕ} {r : Rule} {left n : ℕ} (b : Bool) → Applies G u m (lexeme l) ks r → onward r ≡ lexeme_written → Ready b m (lexeme l) ks → Goes G (length ks) u left (l.kind ∷ []) (Ok n)
    → (1 ≤ l.kind) × (l.kind ≤ 15) → Path (length ks) b (l.kind ∷ []) (length (leaves r l.column ks)) (opens_block l.kind)
written_path b (separate e) on x g h = absurd (omega (arith, ap way on))
written_path b (close_shallower e) on x g h = absurd (omega (arith, ap way on))
written_path b (drop_deeper e) on x g h = absurd (omega (arith, ap way on))
written_path b drop_outside on x g h = absurd (omega (arith, ap way on))
written_path b (open_block e) on x g h = absurd (omega (arith, ap way on))
written_path b (empty_block e) on x g h = absurd (omega (arith, ap way on))
written_path true (close_typed k x) on y g h = absurd (omega arith)
written_path false (close_typed {ks = []} k x) on y g h = elim x [ ]
written_path false (close_typed {l = l} {ks = j ∷ ks} k x) on y g h = subst (λ t. Path (suc (length ks)) false (t ∷ []) (length ks) (opens_block t)) (sym k) (closes here)
written_path b (stray_close k x) on y g h = absurd (omega (arith, ap way on))
written_path {G} {u} {ks = ks} {left = left} {n = n} b (open_typed {l = l} k) on y g h =
    subst (λ t. Path (length ks) b (t ∷ []) (suc (length ks)) (opens_block t)) (sym k) (opens (goes_room (subst (λ t. Goes G (length ks) u left (t ∷ []) (Ok n)) k g)) here)
written_path b (close_on_error p x) on y g h = absurd (omega (arith, ap way on))
written_path true (write_lexeme p x) on y g h = absurd (p.0 y)
written_path false (write_lexeme p x) on y g h = other p.0 p.1 h.0 h.1 here

-- where the rules lead that end: no block is open, and none is due
end_path : {G : Lists} {u : List ℕ} {m : Option Mark} {p : Place} {ks : List ℕ} {r : Rule} (b : Bool) → Applies G u m (ending p) ks r → onward r ≡ ended → Ready b m (ending p) ks → Path (length ks) b [] 0 false
end_path b (separate e) on x = absurd (omega (arith, ap way on))
end_path b (close_shallower e) on x = absurd (omega (arith, ap way on))
end_path b (drop_deeper e) on x = absurd (omega (arith, ap way on))
end_path b drop_outside on x = absurd (omega (arith, ap way on))
end_path b (open_block e) on x = absurd (omega (arith, ap way on))
end_path b (empty_block e) on x = absurd (omega (arith, ap way on))
end_path b (close_at_end h) on x = absurd (omega (arith, ap way on))
end_path true end on x = absurd (omega (arith, x))
end_path false end on x = here
end_path b (block_left_open e) on x = absurd (omega (arith, ap way on))

-- so many were written, and so many are left
goes_count : {R : Lists} {depth : ℕ} {u : List ℕ} {left n : ℕ} {w : List ℕ} → Goes R depth u left w (Ok n) → length w + n ≡ left
goes_count Goes.done = omega arith
goes_count (Goes.goes room v g) = omega (arith, goes_count g)

-- whether a { is due after what comes
abbrev pub due_after : Coming → Bool
due_after (lexeme l) = opens_block l.kind
due_after (ending p) = false

-- and how many blocks are open then: at the end none is
abbrev pub depth_after : Coming → List ℕ → ℕ
depth_after (lexeme l) ks = length ks
depth_after (ending p) ks = 0

-- a kind that may be fed
abbrev pub Known : Coming → Type 0
Known (lexeme l) = (1 ≤ l.kind) × (l.kind ≤ 15)
Known (ending p) = Unit {0}

-- what was laid leads on from a depth and a flag, and was left to the parser
pub record Shape (d : ℕ) (b : Bool) (left : ℕ) (c : Coming) (x : Laid) : Type 0 where
  pub path : Path d b (kinds x.tokens) (depth_after c x.contexts) (due_after c)
  pub fits : length x.tokens ≤ left

abbrev pub Shaped : ℕ → Bool → ℕ → Coming → Result Laid Reason → Type 0
Shaped d b left c (Ok x) = Shape d b left c x
Shaped d b left c (Err w) = Unit {0}

-- inserted tokens, and then what has a shape
shaped_after : {d e : ℕ} {b a : Bool} {w : List ℕ} (left rest : ℕ) (c : Coming) → Path d b w e a → length w + rest ≡ left → (o : Result Laid Reason) → Shaped e a rest c o → Shaped d b left c (and_before (map (inserted c) w) o)
shaped_after {w = w} left rest c p n (Ok x) s =
    let said : kinds (map (inserted c) w ++ x.tokens) ≡ w ++ kinds x.tokens = map-append (λ (t : Token). t.kind) (map (inserted c) w) x.tokens ∙ ap (λ v. v ++ kinds x.tokens) (kinds_inserted c w) in
    record { path = rw said (path_on p s.path); fits = simp (length-append, length-map) (omega (arith, s.fits)) }
shaped_after left rest c p n (Err w) s = tt

-- what the rules write over a lexeme or over the end has a shape
pub runs_shaped : {G : Lists} {u : List ℕ} {left : ℕ} {ks : List ℕ} {m : Option Mark} {c : Coming} {o : Result Laid Reason} (b : Bool) → Runs G u left ks m c o → Known c → Ready b m c ks → Shaped (length ks) b left c o
runs_shaped {left = left} {ks = ks} {c = c} b (Runs.goes_on {left' = n} {r = r} {o = o} a e g rest) h x =
    let y = leads b a (ap way e) x g in
    let ready = subst (λ (m : Option Mark). Ready y.flag m c (leaves r (column c) ks)) (ap (λ w. mark_in w None) e) y.ready in
    shaped_after left n c y.path (goes_count g) o (runs_shaped y.flag rest h ready)
runs_shaped b (Runs.stops a e g) h x = tt
runs_shaped b (Runs.writes a e g) h x = record { path = written_path b a e x g h; fits = omega (arith, goes_count g) }
runs_shaped b (Runs.refuses a e g) h x = tt
runs_shaped b (Runs.is_undefined a e) h x = tt
runs_shaped b (Runs.ends a e) h x = record { path = end_path b a e x; fits = omega arith }
