-- Tokens in the shape of braces are written unchanged when they are fed: every block is explicit. Assumes nothing.
use Rattle.std.proofs.Common.{◌≡◌, ℕ, zero, suc, ◌+◌, ◌-◌, ◌<◌, ◌≤◌, Bool, true, false, List, [], ◌∷◌, ◌++◌, map, length, replicate, Some, Ok, sym, refl, ◌∙◌, subst, arith, None}
use Rattle.std.proofs.lemmas.List.{append_assoc, append-nil, length-append, length-replicate}
use Rattle.std.proofs.lemmas.Bool.{true≢false}
use Rattle.parser.specs.Sets.{Lists}
use Rattle.sheet.specs.declared.lexeme.Lexeme.{Lexeme}
use Rattle.sheet.specs.declared.lexeme.Place.{Place}
use Rattle.sheet.specs.declared.lexeme.Token.{Token}
use Rattle.sheet.specs.Tokens.{written}
use Rattle.layout.specs.Law.{Again, Feeding, unchanged}
use Rattle.layout.specs.Law as law
use Rattle.layout.specs.Layout.{kinds}
use Rattle.layout.specs.Limits.{Goes, Laid, Runs, done, ends, goes, goes_on, writes}
use Rattle.layout.specs.Marks.{after, end_mark, opens_block}
use Rattle.layout.specs.Rules.{MustClose, Viable, close_typed, drop_deeper, drop_outside, end, open_typed, write_lexeme}
use Rattle.layout.specs.Service.{Does, Run, State, feeds, finishes, more, none}
use Rattle.layout.specs.declared.call.Answer.TheVariants.{Count as count}
use Rattle.layout.specs.declared.call.Call.TheVariants.{Feed as feed, Finish as finish}
use Rattle.layout.specs.declared.rule.Before.{Before}
use Rattle.layout.specs.declared.rule.Coming.TheVariants.{Lexeme as lexeme, End as ending}
use Rattle.layout.specs.declared.rule.Mark.TheVariants.{Line}
use Rattle.layout.proofs.Due.{due, due_following, no_block}
use Rattle.layout.specs.Shape.{Path, closes, here, opens, other}

-- so many explicit blocks
abbrev explicits : ℕ → List ℕ
explicits d = replicate d 0

-- what a lexeme leaves that is written unchanged
abbrev alone : Lexeme → ℕ → Laid
alone l d = record { tokens = written l ∷ []; contexts = explicits d }

-- a state in which an open sheet's blocks are all explicit
abbrev at : ℕ → ℕ → ℕ → Before → List ℕ → State
at n m d b u = record { sheet = Some n; next = m; contexts = explicits d; before = b; written = u }

-- where no kinds are left, a path has come to its end
arrived : {d e : ℕ} {b c : Bool} → Path d b [] e c → (d ≡ e) × (b ≡ c)
arrived here = (refl, refl)

-- where no { is due, no mark stands before the end
no_mark : (b : Before) → due b ≡ false → end_mark b ≡ None
no_mark a b = grind arith

module _ (H : Lists) where
  -- an explicit block never has to close before a kind
  stays : (u : List ℕ) (k d : ℕ) → MustClose H u k (explicits d) → ⊥
  stays a b c d = grind arith

  -- one kind is written
  takes : (u : List ℕ) (left k d : ℕ) → (k ≡ 3 → d < 64) → Viable H u k → 0 < left → (n : ℕ) × Goes H (length (explicits d)) u left (k ∷ []) (Ok n)
  takes u zero k d room v h = absurd (omega arith)
  takes u (suc n) k d room v h = (n, goes (λ e. simp length-replicate (room e)) v done)

  -- the mark of a line is dropped
  dropped : (u : List ℕ) (left d : ℕ) (l : Lexeme) (x : Laid) → 1 ≤ l.column → Runs H u left (explicits d) None (lexeme l) (Ok x) → Runs H u left (explicits d) (Some Line) (lexeme l) (Ok x)
  dropped u left zero l x h r = goes_on {o = Ok x} drop_outside refl done (rw append-nil r)
  dropped u left (suc d) l x h r = goes_on {o = Ok x} (drop_deeper h) refl done (rw append-nil r)

  -- a lexeme on a path is written unchanged, and leads on
  pub record Next (d : ℕ) (b : Bool) (u : List ℕ) (left : ℕ) (l : Lexeme) (w : List ℕ) : Type 0 where
    pub depth : ℕ
    pub path : Path depth (opens_block l.kind) w 0 false
    pub runs : Runs H u left (explicits d) None (lexeme l) (Ok (alone l depth))
    pub brace : b ≡ true → l.kind ≡ 3
    pub known : (1 ≤ l.kind) × (l.kind ≤ 15)

  next : {d k : ℕ} {b : Bool} {w : List ℕ} (u : List ℕ) (left : ℕ) (l : Lexeme) → Path d b (k ∷ w) 0 false → l.kind ≡ k → Viable H u l.kind → 0 < left → Next d b u left l w
  next {d} u left l (opens h p) e v n =
      record {
        depth = suc d;
        path = rw e p;
        runs = writes (open_typed e) refl (takes u left l.kind d (λ z. h) v n).1;
        brace = λ z. e;
        known = (omega arith, omega arith);
      }
  next u left l (closes {d = d} p) e v n =
      record {
        depth = d;
        path = rw e p;
        runs = writes (close_typed e refl) refl (takes u left l.kind (suc d) (λ z. absurd (omega arith)) v n).1;
        brace = λ z. absurd (true≢false (sym z));
        known = (omega arith, omega arith);
      }
  next {d} u left l (other x y f t p) e v n =
      record {
        depth = d;
        path = rw e p;
        runs = writes (write_lexeme (λ z. x (sym e ∙ z), λ z. y (sym e ∙ z)) (stays u l.kind d)) refl (takes u left l.kind d (λ z. absurd (x (sym e ∙ z))) v n).1;
        brace = λ z. absurd (true≢false (sym z));
        known = (omega arith, omega arith);
      }

module _ (H : Lists) (reach : ℕ) where
  -- a lexeme on a path is fed, at any column and with any flag
  feeds_alone : {d : ℕ} {w : List ℕ} (n m free : ℕ) (b : Before) (u : List ℕ) (l : Lexeme) (x : Next H d (due b) u (reach - length u) l w) → 1 ≤ l.column → l.column ≤ 4095 → 1 ≤ free
      → Does H reach (at n m d b u) (feed n l free) (count 1) (written l ∷ []) (at n m x.depth (after l.kind) (u ++ l.kind ∷ []))
  feeds_alone {d} n m free b u l x from to room =
      let y = alone l x.depth in
      let left = reach - length u in
      let marked = no_block b l (λ k. Runs H u left (explicits d) k (lexeme l) (Ok y)) x.brace x.runs (dropped H u left d l y from x.runs) in
      feeds {x = y} refl (x.known.0, x.known.1, from, to) marked room

  -- at the end of a path the sheet is finished, and nothing is written
  finishes_alone : {d : ℕ} (n m free : ℕ) (b : Before) (u : List ℕ) (q : Place) → Path d (due b) [] 0 false → H (u ++ []) → (s : State) × Does H reach (at n m d b u) (finish n q free) (count 0) [] s
  finishes_alone {d} n m free b u q p g =
      let left = reach - length u in
      let y : Laid = record { tokens = []; contexts = [] } in
      let none_left : Runs H u left [] (end_mark b) (ending q) (Ok y) = rw (no_mark b (arrived p).1) (ends end refl) in
      (_, finishes {x = y} refl (subst (λ k. Runs H u left (explicits k) (end_mark b) (ending q) (Ok y)) (sym (arrived p).0) none_left) g (omega arith))

  -- tokens on a path are fed one by one, and then the sheet is finished
  pub replays : {ts : List Token} {xs : List Feeding} (n m d free : ℕ) (b : Before) (u : List ℕ) (q : Place) → Again ts xs → Path d (due b) (kinds ts) 0 false → H (u ++ kinds ts) → length u + length ts ≤ reach
      → (s : State) × Run H reach (at n m d b u) (map (unchanged n) xs ++ record { call = finish n q free; answer = count 0; tokens = [] } ∷ []) s
  replays n m d free b u q law.none p g h = let x = finishes_alone n m free b u q p g in (x.0, more x.1 none)
  replays n m d free b u q (law.one {t = t} {ts = ts} {x = x} r room rest) p g h =
      let l = x.lexeme in
      let v : Viable H u l.kind = (kinds ts, subst (λ k. H (u ++ k ∷ kinds ts)) (sym r.kind) g) in
      let y = next H u (reach - length u) l p r.kind v (omega arith) in
      let on = subst (λ c. Path y.depth c (kinds ts) 0 false) (sym (due_following l.kind)) y.path in
      let z = replays n m y.depth free (after l.kind) (u ++ l.kind ∷ []) q rest on (rw append_assoc v.1) (simp length-append (omega arith)) in
      (z.0, more (feeds_alone n m x.free b u l y r.from r.to room) z.1)
