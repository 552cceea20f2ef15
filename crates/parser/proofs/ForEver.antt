-- Alike meanings answer alike, and stay alike.
-- Assumes nothing.
use Rattle.std.proofs.Common.{◌≡◌, ℕ, ◌<◌, List, [], ◌∷◌, sym, refl, ap, ◌∙◌, subst, arith}
use Rattle.std.proofs.lemmas.Bool.Decides.{same_from_decides, Decides-like}
use Rattle.parser.specs.Sets.{Begins}
use Rattle.parser.specs.Meaning.{Meaning, Alike}
use Rattle.parser.specs.Runs.{Says, TakeSays, Answers, taken_if, next, Runs, Agree, Made}
use Rattle.parser.specs.declared.Refused.TheVariants.{NotViable, ReachSpent}
use Rattle.parser.specs.declared.runs.Call.{Call}
use Rattle.parser.specs.declared.runs.Call.TheVariants.{Viable, Complete, Start, Take, Mark, Back, Keep}
use Rattle.parser.specs.declared.runs.Answer.{Answer}
use Rattle.parser.specs.declared.runs.Answer.TheVariants.{Told, Done, Denied}
use Rattle.parser.proofs.Meanings.{begins_same, same_sym, alike_refl, alike_sym, alike_trans, alike_started, alike_taken, alike_marked, alike_kept, alike_returned}

says_one : (a b : Answer) (P Q : Type 0) → (P → Q) → (Q → P) → Says a P → Says b Q → a ≡ b
says_one (Told x) (Told y) P Q to back h k = ap Told (same_from_decides x y (Decides-like x to back h) k)
says_one (Told x) Done P Q to back h k = absurd k
says_one (Told x) (Denied why) P Q to back h k = absurd k
says_one Done b P Q to back h k = absurd h
says_one (Denied why) b P Q to back h k = absurd h

says_moves : (a : Answer) (P Q : Type 0) → (P → Q) → (Q → P) → Says a P → Says a Q
says_moves (Told x) P Q to back h = Decides-like x to back h
says_moves Done P Q to back h = h
says_moves (Denied why) P Q to back h = h

module _ (m n : Meaning) (alike : Alike m n) where
  there : (kind : ℕ) → Begins m.remainder kind → Begins n.remainder kind
  there kind = begins_same kind alike.remainder

  here : (kind : ℕ) → Begins n.remainder kind → Begins m.remainder kind
  here kind = begins_same kind (same_sym alike.remainder)

  take_one : (kind : ℕ) (a b : Answer) → TakeSays kind m a → TakeSays kind n b → a ≡ b
  take_one kind (Told x) b h k = absurd h
  take_one kind Done (Told y) h k = absurd k
  take_one kind Done Done h k = refl
  take_one kind Done (Denied NotViable) h k = absurd (k (there kind h.0))
  take_one kind Done (Denied ReachSpent) h k = absurd (omega (arith, h.1, k.1, alike.left))
  take_one kind (Denied why) (Told y) h k = absurd k
  take_one kind (Denied NotViable) Done h k = absurd (h (here kind k.0))
  take_one kind (Denied ReachSpent) Done h k = absurd (omega (arith, h.1, k.1, alike.left))
  take_one kind (Denied NotViable) (Denied NotViable) h k = refl
  take_one kind (Denied NotViable) (Denied ReachSpent) h k = absurd (h (here kind k.0))
  take_one kind (Denied ReachSpent) (Denied NotViable) h k = absurd (k (there kind h.0))
  take_one kind (Denied ReachSpent) (Denied ReachSpent) h k = refl

  -- the same call has one answer
  pub answer_one : (c : Call) (a b : Answer) → Answers m c a → Answers n c b → a ≡ b
  answer_one (Viable kind) a b h k = says_one a b _ _ (there kind) (here kind) h k
  answer_one Complete a b h k = says_one a b _ _ (alike.remainder []).0 (alike.remainder []).1 h k
  answer_one Start a b h k = h ∙ sym k
  answer_one (Take kind) a b h k = take_one kind a b h k
  answer_one Mark a b h k = h ∙ sym k
  answer_one Back a b h k = h ∙ sym k
  answer_one Keep a b h k = h ∙ sym k

  take_moves : (kind : ℕ) (a : Answer) → TakeSays kind m a → TakeSays kind n a
  take_moves kind (Told x) h = h
  take_moves kind Done h = (there kind h.0, subst (λ k. 0 < k) alike.left h.1)
  take_moves kind (Denied NotViable) h = λ b. h (here kind b)
  take_moves kind (Denied ReachSpent) h = (there kind h.0, sym alike.left ∙ h.1)

  -- and the same answers fit
  pub answer_moves : (c : Call) (a : Answer) → Answers m c a → Answers n c a
  answer_moves (Viable kind) a h = says_moves a _ _ (there kind) (here kind) h
  answer_moves Complete a h = says_moves a _ _ (alike.remainder []).0 (alike.remainder []).1 h
  answer_moves Start a h = h
  answer_moves (Take kind) a h = take_moves kind a h
  answer_moves Mark a h = h
  answer_moves Back a h = h
  answer_moves Keep a h = h

  taken_alike : (kind : ℕ) (a : Answer) → Alike (taken_if kind a m) (taken_if kind a n)
  taken_alike kind (Told x) = alike
  taken_alike kind Done = alike_taken kind m n alike
  taken_alike kind (Denied why) = alike

  pub next_alike : (c : Call) (a : Answer) → Alike (next c a m) (next c a n)
  next_alike (Viable kind) a = alike
  next_alike Complete a = alike
  next_alike Start a = alike_started m n alike
  next_alike (Take kind) a = taken_alike kind a
  next_alike Mark a = alike_marked m n alike
  next_alike Back a = alike_returned m n alike
  next_alike Keep a = alike_kept m n alike

pub for_ever : (calls : List Call) (m n : Meaning) → Alike m n → (answers others : List Answer) → Runs m calls answers → Runs n calls others → answers ≡ others
for_ever [] m n alike [] [] h k = refl
for_ever [] m n alike [] (b ∷ others) h k = absurd k
for_ever [] m n alike (a ∷ answers) others h k = absurd h
for_ever (c ∷ calls) m n alike [] others h k = absurd h
for_ever (c ∷ calls) m n alike (a ∷ answers) [] h k = absurd k
for_ever (c ∷ calls) m n alike (a ∷ answers) (b ∷ others) h k =
    let e : a ≡ b = answer_one m n alike c a b h.0 k.0 in
    let k' : Runs (next c a n) calls others = rw e k.1 in
    let es = for_ever calls (next c a m) (next c a n) (next_alike m n alike c a) answers others h.1 k' in
    λ i. e i ∷ es i

-- a run from a meaning is one from any alike
pub runs_move : (calls : List Call) (m n : Meaning) → Alike m n → (answers : List Answer) → Runs m calls answers → Runs n calls answers
runs_move [] m n alike [] h = h
runs_move [] m n alike (a ∷ answers) h = h
runs_move (c ∷ calls) m n alike [] h = h
runs_move (c ∷ calls) m n alike (a ∷ answers) h =
    (answer_moves m n alike c a h.0, runs_move calls (next c a m) (next c a n) (next_alike m n alike c a) answers h.1)

-- calls made from two meanings are made from any alike
pub made_move : (calls : List Call) (m n p q m' n' : Meaning) → Alike m p → Alike n q → Made m n calls m' n' → Made p q calls m' n'
made_move [] m n p q m' n' h k f = (alike_trans m' m p f.0 h, alike_trans n' n q f.1 k)
made_move (c ∷ calls) m n p q m' n' h k f =
    let a = f.0 in
    let b = f.1 in
    let to = next_alike m p h c a in
    let on = next_alike n q k c b in (
      a,
      b,
      answer_moves m p h c a f.2,
      answer_moves n q k c b f.3,
      λ e. made_move calls (next c a m) (next c b n) (next c a p) (next c b q) m' n' to on (f.4 e),
      λ e. (alike_trans m' (next c a m) (next c a p) (f.5 e).0 to, alike_trans n' (next c b n) (next c b q) (f.5 e).1 on),
    )

module _ (m n m' n' : Meaning) (c : Call) (a : Answer) (h : Answers m c a) (k : Answers n c a) (to : Alike m' (next c a m)) (on : Alike n' (next c a n)) (calls : List Call) where
  -- after a call that both answer alike, the rest is agreed on exactly where all was
  pub agree_back : Agree m' n' calls → Agree m n (c ∷ calls)
  agree_back g =
      (a ∷ g.0, (h, runs_move calls m' (next c a m) to g.0 g.1), (k, runs_move calls n' (next c a n) on g.0 g.2))

  step_on : (answers : List Answer) → Runs m (c ∷ calls) answers → Runs n (c ∷ calls) answers → Agree m' n' calls
  step_on [] f g = absurd f
  step_on (b ∷ answers) f g =
      let e : b ≡ a = answer_one m m (alike_refl m) c b a f.0 h in
      let f' : Runs (next c a m) calls answers = rw (← e) f.1 in
      let g' : Runs (next c a n) calls answers = rw (← e) g.1 in
      (answers, runs_move calls (next c a m) m' (alike_sym m' (next c a m) to) answers f', runs_move calls (next c a n) n' (alike_sym n' (next c a n) on) answers g')

  pub agree_on : Agree m n (c ∷ calls) → Agree m' n' calls
  agree_on g = step_on g.0 g.1 g.2

  -- what is then made of the rest is made of all
  pub made_on : (p q : Meaning) → Made m' n' calls p q → Made m n (c ∷ calls) p q
  made_on p q f =
      (a, a, h, k, λ _. made_move calls m' n' (next c a m) (next c a n) p q to on f, λ apart. absurd (apart refl))

  -- and alike meanings stay alike
  pub stay_alike : Alike m n → Alike m' n'
  stay_alike alike =
      alike_trans m' (next c a m) n' to (alike_trans (next c a m) (next c a n) n' (next_alike m n alike c a) (alike_sym n' (next c a n) on))

module _ (m n : Meaning) (c : Call) (a b : Answer) (h : Answers m c a) (k : Answers n c b) (apart : a ≡ b → ⊥) (calls : List Call) where
  differs : (answers : List Answer) → Runs m (c ∷ calls) answers → Runs n (c ∷ calls) answers → ⊥
  differs [] f g = f
  differs (d ∷ answers) f g =
      apart (sym (answer_one m m (alike_refl m) c d a f.0 h) ∙ answer_one n n (alike_refl n) c d b g.0 k)

  -- calls with different answers are not agreed on, and come from meanings that are not alike
  pub not_agreed : Agree m n (c ∷ calls) → ⊥
  not_agreed g = differs g.0 g.1 g.2

  pub not_alike : Alike m n → ⊥
  not_alike alike = apart (answer_one m n alike c a b h k)

  -- and nothing is made after such a call
  pub made_apart : (p q : Meaning) → Alike p (next c a m) → Alike q (next c b n) → Made m n (c ∷ calls) p q
  made_apart p q to on = (a, b, h, k, λ e. absurd (apart e), λ _. (to, on))
