-- The rules on their way over what comes. Assumes nothing.
use Rattle.std.proofs.Common.{◌≡◌, ℕ, ◌+◌, ◌*◌, ◌<◌, ◌≤◌, Bool, true, false, ◌⊎◌, List, [], ◌++◌, map, length, is_some, None as none, Ok, Err, Result, sym, refl, ap, ◌∙◌, subst, inl, inr, ⊎_elim, arith, length-append, Option, Some}
use Rattle.std.proofs.lemmas.List.{append_assoc, append-nil, map-append}
use Rattle.std.proofs.lemmas.Bool.{cases_Bool, false≢true}
use Rattle.parser.specs.Meaning.{Alike, Meaning}
use Rattle.parser.specs.Runs.{after}
use Rattle.parser.specs.Sets.{Lists}
use Rattle.parser.proofs.Meanings.{alike_sym, alike_trans, mark_trans, same_trans}
use Rattle.parser.proofs.Steps.{after_none}
use Rattle.sheet.specs.declared.fault.Reason.{Reason}
use Rattle.sheet.specs.declared.lexeme.Token.{Token}
use Rattle.layout.specs.Contexts.{stack, stacked}
use Rattle.layout.specs.Drafts.{empty, Bound, Inserted, Laying, NextAll, Row, contexts_of, drafted, no_separator, refused, stopped, tokens_of, with_opened}
use Rattle.layout.specs.Limits.{Goes, Laid, Runs, and_before, goes_on, stops}
use Rattle.layout.specs.Marks.{Fitting, column, inserted, kind}
use Rattle.layout.specs.Rules.{Applies, inserting, inserts, insert_kind, leaves, onward, opening}
use Rattle.layout.specs.declared.draft.Draft.{Draft}
use Rattle.layout.specs.declared.rule.Coming.{Coming}
use Rattle.layout.specs.declared.rule.Mark.{Mark}
use Rattle.layout.specs.declared.rule.Mark.TheVariants.{Line, Block}
use Rattle.layout.specs.declared.rule.Onward.{Onward}
use Rattle.layout.specs.declared.rule.Onward.TheVariants.{Mark as at_mark, Lexeme as lexeme_written, End as ended, Undefined as undefined}
use Rattle.layout.specs.declared.rule.Rule.{Rule}
use Rattle.layout.specs.declared.rule.Rule.TheVariants.{Separate, CloseShallower, DropMark, OpenBlock, EmptyBlock, CloseTyped, StrayClose, OpenTyped, CloseOnError, WriteLexeme, CloseAtEnd, End, BlockLeftOpen}
use Rattle.layout.specs.declared.rule.Insert.{Insert}
use Rattle.layout.proofs.Stacks.{length_stack}
use Rattle.layout.proofs.Shifts.{applies_at, goes_at}

-- what a draft may have inserted at each mark
abbrev pub Phase : Option Mark → Draft → Type 0
Phase none d = Unit {0}
Phase (Some Line) d = (d.separator ≡ false) × (d.closes_after ≡ 0)
Phase (Some Block) d = (d.brace ≡ false) × (d.closes ≡ 0) × (d.separator ≡ false) × (d.closes_after ≡ 0) × (is_some d.opened ≡ false)

-- so the tokens of the rule that applies can be inserted
pub phase_next : {G : Lists} {u : List ℕ} {m : Option Mark} {c : Coming} {ks : List ℕ} {r : Rule} (d : Draft) → Applies G u m c ks r → Phase m d → NextAll d (inserting r)
phase_next a b c = grind arith

-- tokens that the rules may still insert at a mark
abbrev pub weight : Option Mark → ℕ
weight none = 0
weight (Some Line) = 1
weight (Some Block) = 3

-- no token, no refusal
nothing_stops : {R : Lists} {depth : ℕ} {u : List ℕ} {left : ℕ} {why : Reason} → Goes R depth u left [] (Err why) → ⊥
nothing_stops g = elim g [ ]

-- a rule goes on at a mark or inserts nothing
goes_or_none : (r : Rule) → ((m : Option Mark) × (onward r ≡ at_mark m)) ⊎ (inserting r ≡ [])
goes_or_none Separate = inl (none, refl)
goes_or_none CloseShallower = inl ((Some Line), refl)
goes_or_none DropMark = inr refl
goes_or_none OpenBlock = inl (none, refl)
goes_or_none EmptyBlock = inl ((Some Line), refl)
goes_or_none CloseTyped = inr refl
goes_or_none StrayClose = inr refl
goes_or_none OpenTyped = inr refl
goes_or_none CloseOnError = inl (none, refl)
goes_or_none WriteLexeme = inr refl
goes_or_none CloseAtEnd = inl (none, refl)
goes_or_none End = inr refl
goes_or_none BlockLeftOpen = inr refl

-- more kinds taken after others
pub after_on : (u w : List ℕ) (before now : Meaning) → Alike now (after u before) → Alike (after w now) (after (u ++ w) before)
after_on u w before now so =
    record {
      language = so.language;
      reach = so.reach;
      remainder = λ x. let e = append_assoc u w x in (λ y. subst before.remainder (sym e) ((so.remainder (w ++ x)).0 y), λ y. (so.remainder (w ++ x)).1 (subst before.remainder e y));
      left = omega (arith, so.left, length-append u w);
      mark = so.mark;
    }

-- the mark at which a rule goes on
abbrev pub mark_in : Onward → Option Mark
mark_in (at_mark m) = m
mark_in lexeme_written = none
mark_in ended = none
mark_in undefined = none

-- whether it goes on at all
abbrev pub at_some : Onward → Bool
at_some (at_mark m) = true
at_some lexeme_written = false
at_some ended = false
at_some undefined = false

-- how many rules may still apply at a mark, the contexts aside
abbrev pub rank : Option Mark → ℕ
rank none = 0
rank (Some Line) = 1
rank (Some Block) = 5

-- each rule leaves fewer
pub rule_rank : {G : Lists} {u : List ℕ} {m : Option Mark} {c : Coming} {ks : List ℕ} {r : Rule} → Applies G u m c ks r → at_some (onward r) ≡ true → 3 * length (leaves r (column c) ks) + rank (mark_in (onward r)) < 3 * length ks + rank m
rule_rank a b = grind arith

-- a rule opens a block only where the call has opened none
pub single_open : {G : Lists} {u : List ℕ} {m : Option Mark} {c : Coming} {ks : List ℕ} {r : Rule} (d : Draft) → Applies G u m c ks r → Phase m d → (is_some d.opened ≡ true → kind c ≡ 3 → ⊥) → opening r ≡ true → is_some d.opened ≡ false
single_open a b c d e = grind arith

-- and that is so also when its tokens are inserted
pub still_single : {G : Lists} {u : List ℕ} {m : Option Mark} {c : Coming} {ks : List ℕ} {r : Rule} {ts : List Insert} {n : ℕ} {now next : Meaning} (d e : Draft) → Applies G u m c ks r → Phase m d → (is_some d.opened ≡ true → kind c ≡ 3 → ⊥) → Inserted ts n d now next (Ok e)
    → opening r ≡ true → is_some e.opened ≡ false
still_single d e a p b (drafted g x tokens depth opened row) o = ap is_some opened ∙ single_open d a p b o

-- nor are the contexts changed by inserted tokens
pub inserted_contexts : (cs : List ℕ) {ts : List Insert} {n : ℕ} {now next : Meaning} (d e : Draft) → Inserted ts n d now next (Ok e) → contexts_of cs e ≡ contexts_of cs d
inserted_contexts cs d e (drafted g x tokens depth opened row) = λ i. with_opened (opened i) (stack cs (depth i))

-- what a rule leaves of what may still be inserted
rule_weight : {G : Lists} {u : List ℕ} {m : Option Mark} {c : Coming} {ks : List ℕ} {r : Rule} → Applies G u m c ks r → at_some (onward r) ≡ true → length (inserts r) + length (leaves r (column c) ks) + weight (mark_in (onward r)) ≤ length ks + weight m
rule_weight a b = grind arith

-- what a draft may have inserted at the next mark
phase_after : {G : Lists} {u : List ℕ} {m : Option Mark} {c : Coming} {ks : List ℕ} {r : Rule} (d e : Draft) → Applies G u m c ks r → Phase m d → (no_separator (inserting r) ≡ true → d.separator ≡ false → Row d e) → Phase (mark_in (onward r)) e
phase_after a b c d e = grind arith

-- a block is due before none but the first rule
fitting_after : (r : Rule) (c : Coming) → Fitting (mark_in (onward r)) c
fitting_after a b = grind arith

-- a rule that opens a block and goes on stands at the mark of one
opens_at_block : {G : Lists} {u : List ℕ} {m : Option Mark} {c : Coming} {ks : List ℕ} {r : Rule} → Applies G u m c ks r → at_some (onward r) ≡ true → Fitting m c → opening r ≡ true → kind c ≡ 3 → ⊥
opens_at_block a b c d = grind arith

-- tokens before tokens
before_twice : (a b : List Token) (o : Result Laid Reason) → and_before a (and_before b o) ≡ and_before (a ++ b) o
before_twice a b (Ok x) = ap (λ l. Ok (record { tokens = l; contexts = x.contexts })) (sym (append_assoc a b x.tokens))
before_twice a b (Err why) = refl

module _ (cs : List ℕ) (m₀ : Option Mark) (c : Coming) (before : Meaning) where
  -- the parser has taken what is drafted, and what the rules still do completes what they do in all
  pub record Standing (d : Draft) (m : Option Mark) (now : Meaning) : Type 0 where
    pub steps : Alike now (after (tokens_of d) before)
    pub runs : (o : Result Laid Reason) → Runs before.remainder (tokens_of d) now.left (contexts_of cs d) m c o → Runs before.remainder [] before.left (stacked cs) m₀ c (and_before (map (inserted c) (tokens_of d)) o)
    pub shallow : d.depth ≤ length cs

  pub record Running (d : Draft) (m : Option Mark) (now : Meaning) : Type 0 where
    pub stands : Standing d m now
    pub phase : Phase m d
    pub fitting : Fitting m c
    pub brace : is_some d.opened ≡ true → kind c ≡ 3 → ⊥
    pub small : length (tokens_of d) + length (contexts_of cs d) + weight m ≤ 67

  module _ (d : Draft) (m : Option Mark) (now : Meaning) (r : Rule) (so : Running d m now) (a : Applies now.remainder [] m c (contexts_of cs d) r) where
    -- the rule as it applies after the kinds written
    rule : Applies before.remainder (tokens_of d) m c (contexts_of cs d) r
    rule = applies_at now.remainder before.remainder (tokens_of d) so.stands.steps.remainder a

    parser_on : (next : Meaning) (w : List ℕ) → Alike next (after w now) → Alike next (after (tokens_of d ++ w) before)
    parser_on next w x = alike_trans next (after w now) (after (tokens_of d ++ w) before) x (after_on (tokens_of d) w before now so.stands.steps)

    bound_on : (next : Meaning) → Bound next now → Bound next before
    bound_on next b =
        record { language = same_trans b.language so.stands.steps.language; reach = b.reach ∙ so.stands.steps.reach; mark = mark_trans next.mark now.mark before.mark b.mark so.stands.steps.mark }

    written_on : (w : List ℕ) {o : Result ℕ Reason} → Goes now.remainder (length (contexts_of cs d)) [] now.left w o → Goes before.remainder (length (contexts_of cs d)) (tokens_of d) now.left w o
    written_on w g = goes_at now.remainder before.remainder (tokens_of d) so.stands.steps.remainder (length (contexts_of cs d)) g

    -- a token of the rule is refused
    pub running_stops : (next : Meaning) (why : Reason) → Inserted (inserting r) (length (contexts_of cs d)) d now next (Err why) → Laying cs m₀ c before next (Err why)
    running_stops next why (refused g b) = ⊎_elim on none (goes_or_none r)
      where
        on : (m' : Option Mark) × (onward r ≡ at_mark m') → Laying cs m₀ c before next (Err why)
        on x = stopped (so.stands.runs (Err why) (stops rule x.1 (written_on _ g))) (bound_on next b)

        none : inserting r ≡ [] → Laying cs m₀ c before next (Err why)
        none e = absurd (nothing_stops (subst (λ (l : List Insert). Goes now.remainder (length (contexts_of cs d)) [] now.left (map insert_kind l) (Err why)) e g))

    -- the rule goes on at another mark
    pub running_more : (next : Meaning) (e f : Draft) (m' : Option Mark) → onward r ≡ at_mark m' → Inserted (inserting r) (length (contexts_of cs d)) d now next (Ok e)
        → tokens_of f ≡ tokens_of e → contexts_of cs f ≡ leaves r (column c) (contexts_of cs e) → f.depth ≤ e.depth → (opening r ≡ false → is_some f.opened ≡ true → is_some e.opened ≡ true)
        → (f.separator ≡ e.separator) × (f.closes_after ≡ e.closes_after) → Running f m' next
    running_more next e f m' on (drafted g x tokens depth opened row) same contexts shallow brace kept =
        let grown : tokens_of f ≡ tokens_of d ++ inserts r = same ∙ tokens in
        let at : mark_in (onward r) ≡ m' = ap mark_in on in
        let goes : at_some (onward r) ≡ true = ap at_some on in
        let around : contexts_of cs e ≡ contexts_of cs d = (λ i. with_opened (opened i) (stack cs (depth i))) in
        let left : contexts_of cs f ≡ leaves r (column c) (contexts_of cs d) = contexts ∙ ap (leaves r (column c)) around in
        record {
          stands = record {
            steps = subst (λ (w : List ℕ). Alike next (after w before)) (sym grown) (parser_on next (inserts r) x);
            runs = λ o run.
                let moved : Runs before.remainder (tokens_of d ++ inserts r) next.left (leaves r (column c) (contexts_of cs d)) m' c o =
                subst (λ (x : List ℕ). Runs before.remainder (tokens_of d ++ inserts r) next.left x m' c o) left (subst (λ (w : List ℕ). Runs before.remainder w next.left (contexts_of cs f) m' c o) grown run) in
                subst (Runs before.remainder [] before.left (stacked cs) m₀ c)
                (before_twice (map (inserted c) (tokens_of d)) (map (inserted c) (inserts r)) o ∙ ap (λ l. and_before l o) (sym (map-append (inserted c) (tokens_of d) (inserts r)) ∙ ap (map (inserted c)) (sym grown)))
                (so.stands.runs _ (goes_on rule on (written_on (inserts r) g) moved));
            shallow = omega (arith, depth, so.stands.shallow);
          };
          phase = subst (λ (x : Option Mark). Phase x f) at (phase_after d f a so.phase (λ n p. let kept_row = row n p in (kept.0 ∙ kept_row.0, kept.1 ∙ kept_row.1)));
          fitting = subst (λ (x : Option Mark). Fitting x c) at (fitting_after r c);
          brace = λ some. ⊎_elim (opens_at_block a goes so.fitting) (λ n. so.brace (ap is_some (sym opened) ∙ brace n some)) (cases_Bool (opening r));
          small = omega (arith, so.small, rule_weight a goes, ap length grown, length-append (tokens_of d) (inserts r), ap length left, ap weight at);
        }

-- a rule that goes on at no mark inserts nothing
none_inserted : (r : Rule) → at_some (onward r) ≡ false → inserting r ≡ []
none_inserted a b = grind arith

module _ (cs : List ℕ) (m₀ : Option Mark) (c : Coming) (before : Meaning) (d : Draft) (m : Option Mark) (now : Meaning) (r : Rule) (so : Running cs m₀ c before d m now) (a : Applies now.remainder [] m c (contexts_of cs d) r) (next : Meaning) (e : Draft) where
  -- where nothing is inserted, all stands as before
  pub same_stand : at_some (onward r) ≡ false → Inserted (inserting r) (length (contexts_of cs d)) d now next (Ok e) → Standing cs m₀ c before e m next × (length (contexts_of cs e) ≡ length (contexts_of cs d)) × Applies before.remainder (tokens_of e) m c (contexts_of cs e) r
  same_stand nothing (drafted g x tokens depth opened row) =
      let empty = ap (map insert_kind) (none_inserted r nothing) in
      let same : tokens_of e ≡ tokens_of d = tokens ∙ ap (λ w. tokens_of d ++ w) empty ∙ append-nil (tokens_of d) in
      let around : contexts_of cs e ≡ contexts_of cs d = (λ i. with_opened (opened i) (stack cs (depth i))) in
      let kept : Alike next now = alike_trans next (after [] now) now (subst (λ (w : List ℕ). Alike next (after w now)) empty x) (alike_sym now (after [] now) (after_none now)) in (
        record {
          steps = subst (λ (w : List ℕ). Alike next (after w before)) (sym same) (alike_trans next now (after (tokens_of d) before) kept so.stands.steps);
          runs = λ o run.
              let moved : Runs before.remainder (tokens_of d) now.left (contexts_of cs d) m c o =
              subst (λ (n : ℕ). Runs before.remainder (tokens_of d) n (contexts_of cs d) m c o) kept.left
              (subst (λ (l : List ℕ). Runs before.remainder (tokens_of d) next.left l m c o) around (subst (λ (w : List ℕ). Runs before.remainder w next.left (contexts_of cs e) m c o) same run)) in
              subst (λ (w : List ℕ). Runs before.remainder [] before.left (stacked cs) m₀ c (and_before (map (inserted c) w) o)) (sym same) (so.stands.runs o moved);
          shallow = omega (arith, depth, so.stands.shallow);
        },
        ap length around,
        subst (λ (l : List ℕ). Applies before.remainder (tokens_of e) m c l r) (sym around) (subst (λ (w : List ℕ). Applies before.remainder w m c (contexts_of cs d) r) (sym same)
            (applies_at now.remainder before.remainder (tokens_of d) so.stands.steps.remainder a)),
      )

-- nothing is done yet
before_nothing : (o : Result Laid Reason) → o ≡ and_before [] o
before_nothing a = grind arith

phase_new : (m : Option Mark) (d : Draft) → Phase (Some Block) d → Phase m d
phase_new a b c = grind arith

weight_few : (m : Option Mark) → weight m ≤ 3
weight_few a = grind arith

pub running_new : (cs : List ℕ) (m : Option Mark) (c : Coming) (before : Meaning) → length cs ≤ 64 → Fitting m c → Running cs m c before (empty (length cs)) m before
running_new cs m c before small fitting =
    record {
      stands = record { steps = after_none before; runs = λ o run. subst (Runs before.remainder [] before.left (stacked cs) m c) (before_nothing o) run; shallow = omega arith };
      phase = phase_new m (empty (length cs)) (refl, refl, refl, refl, refl);
      fitting = fitting;
      brace = λ some k. absurd (false≢true some);
      small = omega (arith, length_stack cs (length cs), weight_few m);
    }
