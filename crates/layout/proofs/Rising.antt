-- The rules leave contexts that rise, within the depth limit. Assumes nothing.
use Rattle.std.proofs.Common.{◌≡◌, ℕ, ◌≤◌, true, List, [], ◌∷◌, length, Ok, Err, Result, arith, Option}
use Rattle.parser.specs.Sets.{Lists}
use Rattle.sheet.specs.declared.fault.Reason.{Reason}
use Rattle.sheet.specs.declared.lexeme.Lexeme.{Lexeme}
use Rattle.sheet.specs.declared.lexeme.Token.{Token}
use Rattle.layout.specs.Contexts.{rises}
use Rattle.layout.specs.Limits.{Goes, Laid, Runs, and_before}
use Rattle.layout.specs.Marks.{column}
use Rattle.layout.specs.Rules.{Applies, inserts, leaves, onward}
use Rattle.layout.specs.declared.rule.Coming.{Coming}
use Rattle.layout.specs.declared.rule.Coming.TheVariants.{Lexeme as lexeme}
use Rattle.layout.specs.declared.rule.Mark.{Mark}
use Rattle.layout.specs.declared.rule.Onward.TheVariants.{Mark as at_mark, Lexeme as lexeme_written}
use Rattle.layout.specs.declared.rule.Rule.{Rule}

-- contexts that rise, and that are few
pub record Sound (ks : List ℕ) : Type 0 where
  pub rising : rises ks ≡ true
  pub few : length ks ≤ 64

-- what is laid leaves such contexts
abbrev pub SoundIn : Result Laid Reason → Type 0
SoundIn (Ok x) = Sound x.contexts
SoundIn (Err why) = Unit {0}

-- a rule that goes on at a mark
sound_onward : {R : Lists} {u ks : List ℕ} {left n : ℕ} {m m' : Option Mark} {c : Coming} {r : Rule} → Applies R u m c ks r → onward r ≡ at_mark m' → Goes R (length ks) u left (inserts r) (Ok n) → Sound ks → Sound (leaves r (column c) ks)
sound_onward a b c d = grind arith

-- a rule that writes the lexeme
sound_written : {R : Lists} {u ks : List ℕ} {left n : ℕ} {m : Option Mark} {l : Lexeme} {r : Rule} → Applies R u m (lexeme l) ks r → onward r ≡ lexeme_written → Goes R (length ks) u left (l.kind ∷ []) (Ok n) → Sound ks → Sound (leaves r l.column ks)
sound_written a b c d = grind arith

before_sound : (ts : List Token) (o : Result Laid Reason) → SoundIn o → SoundIn (and_before ts o)
before_sound a b c = grind arith

pub runs_sound : {R : Lists} {u ks : List ℕ} {left : ℕ} {m : Option Mark} {c : Coming} {o : Result Laid Reason} → Runs R u left ks m c o → Sound ks → SoundIn o
runs_sound (Runs.goes_on {o = o} a e g rest) so = before_sound _ o (runs_sound rest (sound_onward a e g so))
runs_sound (Runs.stops a e g) so = tt
runs_sound (Runs.writes a e g) so = sound_written a e g so
runs_sound (Runs.refuses a e g) so = tt
runs_sound (Runs.is_undefined a e) so = tt
runs_sound (Runs.ends a e) so = so
