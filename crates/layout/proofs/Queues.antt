-- A queue into which a token is put again and again. Assumes nothing.
use Rattle.std.proofs.Common.{◌≡◌, ℕ, ◌-◌, ◌<◌, Bool, cond, ltb, List, [], ◌∷◌, ◌++◌, replicate, ap, ◌∙◌}
use Rattle.std.proofs.lemmas.Bool.{lt-ltb}
use Rattle.queue.specs.Waiting.{room, SamePlaces, waiting}
use Rattle.queue.specs.declared.ring.Queue.{Queue}
use Rattle.sheet.specs.declared.lexeme.Token.{Token}

-- a token was put n times
pub record Putting (entry now : Queue Token) (token : Token) (n : ℕ) : Type 0 where
  pub list : waiting now ≡ waiting entry ++ replicate n token
  pub left : room now ≡ room entry - n
  pub places : SamePlaces entry now

-- an accepted put adds the token behind the others
pub put_list : {T : Type 0} (b : Bool) (n : ℕ) (before after : List T) (x : T) → b ≡ ltb 0 n → 0 < n → after ≡ cond b (before ++ x ∷ []) before → after ≡ before ++ x ∷ []
put_list b n before after x e h is = is ∙ ap (λ y. cond y (before ++ x ∷ []) before) (e ∙ lt-ltb 0 n h)
