-- The law of every run of a service. Assumes nothing.
use Rattle.std.proofs.Common.{◌≡◌, ℕ, ◌+◌, ◌^◌, ◌<◌, ◌≤◌, List, [], sym, refl, subst, arith}
use Rattle.parser.specs.Sets.{Lists, Same}
use Rattle.sheet.specs.declared.lexeme.Place.{Place}
use Rattle.sheet.specs.declared.lexeme.Token.{Token}
use Rattle.layout.specs.Law.{Again, AgainLaw, AlikeLaw, Feeding, Law, all_unchanged}
use Rattle.layout.specs.Service.{Run, State, begins, more, new}
use Rattle.layout.specs.declared.rule.Before.TheVariants.{Nothing}
use Rattle.layout.proofs.Braces.{Whole, finished_whole}
use Rattle.layout.proofs.Calls.{runs_of_calls_alike}
use Rattle.layout.proofs.Finish.{finish_law}
use Rattle.layout.proofs.FedAgain.{replays}

module _ (G H : Lists) (reach reach' : ℕ) where
  -- a whole sheet is fed again from the start
  fed_again : {ts : List Token} {xs : List Feeding} (first : ℕ) (q : Place) (free : ℕ) → Same G H → reach ≤ reach' → Whole G reach ts → first < 2 ^ 64 → Again ts xs → (s : State) × Run H reach' (new first) (all_unchanged first xs q free) s
  fed_again first q free same further w low again =
      let x = replays H reach' first (first + 1) 0 free Nothing [] q again w.path ((same _).0 w.sentence) (omega arith) in
      (x.0, more (begins refl low) x.1)

  -- tokens of a finished sheet are written unchanged when they are fed again, and in no other way
  again_law : Same G H → reach ≤ reach' → AgainLaw G reach H reach'
  again_law same further =
      record {
        runs = λ first es s s' t p free n ts run d first' xs q free' low again. fed_again first' q free' same further (finished_whole G reach first es s s' t p free n ts run d) low again;
        only = λ first es s s' t p free n ts run d first' xs q free' low again fs s'' found said.
            let x = fed_again first' q free' same further (finished_whole G reach first es s s' t p free n ts run d) low again in
            runs_of_calls_alike H H (λ w. (λ g. g, λ g. g)) reach' x.0 fs (all_unchanged first' xs q free') found x.1 said;
      }

  -- the same calls are answered alike
  alike_law : Same G H → reach ≡ reach' → AlikeLaw G reach H reach'
  alike_law same e first es fs s t r q said = runs_of_calls_alike G H same reach t es fs r (subst (λ n. Run H n (new first) fs t) (sym e) q) said

-- the law of every run
pub law : (G H : Lists) (reach reach' : ℕ) → Law G reach H reach'
law G H reach reach' = record { finish = finish_law G reach; again = again_law G H reach reach'; alike = alike_law G H reach reach' }
