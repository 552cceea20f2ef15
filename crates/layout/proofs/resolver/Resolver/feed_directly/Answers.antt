use Rattle.std.proofs.Common.{refl, [], sym}
use Rattle.layout.specs.Calling.{next_of}
use Rattle.layout.specs.Contexts.{stacked}
use Rattle.layout.proofs.Sheets.{beside_standing, fed_accepted, fed_refused}
use Rattle.layout.proofs.resolver.Resolver.feed_directly.Goals as goal

pub returns-in-Some-Ok : goal.returns-in-Some-Ok
returns-in-Some-Ok g c =
    let go = c.is_direct.ensures c.if-not-is_direct.false in
    let beside = c.take_directly.ensures.beside in
    fed_accepted c.args.self.now go.1 go.2
    (λ i. record { sheet = beside.sheet i; next = next_of (beside.next i); contexts = stacked (beside.contexts i).items; before = c.after-self.ensures i; written = [] })
    (sym go.3) refl (rw c.in-Some-Ok.field-0-is at (c.in-Some-Ok.ensures.told c.args.free go.0))

pub returns-in-Some-Err : goal.returns-in-Some-Err
returns-in-Some-Err g c =
    let go = c.is_direct.ensures c.if-not-is_direct.false in
    fed_refused c.args.self.now go.1 go.2 (beside_standing _ _ c.take_directly.ensures.beside) (sym go.3) refl (rw c.in-Some-Err.field-0-is at (c.in-Some-Err.ensures.told c.args.free go.0))
