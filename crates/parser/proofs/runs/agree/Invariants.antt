use Rattle.std.proofs.Common.{drop}
use Rattle.parser.specs.Meaning.{Alike}
use Rattle.parser.specs.Runs.{Agree, Made}
use Rattle.parser.proofs.Bound.{means}
use Rattle.parser.proofs.runs.agree.Given as goal

-- the calls from here on are agreed on exactly where all are, what was alike still is, and what the rest leads to all calls do
abbrev pub invariant-loop-call : goal.invariant-loop-call
invariant-loop-call g l =
    let m = means g.P.Stepping g.P.Probing in
    let n = means g.Q.Stepping g.Q.Probing in
    (Agree (m l.one) (n l.other) (drop l.call-index l.calls) → Agree (m l.initial.one) (n l.initial.other) l.calls) × (Agree (m l.initial.one) (n l.initial.other) l.calls → Agree (m l.one) (n l.other) (drop l.call-index l.calls)) × (Alike (m l.initial.one) (n l.initial.other) → Alike (m l.one) (n l.other)) × ((p : g.row.P.Denot) (q : g.row.Q.Denot) → Made (m l.one) (n l.other) (drop l.call-index l.calls) (m p) (n q) → Made (m l.initial.one) (n l.initial.other) l.calls (m p) (n q))
