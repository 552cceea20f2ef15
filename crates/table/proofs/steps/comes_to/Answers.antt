use Rattle.std.proofs.Common.{◌≡◌, suc, ◌-◌, sym, ◌∙◌, arith}
use Rattle.table.proofs.Expand.{ends_pop, kind_met, kind_other}
use Rattle.table.proofs.Leads.{kind_led, kind_stuck, led_by, led_met, left_kept, step_by, step_few}
use Rattle.table.proofs.steps.comes_to.Goals as goal

pub returns-then-from-kind : goal.returns-then-from-kind
returns-then-from-kind c =
    let same = sym c.from.ensures ∙ c.if-from-kind.true in
    record {
      entries = kind_led c.args.symbol c.args.kind same;
      means = λ rest ends. (omega arith, kind_met c.args.symbol rest c.args.kind c.if-symbol-lt-NONTERMINAL.true same, ends_pop c.args.symbol rest ends);
    }

pub returns-else-from-kind : goal.returns-else-from-kind
returns-else-from-kind c =
    record {
      entries = kind_stuck c.args.symbol c.args.kind c.if-symbol-lt-NONTERMINAL.true (λ e. c.if-from-kind.false (c.from.ensures ∙ e));
      means = λ rest ends. kind_other c.args.symbol rest c.args.kind c.if-symbol-lt-NONTERMINAL.true (λ e. c.if-from-kind.false (c.from.ensures ∙ e));
    }

pub returns-in-0 : goal.returns-in-0
returns-in-0 c =
    record {
      entries = led_by c.if-symbol-lt-NONTERMINAL.false c.requires c.number.ensures c.in-0.is;
      means = step_by c.if-symbol-lt-NONTERMINAL.false c.requires c.number.ensures c.in-0.is;
    }

pub returns-in-1 : goal.returns-in-1
returns-in-1 c =
    record {
      entries = led_by c.if-symbol-lt-NONTERMINAL.false c.requires c.number.ensures c.in-1.is;
      means = step_by c.if-symbol-lt-NONTERMINAL.false c.requires c.number.ensures c.in-1.is;
    }

pub left_of-requires : goal.left_of-requires
left_of-requires c =
    let few = step_few c.args.symbol c.args.kind c.if-symbol-lt-NONTERMINAL.false c.requires.0 c.requires.1 in
    let is = c.number.ensures in
    omega arith

pub returns-in_default : goal.returns-in_default
returns-in_default c =
    let met : c.number.result ≡ suc (suc (c.number.result - 2)) = omega arith in
    record {
      entries = led_met c.args.symbol c.args.kind _ c.left_of.result.now c.left_of.ensures (led_by c.if-symbol-lt-NONTERMINAL.false c.requires c.number.ensures met);
      means = λ rest ends. left_kept c.args.symbol c.args.kind _ c.left_of.result.now rest c.left_of.ensures ends (step_by c.if-symbol-lt-NONTERMINAL.false c.requires c.number.ensures met);
    }
