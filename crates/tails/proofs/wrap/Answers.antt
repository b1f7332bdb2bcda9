-- The gap from e to the start of the next round is N - e.
use Rattle.std.proofs.Common.{◌-◌, sym, ap, arith, le-leb}
use Rattle.std.proofs.lemmas.Bool.{lt-leb}
use Rattle.line.specs.Values.{or_none}
use Rattle.tails.proofs.wrap.Goals as goal

pub returns-then-task-e : goal.returns-then-task-e
unfolding or_none
returns-then-task-e c =
    let t = c.args.task in
    sym (ap (λ b. or_none b 1) (le-leb (t.wheel.n - c.args.e) t.limit (omega (arith, c.if-task-e.true))))

pub returns-else-task-e : goal.returns-else-task-e
unfolding or_none
returns-else-task-e c =
    let t = c.args.task in
    sym (ap (λ b. or_none b 1) (lt-leb (t.wheel.n - c.args.e) t.limit (omega (arith, c.if-task-e.false))))
