-- The set so far and the slots still to be added make the whole.
use Rattle.std.proofs.Common.{◌≡◌, ◌+◌, ◌-◌}
use Rattle.line.specs.Choice.{bits_run}
use Rattle.rebuild.proofs.add_run.Given as goal

abbrev pub invariant-loop-i : goal.invariant-loop-i
invariant-loop-i l =
    l.y + bits_run l.cut.task l.cut.start.0 (l.d + l.i) (l.m - l.i) ≡ l.x + bits_run l.cut.task l.cut.start.0 l.d l.m
