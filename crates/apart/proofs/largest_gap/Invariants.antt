-- No stretch is longer than the way behind it.
use Rattle.std.proofs.Common.{◌≤◌}
use Rattle.apart.proofs.largest_gap.Given as goal

abbrev pub invariant-loop-i : goal.invariant-loop-i
invariant-loop-i l = (l.stretch ≤ l.i) × (l.longest ≤ l.i)
