-- The loop has the largest gap after the slots below slot i.
use Rattle.std.proofs.Common.{◌≡◌}
use Rattle.rules.specs.Sets.{most}
use Rattle.rules.specs.Wheels.{gap_at}
use Rattle.runs.proofs.largest_gap.Given as goal

abbrev pub invariant-loop-i : goal.invariant-loop-i
invariant-loop-i l = l.most ≡ most (gap_at l.n l.x) l.i
