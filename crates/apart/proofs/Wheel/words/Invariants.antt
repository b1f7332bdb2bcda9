-- No slot delivers more than 64 words.
use Rattle.std.proofs.Common.{◌*◌, ◌≤◌}
use Rattle.apart.proofs.Wheel.words.Given as goal

abbrev pub invariant-loop-i : goal.invariant-loop-i
invariant-loop-i l = l.total ≤ 64 * l.i
