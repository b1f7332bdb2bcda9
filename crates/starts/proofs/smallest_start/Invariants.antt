-- No slot below i is a start.
use Rattle.std.proofs.Common.{◌≡◌, false, ℕ, ◌<◌}
use Rattle.rules.specs.Wheels.{start}
use Rattle.starts.proofs.smallest_start.Given as goal

abbrev pub invariant-loop-i : goal.invariant-loop-i
invariant-loop-i l = (j : ℕ) → j < l.i → start l.n l.x j ≡ false
