-- The set so far and what is left to add make the greedy choice.
use Rattle.std.proofs.Common.{◌≡◌, ◌+◌, ◌≤◌}
use Rattle.line.specs.Rebuild.{greedy_set, left, Due}
use Rattle.rebuild.proofs.rebuild.Given as goal

abbrev pub invariant-loop-at : goal.invariant-loop-at
invariant-loop-at l = (l.at.k ≤ l.k) × (l.at.slots + left l.cut.task l.cut.start.0 l.at.p l.at.k ≡ greedy_set l.cut.task l.cut.start.0 l.k) × Due l.cut.task l.cut.start.0 l.at.p l.at.k

abbrev pub decreases-loop-at : goal.decreases-loop-at
decreases-loop-at l = l.at.k
