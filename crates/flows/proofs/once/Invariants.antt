-- The loop has seen that no entry before k stands twice.
use Rattle.std.proofs.Common.{ℕ, ◌<◌}
use Rattle.flows.specs.Tests.{Fresh}
use Rattle.flows.proofs.once.Given as goal

abbrev pub invariant-loop-k : goal.invariant-loop-k
invariant-loop-k l = (p : ℕ) → p < l.k → Fresh l.path.entries p
