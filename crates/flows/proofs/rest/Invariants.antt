-- The loop has seen that the entries from len to i are zero.
use Rattle.std.proofs.Common.{◌≡◌, ℕ, ◌≤◌, ◌<◌, get_or}
use Rattle.flows.proofs.rest.Given as goal

abbrev pub invariant-loop-i : goal.invariant-loop-i
invariant-loop-i l = (p : ℕ) → l.path.len ≤ p → p < l.i → get_or l.path.entries p 0 ≡ 0
