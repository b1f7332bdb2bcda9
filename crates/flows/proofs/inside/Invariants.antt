-- The loop has seen that the entries before i are channels.
use Rattle.std.proofs.Common.{ℕ, ◌<◌, get_or}
use Rattle.flows.proofs.inside.Given as goal

abbrev pub invariant-loop-i : goal.invariant-loop-i
invariant-loop-i l = (p : ℕ) → p < l.i → get_or l.path.entries p 0 < l.channels
