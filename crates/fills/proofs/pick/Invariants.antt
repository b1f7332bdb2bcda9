-- The first i entries are picked.
use Rattle.std.proofs.Common.{◌≡◌, ℕ, ◌<◌, max, get_or}
use Rattle.fills.proofs.pick.Given as goal

abbrev pub invariant-loop-i : goal.invariant-loop-i
invariant-loop-i l = (k : ℕ) → k < l.i → get_or l.row k 0 ≡ max (get_or l.heads k 0) (get_or l.tails k 0)
