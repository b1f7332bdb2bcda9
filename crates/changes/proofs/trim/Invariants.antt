-- The entries from the length to i are zero, and those before the length are as they were.
use Rattle.std.proofs.Common.{◌≡◌, ℕ, ◌<◌, ◌≤◌, length, get_or}
use Rattle.changes.proofs.trim.Given as goal

abbrev pub invariant-loop-i : goal.invariant-loop-i
invariant-loop-i l =
    (length l.entries ≡ 16)
    × ((j : ℕ) → j < l.path.len → get_or l.entries j 0 ≡ get_or l.path.entries j 0)
    × ((j : ℕ) → l.path.len ≤ j → j < l.i → j < 16 → get_or l.entries j 0 ≡ 0)
