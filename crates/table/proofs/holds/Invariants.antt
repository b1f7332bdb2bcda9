-- The rows of the positions below i hold v where the slots reach them.
use Rattle.std.proofs.Common.{◌≡◌, true, ℕ, ◌<◌, get_or}
use Rattle.rules.specs.Sets.{has}
use Rattle.rules.specs.Paths.{cell, seen}
use Rattle.table.proofs.holds.Given as goal

abbrev pub invariant-loop-i : goal.invariant-loop-i
invariant-loop-i l =
    (p : ℕ) → p < l.i → (s : ℕ) → s < l.chip.wheel.n → has l.x s ≡ true
    → cell l.table (get_or l.path.entries p 0) (seen l.chip l.path.entries p s) ≡ l.v
