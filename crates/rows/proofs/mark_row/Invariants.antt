-- The loop has written v into the cells that the slots below s reach, and into no other.
use Rattle.std.proofs.Common.{◌≡◌, cond, ℕ, ◌<◌, get_or}
use Rattle.rows.specs.Rows.{hits}
use Rattle.rows.proofs.mark_row.Given as goal

abbrev pub invariant-loop-s : goal.invariant-loop-s
invariant-loop-s l = (j : ℕ) → j < 64 → get_or l.row j 0 ≡ cond (hits l.n l.turn.shift l.x j l.s) l.v (get_or l.initial.row j 0)
