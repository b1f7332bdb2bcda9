-- The loop has seen that the cells of the slots below s hold v.
use Rattle.std.proofs.Common.{◌≡◌, true, ℕ, ◌<◌, get_or}
use Rattle.rules.specs.Sets.{has}
use Rattle.rows.specs.Rows.{later}
use Rattle.rows.proofs.row_holds.Given as goal

abbrev pub invariant-loop-s : goal.invariant-loop-s
invariant-loop-s l = (u : ℕ) → u < l.s → has l.x u ≡ true → get_or l.row (later l.n l.turn.shift u) 0 ≡ l.v
