-- The slots from s on that stay are in y already, as bits 0, 1, ..; the loop goes down and takes in one slot more.
use Rattle.std.proofs.Common.{◌≡◌, ◌-◌}
use Rattle.rules.specs.Sets.{set_of}
use Rattle.rows.specs.Rows.{stays}
use Rattle.rows.proofs.still_free.Given as goal

abbrev pub invariant-loop-s : goal.invariant-loop-s
invariant-loop-s l = l.y ≡ set_of (stays l.row l.n l.turn.shift l.x) l.s (l.n - l.s)
