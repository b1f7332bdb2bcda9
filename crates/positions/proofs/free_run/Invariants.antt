-- The slots before position p + f are open.
use Rattle.std.proofs.Common.{◌≡◌, true, ℕ, ◌+◌, ◌<◌}
use Rattle.line.specs.Packets.{opens}
use Rattle.positions.proofs.free_run.Given as goal

abbrev pub invariant-loop-f : goal.invariant-loop-f
invariant-loop-f l = (i : ℕ) → i < l.f → opens l.cut.task l.cut.start.0 (l.p + i) ≡ true
