-- After i positions x has the slots that are free as far as position i.
use Rattle.std.proofs.Common.{◌≡◌}
use Rattle.rules.specs.Sets.{set_of}
use Rattle.rules.specs.Paths.{free}
use Rattle.table.proofs.free_slots.Given as goal

abbrev pub invariant-loop-i : goal.invariant-loop-i
invariant-loop-i l = l.x ≡ set_of (free l.chip l.table l.path.entries l.i) 0 l.chip.wheel.n
