-- The loop walks along the stretch: `count` slots are behind, and `slot` is the next one, counted round the wheel.
use Rattle.std.proofs.Common.{◌≡◌, ◌+◌, ◌-◌, ◌%◌, ◌<◌}
use Rattle.rules.specs.Sets.{stretch}
use Rattle.rules.specs.Wheels.{chosen}
use Rattle.runs.proofs.stretch.Given as goal

abbrev pub invariant-loop-count : goal.invariant-loop-count
invariant-loop-count l =
    (l.count + stretch (chosen l.n l.x) (l.from + l.count) (l.limit - l.count) ≡ stretch (chosen l.n l.x) l.from l.limit)
    × (l.slot ≡ (l.from + l.count) % l.n)
    × (l.slot < l.n)
