-- The loop reads one field a turn.
use Rattle.std.proofs.Common.{length}
use Rattle.decimals.specs.Columns.{Going}
use Rattle.decimals.proofs.fields.Given as goal

abbrev pub invariant-loop-first : goal.invariant-loop-first
invariant-loop-first l = Going l.text l.room l.count l.rest

abbrev pub decreases-loop-first : goal.decreases-loop-first
decreases-loop-first l = length l.rest
