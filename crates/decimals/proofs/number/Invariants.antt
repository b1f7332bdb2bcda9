-- The digits up to the rest are those of the value.
use Rattle.std.proofs.Common.{length}
use Rattle.decimals.specs.Digits.{Sofar}
use Rattle.decimals.proofs.number.Given as goal

abbrev pub invariant-loop-digit : goal.invariant-loop-digit
invariant-loop-digit l = Sofar l.text l.value l.rest

abbrev pub decreases-loop-digit : goal.decreases-loop-digit
decreases-loop-digit l = length l.rest
