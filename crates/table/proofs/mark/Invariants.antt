-- After i positions the cells that the path claims as far as position i hold v, and all others are as before.
use Rattle.rules.specs.Paths.{Stamped}
use Rattle.table.proofs.mark.Given as goal

abbrev pub invariant-loop-i : goal.invariant-loop-i
invariant-loop-i l = Stamped l.chip l.path.entries l.i l.x l.v l.initial.table l.table
