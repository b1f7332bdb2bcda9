-- The records below f are in order, and claim so many cells.
use Rattle.agree.specs.Checks.{Checks}
use Rattle.agree.proofs.held.Given as goal

abbrev pub invariant-loop-f : goal.invariant-loop-f
invariant-loop-f g l = Checks l.chip l.table (g.T.FlowList.records l.list) l.f l.held
