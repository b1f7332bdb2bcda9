-- The best of the starts before this one is known.
use Rattle.optimum.specs.Search.{Sofar}
use Rattle.engine.proofs.search.Given as goal

abbrev pub invariant-loop-start : goal.invariant-loop-start
invariant-loop-start l = Sofar l.task l.start l.best
