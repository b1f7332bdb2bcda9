-- Fewer than k slots do not deliver the words.
use Rattle.optimum.specs.Search.{Short}
use Rattle.bound.proofs.fewest.Given as goal

abbrev pub invariant-loop-k : goal.invariant-loop-k
invariant-loop-k l = Short l.task l.f l.k
