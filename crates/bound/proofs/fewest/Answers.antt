-- Fewer than k slots do not deliver the words.
use Rattle.std.proofs.Common.{arith}
use Rattle.optimum.specs.Search.{short_more, short_fewer}
use Rattle.bound.proofs.fewest.Goals as goal

pub loop-k-preserved : goal.loop-k-preserved
loop-k-preserved c = short_more _ _ _ c.loop-k.invariant (λ v z. omega (arith, c.most_words.ensures v z))

pub returns : goal.returns
returns c = short_fewer _ _ _ _ (omega arith) c.loop-k.invariant
