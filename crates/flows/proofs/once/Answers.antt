-- The loop has seen that no entry before k stands twice.
use Rattle.std.proofs.Common.{arith, below_more}
use Rattle.laws.specs.Logic.{tells_yes}
use Rattle.flows.proofs.once.Goals as goal

pub loop-k-preserved : goal.loop-k-preserved
loop-k-preserved c = below_more _ _ c.loop-k.invariant (c.fresh.ensures.yes c.if-not-fresh.false)

pub returns : goal.returns
returns c = tells_yes (record { at = λ i k h l. (c.loop-k.invariant k (omega arith)).at i h })
