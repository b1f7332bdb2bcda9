-- Where the rest is hopeless, or enough starts were tried, the best of the starts so far is the best of all.
use Rattle.std.proofs.Common.{◌≡◌, refl, arith}
use Rattle.optimum.specs.Search.{sofar_none, hopeless_none, all_hopeless}
use Rattle.engine.proofs.search.Goals as goal

pub returns-in_err-least : goal.returns-in_err-least
returns-in_err-least c =
    let t = c.args.task in
    rw c.from_residual.ensures (all_hopeless t t.sound 0 _ (sofar_none t) (omega arith) (hopeless_none _ _ _ refl c.in_err-least.ensures))

pub returns-then-hopeless : goal.returns-then-hopeless
returns-then-hopeless c =
    all_hopeless _ c.args.task.sound _ _ c.loop-start.invariant (omega (arith, c.enough-start-end.ensures.range))
    (c.hopeless.ensures c.if-hopeless.true)

pub returns : goal.returns
returns c =
    let all : c.loop-start.start ≡ c.enough-start-end.result = omega arith in
    c.enough-start-end.ensures.all _ (rw all at c.loop-start.invariant)
