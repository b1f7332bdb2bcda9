-- Each turn answers one line.
use Rattle.std.proofs.Common.{arith}
use Rattle.listing.specs.Runs.{going_start, line_room, going_on, going_end}
use Rattle.listing.proofs.run.Goals as goal

pub loop-line-init : goal.loop-line-init
loop-line-init c = going_start _ _ _ c.requires

pub line-requires : goal.line-requires
line-requires c = (omega arith, line_room _ _ _ c.requires _ _ _ _ c.loop-line.invariant (omega (arith, c.in-Some.ensures.on)))

pub overflow_add-k : goal.overflow_add-k
overflow_add-k c = omega (arith, c.loop-line.invariant.count, c.requires.small)

pub loop-line-preserved : goal.loop-line-preserved
loop-line-preserved c =
    going_on _ _ _ c.requires _ _ _ _ c.loop-line.invariant _ _ _ _ c.in-Some.ensures c.line.ensures

pub returns : goal.returns
returns c = going_end _ _ _ c.requires _ _ _ _ c.loop-line.invariant c.in_default.ensures
