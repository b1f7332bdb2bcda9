-- The last position is shut.
use Rattle.std.proofs.Common.{◌+◌, ◌-◌, arith}
use Rattle.line.specs.Packets.{opens_last}
use Rattle.positions.proofs.free_run.Goals as goal

pub returns : goal.returns
returns c =
    let a = c.args in
    let rest = a.cut.task.wheel.n - 1 - a.p in
    (omega arith, record { clear = λ i h. c.loop-f.invariant i (omega arith); stop = opens_last a.cut.task a.cut.start.0 (a.p + rest) (omega arith) })
