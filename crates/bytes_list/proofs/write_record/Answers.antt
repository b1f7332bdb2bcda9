-- The loop has written the numbers below j.
use Rattle.std.proofs.Common.{refl, arith}
use Rattle.bytes_list.specs.Writing.{filled_none, filled_more, filled_all}
use Rattle.bytes_list.proofs.write_record.Goals as goal

pub loop-j-init : goal.loop-j-init
loop-j-init c = filled_none _ _ _

pub loop-j-preserved : goal.loop-j-preserved
loop-j-preserved c =
    let at = c.loop-j in
    rw c.put.ensures (filled_more _ _ _ at.j _ at.invariant (omega arith) (omega arith) _ _ refl c.number_of.ensures)

pub returns : goal.returns
returns c = filled_all _ _ _ c.loop-j.j _ c.loop-j.invariant (omega arith)
