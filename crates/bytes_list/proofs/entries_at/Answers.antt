-- The loop has read the entries below i.
use Rattle.std.proofs.Common.{arith}
use Rattle.bytes_list.specs.Reading.{path_is}
use Rattle.bytes_list.proofs.entries_at.Goals as goal

pub returns : goal.returns
returns c = path_is _ _ c.loop-i.invariant.long λ i h. c.loop-i.invariant.read i (omega arith)
