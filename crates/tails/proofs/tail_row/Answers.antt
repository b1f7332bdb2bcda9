-- The tail of no slot goes before the others.
use Rattle.std.proofs.Common.{arith}
use Rattle.line.specs.Rows.{tail_row_done}
use Rattle.tails.proofs.tail_row.Goals as goal

pub returns : goal.returns
returns c = tail_row_done _ _ _ _ _ _ (omega arith) c.tails_more.ensures (omega arith) _ c.wrap.ensures
