-- There is room for each record of the list.
use Rattle.std.proofs.Common.{arith}
use Rattle.lent.specs.Lists.{record_room}
use Rattle.lent.proofs.U8FlowList.record.Goals as goal

pub overflow_mul-i : goal.overflow_mul-i
overflow_mul-i c = omega (arith, record_room c.args.list.now c.args.i c.requires)

pub record_at-requires : goal.record_at-requires
record_at-requires c = omega (arith, record_room c.args.list.now c.args.i c.requires)
