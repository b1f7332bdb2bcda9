-- There is room for each record of the list, and a record that fits is short enough.
use Rattle.std.proofs.Common.{arith}
use Rattle.lent.specs.Lists.{record_room}
use Rattle.lent.proofs.U8FlowList.put.Goals as goal

pub overflow_mul-i : goal.overflow_mul-i
overflow_mul-i c = omega (arith, record_room c.args.list.now c.args.i c.requires.inside)

pub write_record-requires : goal.write_record-requires
write_record-requires c = (omega (arith, record_room c.args.list.now c.args.i c.requires.inside), c.requires.fits.len)
