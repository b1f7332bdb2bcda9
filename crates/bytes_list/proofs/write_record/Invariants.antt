-- The loop has written the numbers below j.
use Rattle.bytes_list.specs.Writing.{Filled}
use Rattle.bytes_list.proofs.write_record.Given as goal

abbrev pub invariant-loop-j : goal.invariant-loop-j
invariant-loop-j l = Filled l.initial.list l.at l.r l.j l.list
