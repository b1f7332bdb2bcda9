-- The tables are ready from position p on, where f slots are open.
use Rattle.line.specs.Rows.{SolvedFrom}
use Rattle.yields.proofs.fill.Given as goal

abbrev pub invariant-loop-p : goal.invariant-loop-p
invariant-loop-p l = SolvedFrom l.cut.task l.cut.start.0 l.cap l.p l.f l.tables.heads l.tables.tails
