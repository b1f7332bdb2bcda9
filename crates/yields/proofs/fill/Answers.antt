-- The tables are ready from position p on, where f slots are open.
use Rattle.std.proofs.Common.{◌≡◌, ◌+◌, cond, arith}
use Rattle.line.specs.Rows.{from_none, from_held, from_more}
use Rattle.yields.proofs.fill.Goals as goal
use Rattle.yields.proofs.fill.Goals.{then-opens, else-opens}

pub loop-p-init : goal.loop-p-init
loop-p-init c = from_none _ _ _ _ _ c.args.cut.task.sound.legal.n1

pub head_row-requires-clause-held : goal.head_row-requires-clause-held
head_row-requires-clause-held c =
    let at = c.loop-p in
    let grown : c.if-opens.f ≡ cond c.opens.result (at.f + 1) 0 =
    elim c.if-opens.branch [ then-opens w ↦ rw w.if-opens.true w.f-is | else-opens w ↦ rw w.if-opens.false w.f-is ] in
    from_held _ c.args.cut.task.sound _ _ _ _ _ _ _ _ _ (omega arith) (omega arith) at.invariant c.opens.ensures grown c.tail_row.ensures

pub loop-p-preserved : goal.loop-p-preserved
loop-p-preserved c =
    let at = c.loop-p in
    let grown : c.if-opens.f ≡ cond c.opens.result (at.f + 1) 0 =
    elim c.if-opens.branch [ then-opens w ↦ rw w.if-opens.true w.f-is | else-opens w ↦ rw w.if-opens.false w.f-is ] in
    from_more _ c.args.cut.task.sound _ _ _ _ _ _ _ _ _ (omega arith) (omega arith) at.invariant c.opens.ensures grown c.tail_row.ensures _
    c.head_row.ensures
