-- The loop reads one field a turn.
use Rattle.std.proofs.Common.{arith}
use Rattle.decimals.specs.Columns.{going_start, going_on, too_many, no_space, not_numbered}
use Rattle.decimals.proofs.fields.Goals as goal

pub loop-first-init : goal.loop-first-init
loop-first-init c = going_start _ _ (omega arith)

pub returns-then-first-ne-SPACE : goal.returns-then-first-ne-SPACE
returns-then-first-ne-SPACE c =
    no_space _ _ _ _ c.loop-first.invariant _ _ c.in-Some.ensures.cases.0 c.if-first-ne-SPACE.true

pub returns-then-full : goal.returns-then-full
returns-then-full c = too_many _ _ _ _ c.loop-first.invariant _ _ c.in-Some.ensures.cases.0 c.if-full.true

pub returns-in_err-value : goal.returns-in_err-value
returns-in_err-value c =
    rw c.from_residual.ensures (not_numbered _ _ _ _ c.loop-first.invariant _ _ c.in-Some.ensures.cases.0 c.in_err-value.ensures)

pub loop-first-preserved : goal.loop-first-preserved
loop-first-preserved c =
    going_on _ _ _ _ c.loop-first.invariant _ _ c.in-Some.ensures.cases.0 _ _ c.if-first-ne-SPACE.false c.in_ok-value.ensures
    (omega (arith, c.loop-first.invariant.most))
