-- The set so far and what is left to add make the greedy choice.
use Rattle.std.proofs.Common.{◌∙◌, arith}
use Rattle.line.specs.Rows.{solved_fewer}
use Rattle.line.specs.Rebuild.{left_some, left_none, due_first}
use Rattle.optimum.specs.Made.{greedy_small}
use Rattle.rebuild.proofs.rebuild.Goals as goal

pub loop-at-init : goal.loop-at-init
loop-at-init c =
    let a = c.args in
    let first = left_some a.cut.task a.cut.start.0 0 a.k (omega arith) in
    (omega arith, omega (arith, first), due_first _ _ _ _ _ _ c.requires.solved a.cut.task.sound.two (omega arith) (omega arith))

pub step-at-requires : goal.step-at-requires
step-at-requires c =
    let a = c.args in
    let at = c.loop-at in
    let small = greedy_small a.cut.task a.cut.task.sound a.cut.start.0 a.cut.inside a.k in
    record {
      room = (omega arith, omega arith, omega (arith, small));
      solved = (solved_fewer _ _ _ _ _ _ at.invariant.0 c.requires.solved, at.invariant.2);
    }

pub loop-at-smaller : goal.loop-at-smaller
loop-at-smaller c = omega (arith, c.step-at.ensures.less)

pub loop-at-preserved : goal.loop-at-preserved
loop-at-preserved c =
    let e = c.step-at.ensures in
    (omega (arith, e.less), e.sum ∙ c.loop-at.invariant.1, e.due)

pub returns : goal.returns
returns c =
    let a = c.args in
    let at = c.loop-at.at in
    omega (arith, left_none a.cut.task a.cut.start.0 at.p at.k (omega arith))
