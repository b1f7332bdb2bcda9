-- The test of the slot is the test of the next place of the stretch.
use Rattle.std.proofs.Common.{◌≡◌, ◌∙◌, ◌+◌, arith}
use Rattle.rules.specs.Wheels.{chosen}
use Rattle.laws.specs.Counting.{walk_on, walk_stop, walk_end}
use Rattle.runs.specs.Steps.{tested, next_turn}
use Rattle.runs.proofs.stretch.Goals as goal

pub returns-then-not-has_slot-clause-counted : goal.returns-then-not-has_slot-clause-counted
returns-then-not-has_slot-clause-counted c =
    let at = c.loop-count in
    let a = c.args in
    walk_stop (chosen a.n a.x) a.limit at.count (a.from + at.count) _ at.invariant.0
    (tested a.n a.x (a.from + at.count) _ _ at.invariant.1 c.has_slot.ensures ∙ c.if-not-has_slot.true)

pub loop-count-preserved : goal.loop-count-preserved
loop-count-preserved c =
    let at = c.loop-count in
    let a = c.args in
    let next : a.from + at.count + 1 ≡ a.from + (at.count + 1) = omega arith in
    let here = tested a.n a.x (a.from + at.count) _ _ at.invariant.1 c.has_slot.ensures in
    rw (← next) (
      walk_on (chosen a.n a.x) a.limit at.count (a.from + at.count) _ at.invariant.0 c.loop-count-test.true (here ∙ c.if-not-has_slot.false),
      next_turn (a.from + at.count) a.n at.slot c.after-slot.result at.invariant.1 c.after-slot.ensures.next,
      c.after-slot.ensures.below,
    )

pub returns-clause-counted : goal.returns-clause-counted
returns-clause-counted c =
    let at = c.loop-count in
    let a = c.args in
    let all : a.limit ≡ at.count = omega arith in
    all ∙ walk_end (chosen a.n a.x) a.limit at.count (a.from + at.count) _ at.invariant.0 c.loop-count-test.false
