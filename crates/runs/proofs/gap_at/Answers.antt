-- The gap is one more than the stretch of slots that are not chosen and begins after slot i.
use Rattle.std.proofs.Common.{ap, ◌∙◌, suc, ◌-◌}
use Rattle.std.proofs.Math.Numerals.{one-add}
use Rattle.rules.specs.Wheels.{gap, gap_at}
use Rattle.laws.specs.Turns.{chosen_below}
use Rattle.runs.specs.Steps.{gap_stretch}
use Rattle.runs.proofs.gap_at.Goals as goal

pub returns-then-has_slot : goal.returns-then-has_slot
unfolding gap_at gap
returns-then-has_slot c =
    let a = c.args in
    rw (chosen_below a.n a.x a.i c.requires.1, ← c.has_slot.ensures, c.if-has_slot.true)
    (one-add _ ∙ ap suc (c.stretch.ensures.counted
    ∙ gap_stretch a.n a.x a.i (a.n - 1) _ c.ranges.x.fits c.requires.1 c.requires.0 c.after.ensures.next))

pub returns-else-has_slot : goal.returns-else-has_slot
unfolding gap_at
returns-else-has_slot c =
    let a = c.args in
    rw (chosen_below a.n a.x a.i c.requires.1, ← c.has_slot.ensures, c.if-has_slot.false)
