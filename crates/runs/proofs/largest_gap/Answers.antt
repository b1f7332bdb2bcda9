-- The loop has the largest gap after the slots below slot i.
use Rattle.std.proofs.Common.{◌≡◌, refl, sym, ap, ap₂, ◌∙◌, max, arith}
use Rattle.rules.specs.Sets.{most}
use Rattle.rules.specs.Wheels.{gap_at, largest_gap}
use Rattle.laws.specs.Search.{most_more}
use Rattle.laws.specs.Measured.{measured_good}
use Rattle.runs.proofs.largest_gap.Goals as goal

pub loop-i-init : goal.loop-i-init
unfolding most
loop-i-init c = refl

pub loop-i-preserved : goal.loop-i-preserved
loop-i-preserved c =
    let at = c.loop-i in
    let a = c.args in
    c.max-most.ensures ∙ ap₂ max at.invariant c.gap_at.ensures ∙ sym (most_more (gap_at a.w.n a.x) at.i)

pub returns : goal.returns
unfolding largest_gap
returns c =
    let a = c.args in
    let all : c.loop-i.i ≡ a.w.n = omega arith in
    measured_good (c.legal.ensures.yes c.if-not-legal.false) (c.loop-i.invariant ∙ ap (most (gap_at a.w.n a.x)) all)
