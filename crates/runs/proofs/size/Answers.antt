-- The loop has counted the chosen slots below slot i.
use Rattle.std.proofs.Common.{◌≡◌, refl, sym, ap, ◌∙◌, Bool, cond, ℕ, ◌+◌, ◌<◌, arith}
use Rattle.rules.specs.Sets.{sum}
use Rattle.rules.specs.Wheels.{chosen, size}
use Rattle.laws.specs.Counting.{sum_more}
use Rattle.laws.specs.Turns.{chosen_below}
use Rattle.laws.specs.Measured.{measured_good}
use Rattle.runs.proofs.size.Invariants.{counted}
use Rattle.runs.proofs.size.Goals as goal
use Rattle.runs.proofs.size.Goals.{then-has_slot, else-has_slot}

-- one slot more, of which it is known whether it is chosen
one_more : (n x i : ℕ) (b : Bool) → i < n → chosen n x i ≡ b → counted n x (i + 1) ≡ counted n x i + cond b 1 0
one_more n x i b h e = sum_more (λ j. cond (chosen n x j) 1 0) i ∙ ap (λ d. counted n x i + cond d 1 0) e

pub loop-i-init : goal.loop-i-init
unfolding sum
loop-i-init c = (omega arith, refl)

pub loop-i-preserved : goal.loop-i-preserved
loop-i-preserved c =
    let at = c.loop-i in
    let a = c.args in
    let below = c.loop-i-test.true in
    let test = chosen_below a.w.n a.x at.i below ∙ sym c.has_slot.ensures in
    elim c.if-has_slot.branch [
      | then-has_slot w ↦ (omega arith, omega (arith, at.invariant.1, one_more a.w.n a.x at.i _ below (test ∙ w.if-has_slot.true)))
      | else-has_slot w ↦ (omega arith, omega (arith, at.invariant.1, one_more a.w.n a.x at.i _ below (test ∙ w.if-has_slot.false)))
    ]

pub returns : goal.returns
unfolding size
returns c =
    let a = c.args in
    let all : c.loop-i.i ≡ a.w.n = omega arith in
    measured_good (c.legal.ensures.yes c.if-not-legal.false) (c.loop-i.invariant.1 ∙ ap (counted a.w.n a.x) all)
