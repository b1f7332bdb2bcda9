-- No slot below i is a start.
use Rattle.std.proofs.Common.{◌≡◌, ℕ, ◌≤◌, ◌<◌, true, false, not, sym, ap, ◌∙◌, arith, zero-add}
use Rattle.rules.specs.Wheels.{start}
use Rattle.rules.specs.Best.{smallest_start}
use Rattle.laws.specs.Counting.{stretch_is}
use Rattle.laws.specs.Measured.{measured_good}
use Rattle.starts.proofs.smallest_start.Goals as goal

-- slot i is the smallest start, or there is none
first : (n x i : ℕ) → i ≤ n → ((j : ℕ) → j < i → start n x j ≡ false) → (i < n → start n x i ≡ true) → i ≡ smallest_start n x
unfolding smallest_start
first n x i h none here =
    sym (stretch_is (λ j. not (start n x j)) n 0 i h (λ k l. ap not (ap (start n x) (zero-add k) ∙ none k l))
    (λ l. ap not (ap (start n x) (zero-add i) ∙ here l)))

pub returns-then-is_start : goal.returns-then-is_start
returns-then-is_start c =
    let a = c.args in
    measured_good (c.legal.ensures.yes c.if-not-legal.false)
    (first a.w.n a.x c.loop-i.i (omega arith) c.loop-i.invariant (λ _. sym c.is_start.ensures ∙ c.if-is_start.true))

pub returns : goal.returns
returns c =
    let a = c.args in
    measured_good (c.legal.ensures.yes c.if-not-legal.false)
    (first a.w.n a.x a.w.n (omega arith) (λ j h. c.loop-i.invariant j (omega arith)) (λ h. absurd (omega arith)))
