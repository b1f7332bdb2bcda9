-- The loop has counted the chosen slots below slot i.
use Rattle.std.proofs.Common.{◌≡◌, cond, ℕ, ◌≤◌}
use Rattle.rules.specs.Sets.{sum}
use Rattle.rules.specs.Wheels.{chosen}
use Rattle.runs.proofs.size.Given as goal

abbrev pub counted : ℕ → ℕ → ℕ → ℕ
counted n x i = sum (λ j. cond (chosen n x j) 1 0) 0 i

abbrev pub invariant-loop-i : goal.invariant-loop-i
invariant-loop-i l = (l.count ≤ l.i) × (l.count ≡ counted l.n l.x l.i)
