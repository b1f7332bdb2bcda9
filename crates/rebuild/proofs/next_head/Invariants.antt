-- No earlier position has it.
use Rattle.std.proofs.Common.{◌≡◌, ℕ, ◌≤◌, ◌<◌}
use Rattle.line.specs.Tables.{entry}
use Rattle.rebuild.proofs.next_head.Given as goal

abbrev pub invariant-loop-p : goal.invariant-loop-p
invariant-loop-p l = (x : ℕ) → l.from ≤ x → x < l.p → entry l.heads x l.k ≡ l.w → ⊥
