-- The loop has counted the cells that it has seen and that are not 0.
use Rattle.std.proofs.Common.{◌≡◌, List, ℕ, ◌≤◌, get_or}
use Rattle.rules.specs.Sets.{sum}
use Rattle.ledger.specs.Totals.{used}
use Rattle.table.proofs.count_used.Given as goal

abbrev pub counted : List ℕ → ℕ → ℕ
counted t i = sum (λ j. used (get_or t j 0)) 0 i

abbrev pub invariant-loop-cell : goal.invariant-loop-cell
invariant-loop-cell l = record { few : l.count ≤ l.cell-index; so_far : l.count ≡ counted l.table l.cell-index }
