-- The loop has counted the cells that it has seen and that are not 0.
use Rattle.std.proofs.Common.{◌≡◌, refl, ap, ◌∙◌, ℕ, cond, arith, length, get_or, eq-eqb, ne_eqb}
use Rattle.rules.specs.Sets.{sum}
use Rattle.laws.specs.Counting.{sum_more}
use Rattle.ledger.specs.Totals.{used, used_cells}
use Rattle.table.proofs.count_used.Goals as goal
use Rattle.table.proofs.count_used.Invariants.{counted}

used_none : (v : ℕ) → v ≡ 0 → used v ≡ 0
used_none v e = ap (λ b. cond b 0 1) (eq-eqb v 0 e)

used_one : (v : ℕ) → ¬ (v ≡ 0) → used v ≡ 1
used_one v e = ap (λ b. cond b 0 1) (ne_eqb v 0 e)

pub loop-cell-init : goal.loop-cell-init
unfolding sum
loop-cell-init c = record { few = omega arith; so_far = refl }

pub loop-cell-preserved : goal.loop-cell-preserved
loop-cell-preserved c =
    let at = c.loop-cell in
    let i = at.cell-index in
    let t = c.args.table.now in
    grind (arith, at.invariant.few, at.invariant.so_far, sum_more (λ j. used (get_or t j 0)) i, used_none (get_or t i 0), used_one (get_or t i 0))

pub returns : goal.returns
unfolding used_cells
returns c =
    let t = c.args.table.now in
    let all : c.loop-cell.cell-index ≡ length t = omega arith in
    c.loop-cell.invariant.so_far ∙ ap (counted t) all
