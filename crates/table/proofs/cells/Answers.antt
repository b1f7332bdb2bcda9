-- The 64 cells that stand from byte 64 × c on.
use Rattle.std.proofs.Common.{refl, ap, ◌∙◌, ◌+◌, ◌-◌, ◌*◌, arith, get_or}
use Rattle.ledger.specs.Stamps.{lent_cell}
use Rattle.table.proofs.cells.Goals as goal

pub returns : goal.returns
returns c =
    let t = c.args.table.now in
    let k = c.args.c in
    let lent = rw c.unwrap.ensures at c.as_array.ensures.cases in
    record { at = λ j h. ap (λ r. get_or r j 0) lent.same ∙ lent_cell t (64 * k) (64 * k + 64 - 64 * k) k j refl (omega arith) }
