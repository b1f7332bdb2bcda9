-- One field: the flow. Anything else: no command.
use Rattle.std.proofs.Common.{arith}
use Rattle.reading.specs.Orders.{closes, closes_not, closes_nothing}
use Rattle.reading.proofs.closing.Goals as goal

pub returns-in_err-fields : goal.returns-in_err-fields
returns-in_err-fields c = rw c.from_residual.ensures (closes_nothing _ c.in_err-fields.ensures)

pub returns-then-branch-lt1 : goal.returns-then-branch-lt1
returns-then-branch-lt1 c = closes_not _ _ c.in_ok-fields.ensures λ e. grind (arith, e)

pub returns-else-this-lt2 : goal.returns-else-this-lt2
returns-else-this-lt2 c = closes_not _ _ c.in_ok-fields.ensures λ e. grind (arith, e)

pub returns : goal.returns
returns c = closes _ _ c.in_ok-fields.ensures (omega arith)
