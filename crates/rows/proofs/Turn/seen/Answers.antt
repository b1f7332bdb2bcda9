-- Either the sum is a slot of the wheel already, or it is one turn too large.
use Rattle.std.proofs.Common.{sym, ◌∙◌, arith, mod-eq_of_lt}
use Rattle.std.proofs.Math.Nat.{mod-eq-sub-mod}
use Rattle.rows.specs.Rows.{later}
use Rattle.rows.proofs.Turn.seen.Goals as goal

pub returns-then-j-n : goal.returns-then-j-n
unfolding later
returns-then-j-n c = (sym (mod-eq_of_lt (omega arith)), omega arith)

pub returns-else-j-n : goal.returns-else-j-n
unfolding later
returns-else-j-n c = (sym (mod-eq-sub-mod (omega arith) ∙ mod-eq_of_lt (omega arith)), omega arith)
