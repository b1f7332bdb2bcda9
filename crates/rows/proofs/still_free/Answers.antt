-- The slots from s on that stay are in y already, as bits 0, 1, ..; the loop goes down and takes in one slot more.
use Rattle.std.proofs.Common.{refl, false, arith}
use Rattle.std.proofs.Math.Nat.{sub_self}
use Rattle.rules.specs.Sets.{set_of}
use Rattle.rows.specs.Slots.{set_down, set_small_down}
use Rattle.rows.proofs.still_free.Goals as goal

pub loop-s-init : goal.loop-s-init
unfolding set_of
loop-s-init c = rw sub_self

pub overflow_mul-y : goal.overflow_mul-y
overflow_mul-y c =
    let at = c.loop-s in
    omega (arith, set_small_down _ _ at.s at.y (omega arith) (omega arith) at.invariant (omega arith) false 0 refl)

pub overflow_add-y : goal.overflow_add-y
overflow_add-y c =
    let at = c.loop-s in
    omega (arith, set_small_down _ _ at.s at.y (omega arith) (omega arith) at.invariant (omega arith) _ _ c.from.ensures)

pub loop-s-preserved : goal.loop-s-preserved
loop-s-preserved c =
    let at = c.loop-s in
    set_down _ _ at.s at.y (omega arith) (omega arith) at.invariant _ _ c.stays.ensures c.from.ensures
