-- The loop has written v into the cells that the slots below s reach, and into no other.
use Rattle.std.proofs.Common.{refl, sym, ap, ◌∙◌, arith, get_or}
use Rattle.rules.specs.Sets.{any}
use Rattle.rows.specs.Rows.{hits, mark_skip, mark_slot}
use Rattle.rows.proofs.mark_row.Goals as goal
use Rattle.rows.proofs.mark_row.Goals.{then-has_slot, else-has_slot}

pub loop-s-init : goal.loop-s-init
unfolding hits any
loop-s-init c = λ j h. refl

pub loop-s-preserved : goal.loop-s-preserved
loop-s-preserved c =
    let at = c.loop-s in
    let present = c.has_slot.ensures in
    elim c.if-has_slot.branch [
      | then-has_slot w ↦ λ j h.
          ap (λ l. get_or l j 0) w.row-is
          ∙ mark_slot _ _ _ _ at.row _ _ _ (at.invariant j h) _ (sym present ∙ w.if-has_slot.true) w.seen-at.ensures.0 (omega arith)
      | else-has_slot w ↦ λ j h.
          ap (λ l. get_or l j 0) w.row-is ∙ mark_skip _ _ _ _ at.row _ _ _ (at.invariant j h) (sym present ∙ w.if-has_slot.false)
    ]
