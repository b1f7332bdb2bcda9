-- The slots below s are printed.
use Rattle.std.proofs.Common.{arith, ◌≡◌, ◌/◌, ◌%◌, ◌^◌, ◌<◌, eq-eqb, ne_eqb}
use Rattle.rules.specs.Sets.{has, places}
use Rattle.grammar.specs.Text.{fields}
use Rattle.texts.specs.Puts.{puts_nothing}
use Rattle.texts.specs.Slots.{slot_room, slot_yes, slot_no, slots_length}
use Rattle.texts.proofs.Page.slots.Goals as goal
use Rattle.texts.proofs.Page.slots.Goals.{then-chosen, else-chosen}

pub loop-s-init : goal.loop-s-init
unfolding places fields
loop-s-init c = puts_nothing _

pub field-requires : goal.field-requires
unfolding has
field-requires c =
    let at = c.loop-s in
    let f = has c.args.slots in
    let below : at.s < 64 = omega arith in
    let one : c.args.slots / 2 ^ at.s % 2 ≡ 1 = omega arith in
    omega (
      arith,
      at.invariant.len,
      slots_length f at.s (omega arith) c.requires at.invariant,
      slot_room f at.s (eq-eqb _ _ one) below,
      c.requires,
    )

pub loop-s-preserved : goal.loop-s-preserved
unfolding has
loop-s-preserved c =
    let at = c.loop-s in
    let f = has c.args.slots in
    let below : at.s < 64 = omega arith in
    elim c.if-chosen.branch [
      | then-chosen w ↦ rw w.self-is (slot_yes f at.s at.invariant (eq-eqb _ _ w.if-chosen.true) below c.requires w.field.ensures)
      | else-chosen w ↦ rw w.self-is (slot_no f at.s at.invariant (ne_eqb _ _ w.if-chosen.false))
    ]
