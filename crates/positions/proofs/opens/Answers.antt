-- The last position is shut, and any other is open if its slot is free.
use Rattle.std.proofs.Common.{sym, ◌∙◌}
use Rattle.std.proofs.lemmas.Bool.{le-ltb}
use Rattle.rules.specs.Wheels.{chosen}
use Rattle.line.specs.Packets.{opens_before, opens_last}
use Rattle.positions.proofs.opens.Goals as goal

pub returns-then-d-n : goal.returns-then-d-n
unfolding chosen
returns-then-d-n c =
    let a = c.args in
    c.has_slot.ensures ∙ sym (opens_before a.cut.task a.cut.start.0 a.d c.if-d-n.true)

pub returns-else-d-n : goal.returns-else-d-n
returns-else-d-n c =
    let a = c.args in
    le-ltb _ _ c.if-d-n.false ∙ sym (opens_last a.cut.task a.cut.start.0 a.d c.if-d-n.false)
