-- After i positions the cells that the path claims as far as position i hold v, and all others are as before.
use Rattle.std.proofs.Common.{◌≡◌, ◌∙◌, ◌+◌, ◌*◌, ◌≤◌, arith, length, get_or, length-take, length-drop}
use Rattle.ledger.specs.Stamps.{stamp_none}
use Rattle.table.specs.Along.{row_room, mark_turn}
use Rattle.table.proofs.mark.Goals as goal

pub loop-i-init : goal.loop-i-init
loop-i-init c =
    let a = c.args in
    stamp_none a.chip a.path.entries a.x a.v a.table.now

pub loop-i-preserved : goal.loop-i-preserved
loop-i-preserved c =
    let at = c.loop-i in
    let a = c.args in
    let ys = c.mark_row.new.row in
    let room : 64 * get_or a.path.entries at.i 0 + 64 ≤ length at.table = omega (arith, at.invariant.long, row_room c.requires.walkable at.i (omega arith)) in
    let long : length ys ≡ 64 = c.mark_row.auto.row ∙ simp (length-take, length-drop) (omega (arith, c.channel-from.ensures)) in
    mark_turn a.chip a.path.entries a.x a.v a.table.now at.table at.i _ ys c.channel-from.result
    c.turn-turn.ensures.shift at.invariant c.channel-from.ensures room long (rw c.turn-turn.ensures.wheel at c.mark_row.ensures)
