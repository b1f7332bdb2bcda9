-- After i positions x has the slots that are free as far as position i.
use Rattle.std.proofs.Common.{◌≡◌, ◌∙◌, arith}
use Rattle.table.specs.Along.{row_room, free_start, free_asked, free_end}
use Rattle.table.proofs.free_slots.Goals as goal

pub loop-i-init : goal.loop-i-init
loop-i-init c = c.all_slots-x.ensures ∙ free_start c.args.chip c.args.table.now c.args.path.entries

pub cells-row-requires : goal.cells-row-requires
cells-row-requires c = omega (arith, c.channel.ensures, row_room c.requires.walkable c.loop-i.i (omega arith))

pub loop-i-preserved : goal.loop-i-preserved
loop-i-preserved c =
    let at = c.loop-i in
    rw c.turn.ensures.wheel at c.still_free-x.ensures
    ∙ free_asked c.args.chip c.args.table.now c.args.path.entries _ _ at.i _ at.x c.requires.legal c.turn.ensures.shift at.invariant
    c.cells-row.ensures c.channel.ensures

pub returns : goal.returns
returns c =
    let all : c.loop-i.i ≡ c.args.path.len = omega arith in
    free_end c.args.chip c.args.table.now c.args.path.entries c.args.path.len _ (rw all at c.loop-i.invariant)
