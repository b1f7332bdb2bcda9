-- The rows of the positions below i hold v where the slots reach them.
use Rattle.std.proofs.Common.{sym, ◌∙◌, arith, below_more}
use Rattle.laws.specs.Logic.{tells_yes, tells_no}
use Rattle.table.specs.Along.{row_room, rows_hold, hold_rows, seen_lent}
use Rattle.table.proofs.holds.Goals as goal

pub cells-row-requires : goal.cells-row-requires
cells-row-requires c = omega (arith, c.channel.ensures, row_room c.requires.walkable c.loop-i.i (omega arith))

pub returns-then-not-row_holds : goal.returns-then-not-row_holds
returns-then-not-row_holds c =
    let at = c.loop-i in
    let a = c.args in
    tells_no
    (λ f.
    (rw c.turn.ensures.wheel at c.row_holds.ensures).no c.if-not-row_holds.true
    (record {
      at = λ u h e.
          seen_lent a.chip a.path.entries at.i _ c.turn.ensures.shift a.table.now _ _ c.cells-row.ensures c.channel.ensures c.requires.legal u
          ∙ hold_rows a.chip a.table.now a.path.entries a.path.len a.x a.v f at.i (omega arith) u h e;
    }))

pub loop-i-preserved : goal.loop-i-preserved
loop-i-preserved c =
    let at = c.loop-i in
    let a = c.args in
    let here = (rw c.turn.ensures.wheel at c.row_holds.ensures).yes c.if-not-row_holds.false in
    below_more _ _ at.invariant
    (λ u h e.
    sym (seen_lent a.chip a.path.entries at.i _ c.turn.ensures.shift a.table.now _ _ c.cells-row.ensures c.channel.ensures c.requires.legal u)
    ∙ here.at u h e)

pub returns : goal.returns
returns c =
    let a = c.args in
    tells_yes (rows_hold a.chip a.table.now a.path.entries a.path.len a.x a.v (λ p h. c.loop-i.invariant p (omega arith)))
