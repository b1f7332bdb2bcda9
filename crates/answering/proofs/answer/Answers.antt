-- What the line means decides which of the four is done.
use Rattle.std.proofs.Common.{arith, None}
use Rattle.grammar.specs.Short.{bad_short}
use Rattle.reading.specs.Told.{told}
use Rattle.answering.specs.Lines.{lined_open, lined_close, lined_report, lined_bad}
use Rattle.answering.proofs.answer.Goals as goal

pub put_bad-requires : goal.put_bad-requires
put_bad-requires c = omega (arith, c.requires.room, bad_short c.args.k c.requires.number)

pub returns-in-Some-Open : goal.returns-in-Some-Open
returns-in-Some-Open c =
    let case = c.in-Some-Open in
    let means = rw case.field-0-is at case.ensures in
    lined_open _ _ case.flow case.demand case.path _ _ _ _ (told _ _ means) (rw c.from.ensures at c.open_line.ensures)

pub returns-in-Some-Close : goal.returns-in-Some-Close
returns-in-Some-Close c =
    let case = c.in-Some-Close in
    let means = rw case.field-0-is at case.ensures in
    lined_close _ _ case.flow _ _ _ _ (told _ _ means) (rw c.from-in-Some-Close.ensures at c.close_line.ensures)

pub returns-in-Some-Report : goal.returns-in-Some-Report
returns-in-Some-Report c =
    let case = c.in-Some-Report in
    let means = rw case.field-0-is at case.ensures in
    lined_report _ _ _ _ _ (told _ _ means) c.report_line.ensures

pub returns-in-None : goal.returns-in-None
returns-in-None c = lined_bad _ _ _ _ _ c.requires.number (told _ None c.in-None.ensures) c.put_bad.ensures
