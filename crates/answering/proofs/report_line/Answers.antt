-- The call answers for the default wheel and 16 records, and its answer is printed.
use Rattle.std.proofs.Common.{arith}
use Rattle.grammar.specs.Short.{report_short}
use Rattle.answering.specs.Lines.{reported}
use Rattle.answering.proofs.report_line.Goals as goal

pub put_report-requires : goal.put_report-requires
put_report-requires c = omega (arith, c.requires.room, report_short c.report-answer.result)

pub returns : goal.returns
returns c =
    let answer = c.report-answer in
    record { answer = answer.result; reports = reported _ _ answer.result c.requires.sixteen answer.ensures; puts = c.put_report.ensures }
