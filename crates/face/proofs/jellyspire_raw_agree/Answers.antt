-- By the report.
use Rattle.face.specs.Wide.{report_given}
use Rattle.face.specs.Cases.{agree_yes, agree_no}
use Rattle.face.proofs.jellyspire_raw_agree.Goals as goal

pub returns-in-Ok : goal.returns-in-Ok
returns-in-Ok c =
    let a = c.args in
    agree_yes _ _ _ c.report.result
    (report_given _ _ _ _ _ c.wheel_of-w.ensures a.table.now a.list.now c.report.result c.report.ensures) _
    c.in-Ok.is

pub returns-in-Err : goal.returns-in-Err
returns-in-Err c =
    let a = c.args in
    agree_no _ _ _ c.report.result
    (report_given _ _ _ _ _ c.wheel_of-w.ensures a.table.now a.list.now c.report.result c.report.ensures) _ _
    c.in-Err.is c.number_of.ensures
