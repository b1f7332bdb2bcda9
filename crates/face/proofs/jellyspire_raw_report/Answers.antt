-- The library's answer, which the numbers as given have too.
use Rattle.std.proofs.Common.{subst}
use Rattle.face.specs.Told.{Told}
use Rattle.face.specs.Wide.{report_given}
use Rattle.face.proofs.jellyspire_raw_report.Goals as goal

pub returns : goal.returns
returns c =
    let a = c.args in
    record {
      answer = c.report-a.result;
      promised = report_given _ _ _ _ _ c.wheel_of-w.ensures a.table.now a.list.now c.report-a.result c.report-a.ensures;
      told = subst (λ x. Told x c.tell.result c.args.values.now c.tell.new.values) c.counted.ensures c.tell.ensures;
    }
