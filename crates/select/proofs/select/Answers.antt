-- What passes all lines of the order is a demand that the free slots meet as a whole.
use Rattle.std.proofs.Common.{arith}
use Rattle.select.specs.Verdicts.{Posed, meetable}
use Rattle.select.proofs.select.Goals as goal

pub best-requires : goal.best-requires
best-requires c =
    let a = c.args in
    let posed : Posed a.w a.free a.words.0 a.limit =
    record {
      legal = c.legal.ensures.yes c.if-not-legal.false;
      fit = c.below.ensures.yes c.if-not-below.false;
      some = c.if-words-eq0.false;
      time = c.if-limit-eq0.false;
    } in
    meetable _ _ _ _ posed (omega (arith, c.words.ensures.good posed.legal)) (omega (arith, c.largest_gap.ensures.good posed.legal))
