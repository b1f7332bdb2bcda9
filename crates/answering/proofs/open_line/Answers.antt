-- The call answers for the default wheel and 16 records, and its answer is printed.
use Rattle.std.proofs.Common.{arith}
use Rattle.answering.specs.Lines.{opened, opened_short}
use Rattle.answering.proofs.open_line.Goals as goal

pub put_open-requires : goal.put_open-requires
put_open-requires c =
    let a = c.args in
    let answer = c.open-answer in
    let short = opened_short _ _ _ _ c.requires.sixteen a.flow a.demand a.path answer.result answer.ensures in
    omega (arith, c.requires.room, short)

pub returns : goal.returns
returns c =
    let a = c.args in
    let answer = c.open-answer in
    record {
      answer = answer.result;
      opens = opened _ _ _ _ c.requires.sixteen a.flow a.demand a.path answer.result answer.ensures;
      puts = c.put_open.ensures;
    }
