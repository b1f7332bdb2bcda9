-- The call answers for the default wheel and 16 records, and its answer is printed.
use Rattle.std.proofs.Common.{arith}
use Rattle.grammar.specs.Short.{close_short}
use Rattle.answering.specs.Lines.{closed}
use Rattle.answering.proofs.close_line.Goals as goal

pub put_close-requires : goal.put_close-requires
put_close-requires c = omega (arith, c.requires.room, close_short c.args.flow c.close-answer.result)

pub returns : goal.returns
returns c =
    let answer = c.close-answer in
    record {
      answer = answer.result;
      closes = closed _ _ _ _ c.requires.sixteen c.args.flow answer.result answer.ensures;
      puts = c.put_close.ensures;
    }
