-- The verb and the flow, then the rest of the answer.
use Rattle.std.proofs.Common.{◌++◌}
use Rattle.grammar.specs.Text.{field}
use Rattle.texts.specs.Puts.{room_second, puts_then}
use Rattle.printing.specs.Tails.{tail}
use Rattle.printing.proofs.put_answer.Goals as goal

pub put_tail-requires : goal.put_tail-requires
put_tail-requires c =
    let a = c.args in room_second (a.verb.now ++ field a.flow) (tail a.answer) c.labelled.ensures c.requires

pub returns : goal.returns
returns c =
    let a = c.args in puts_then (a.verb.now ++ field a.flow) (tail a.answer) c.labelled.ensures c.put_tail.ensures c.requires
