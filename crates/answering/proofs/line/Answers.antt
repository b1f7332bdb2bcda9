-- The text, then a line feed.
use Rattle.std.proofs.Common.{arith}
use Rattle.texts.specs.Puts.{puts_length}
use Rattle.answering.specs.Lines.{fed}
use Rattle.answering.proofs.line.Goals as goal

pub put-requires : goal.put-requires
put-requires c =
    let l = c.answer.ensures in
    omega (arith, c.requires.room, l.puts.len, puts_length l.text l.puts (omega (arith, c.requires.room, l.short)), l.short)

pub returns : goal.returns
returns c = fed _ _ _ _ _ _ _ c.answer.ensures c.put.ensures c.requires.room
