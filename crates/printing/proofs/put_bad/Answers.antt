-- `line` and the number, then `bad`.
use Rattle.std.proofs.Common.{◌++◌, ℕ, List}
use Rattle.rules.specs.Sets.{list_of}
use Rattle.grammar.specs.Text.{ascii, field}
use Rattle.grammar.specs.Answers.{bad_text}
use Rattle.texts.specs.Puts.{room_first, room_second, puts_then}
use Rattle.printing.proofs.put_bad.Goals as goal

-- the two parts of the text
abbrev front : ℕ → List ℕ
front k = ascii "line" ++ field k

abbrev back : List ℕ
back = ascii " bad"

pub labelled-requires : goal.labelled-requires
unfolding bad_text ascii list_of
labelled-requires c = room_first c.args.page.now (front c.args.k) back c.requires

pub put-requires : goal.put-requires
unfolding bad_text ascii list_of
put-requires c = room_second (front c.args.k) back c.labelled.ensures c.requires

pub returns : goal.returns
unfolding bad_text ascii list_of
returns c = puts_then (front c.args.k) back c.labelled.ensures c.put.ensures c.requires
