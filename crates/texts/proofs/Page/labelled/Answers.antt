-- The word, then the field.
use Rattle.grammar.specs.Text.{field}
use Rattle.texts.specs.Puts.{room_second, puts_then}
use Rattle.texts.proofs.Page.labelled.Goals as goal

pub field-requires : goal.field-requires
field-requires c = room_second c.args.label.now (field c.args.n) c.put.ensures c.requires

pub returns : goal.returns
returns c = puts_then c.args.label.now (field c.args.n) c.put.ensures c.field.ensures c.requires
