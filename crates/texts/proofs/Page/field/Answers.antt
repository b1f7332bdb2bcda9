-- A space, then the number.
use Rattle.std.proofs.Common.{[], ◌∷◌}
use Rattle.grammar.specs.Text.{decimal, field}
use Rattle.texts.specs.Puts.{room_first, room_second, puts_then}
use Rattle.texts.proofs.Page.field.Goals as goal

pub put-requires : goal.put-requires
unfolding field
put-requires c = room_first c.args.self.now (32 ∷ []) (decimal c.args.n) c.requires

pub number-requires : goal.number-requires
unfolding field
number-requires c = room_second (32 ∷ []) (decimal c.args.n) c.put.ensures c.requires

pub returns : goal.returns
unfolding field
returns c = puts_then (32 ∷ []) (decimal c.args.n) c.put.ensures c.number.ensures c.requires
