-- Eight bytes are four numbers.
use Rattle.std.proofs.Common.{◌∙◌}
use Rattle.bytes_list.specs.Reading.{slots_bytes}
use Rattle.bytes_list.proofs.slots_at.Goals as goal

pub returns : goal.returns
returns c = c.from_le_bytes.ensures ∙ slots_bytes _ _ (rw c.unwrap.ensures at c.first_chunk.ensures.cases).same
