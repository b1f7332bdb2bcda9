-- Field by field.
use Rattle.std.proofs.Common.{◌∙◌}
use Rattle.bytes_list.specs.Reading.{made}
use Rattle.bytes_list.specs.ReadBack.{decoded_part}
use Rattle.bytes_list.proofs.record_at.Goals as goal

pub returns : goal.returns
returns c =
    let cut = (rw c.unwrap-bytes.ensures at c.as_array.ensures.cases).same in
    made _ _ _ _ _ c.state_at.ensures c.entries_at.ensures (c.from.ensures ∙ c.number_at.ensures) c.slots_at.ensures ∙ decoded_part _ _ _ cut
