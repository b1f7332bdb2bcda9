-- The numbers of the part are those of the bytes from `at` on.
use Rattle.std.proofs.Common.{◌∙◌}
use Rattle.bytes_list.specs.ReadBack.{formed_part}
use Rattle.bytes_list.proofs.is_record.Goals as goal

pub returns : goal.returns
returns c =
    let cut = (rw c.unwrap-record.ensures at c.as_array.ensures.cases).same in
    c.formed.ensures ∙ formed_part _ _ _ cut
