-- Too few fields, or something else than fields: no command. Otherwise the fields are the flow, W, D and the channels.
use Rattle.std.proofs.Common.{◌∙◌, ap}
use Rattle.reading.specs.Meaning.{path}
use Rattle.reading.specs.Breaks.{take_rest}
use Rattle.reading.specs.Orders.{opens, opens_not, opens_nothing}
use Rattle.reading.proofs.opening.Goals as goal

pub returns-in_err-fields : goal.returns-in_err-fields
returns-in_err-fields c = rw c.from_residual.ensures (opens_nothing _ c.in_err-fields.ensures)

pub returns-in_default : goal.returns-in_default
returns-in_default c = opens_not _ _ c.in_ok-fields.ensures c.in_default.len_below

pub returns : goal.returns
returns c =
    opens _ _ _ c.in_ok-fields.ensures c.in-len3-up.len_at_least
    (c.path_of.ensures ∙ ap path (take_rest 3 c.in_ok-fields.field-0.now))
