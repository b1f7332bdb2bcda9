-- The closing of a closed flow.
use Rattle.std.proofs.Common.{◌∙◌, ap}
use Rattle.rules.specs.Orders.{closing}
use Rattle.rules.specs.declared.Verb.TheVariants.{ToClose}
use Rattle.rules.specs.declared.Yes.TheVariants.{Cells}
use Rattle.rules.specs.Promises.{closed_record, change}
use Rattle.changes.proofs.no_change.Goals as goal

pub returns : goal.returns
unfolding closed_record
returns c =
    let none = Cells 0 in
    c.closing.ensures (closing 0) none ∙ ap (λ r. change r (closing 0) ToClose none) c.closed_record.ensures
