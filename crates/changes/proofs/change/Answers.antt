-- By the verb.
use Rattle.std.proofs.Common.{sym, ap, ◌∙◌}
use Rattle.rules.specs.Promises.{change}
use Rattle.changes.proofs.change.Goals as goal

pub returns-in-ToOpen : goal.returns-in-ToOpen
returns-in-ToOpen c =
    let a = c.args in
    c.opening.ensures a.r ∙ sym (ap (λ v. change a.r a.call v a.y) c.in-ToOpen.is)

pub returns-in-ToClose : goal.returns-in-ToClose
returns-in-ToClose c =
    let a = c.args in
    c.closing.ensures a.call a.y ∙ sym (ap (λ v. change a.r a.call v a.y) c.in-ToClose.is)
