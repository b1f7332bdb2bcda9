-- A closing asks nothing here.
use Rattle.std.specs.Prelude.{Ok}
use Rattle.std.proofs.Common.{sym, subst}
use Rattle.rules.specs.Orders.{way_lines}
use Rattle.rules.specs.Numbers.{Passes}
use Rattle.decide.specs.Decisions.{Asks}
use Rattle.decide.proofs.pass_way.Goals as goal

pub returns-in-ToClose : goal.returns-in-ToClose
unfolding Asks Passes
returns-in-ToClose c =
    let a = c.args in
    subst (λ v. Asks (way_lines a.chip a.call v) (Ok tt)) (sym c.in-ToClose.is) tt
