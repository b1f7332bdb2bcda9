-- The run cannot go on, or what that comes to is compared with the whole.
use Rattle.std.proofs.Common.{◌+◌, ◌-◌, refl, ap, ◌∙◌, ⊎_elim, arith}
use Rattle.line.specs.Values.{P, raised}
use Rattle.line.specs.Tables.{entry}
use Rattle.line.specs.Rebuild.{goes_if, few, short}
use Rattle.rebuild.proofs.goes_on.Goals as goal

pub returns-then-f-period : goal.returns-then-f-period
returns-then-f-period c = ⊎_elim (λ h. few h) (λ h. short (omega arith)) c.then-f-period.either

pub returns : goal.returns
returns c =
    let a = c.args in
    let e = ap (λ w. raised w (entry a.heads.now (a.p + P a.task) (a.k - P a.task))) c.packet_words-words.ensures in
    goes_if _ _ _ _ _ _ (omega arith) (omega arith) (c.raised.ensures ∙ e) _ refl
