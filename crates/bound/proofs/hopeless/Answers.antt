-- Fewer slots do not deliver the words, and as many are worth no more.
use Rattle.std.proofs.Common.{not, ap, ◌∙◌, ltb-true, arith}
use Rattle.optimum.specs.Search.{fewest_none, hopeless_none, hopeless_some}
use Rattle.bound.proofs.hopeless.Goals as goal

pub returns-then-is_none : goal.returns-then-is_none
returns-then-is_none c = λ e.
    let worth = c.most_words in
    hopeless_some _ _ _ c.in-Some.found c.in-Some.is (fewest_none _ _ _ _ (c.is_none.ensures ∙ ap not c.if-is_none.true) c.fewest.ensures)
    (λ v z. omega (arith, worth.ensures v z, ltb-true _ _ e))

pub returns-in-None : goal.returns-in-None
returns-in-None c = λ e.
    hopeless_none _ _ _ c.in-None.is (fewest_none _ _ _ _ (c.is_none-in-None.ensures ∙ ap not e) c.fewest-in-None.ensures)
