-- The loop has seen that the reserved numbers below j are 0.
use Rattle.std.proofs.Common.{◌≡◌, refl, sym, ◌∙◌, arith, eq-eqb, ne_eqb}
use Rattle.rules.specs.Sets.{all}
use Rattle.laws.specs.Search.{all_more, all_no}
use Rattle.bytes_list.specs.Layout.{is_zero}
use Rattle.bytes_list.proofs.rest_zero.Goals as goal

pub loop-j-init : goal.loop-j-init
unfolding all
loop-j-init c = refl

pub returns-then-number_at-ne0 : goal.returns-then-number_at-ne0
unfolding is_zero
returns-then-number_at-ne0 c = sym (all_no _ 8 c.loop-j.j (omega arith) (ne_eqb _ 0 (λ e. c.if-number_at-ne0.true (c.number_at.ensures ∙ e))))

pub loop-j-preserved : goal.loop-j-preserved
unfolding is_zero
loop-j-preserved c = all_more _ c.loop-j.j ∙ rw c.loop-j.invariant (eq-eqb _ 0 (sym c.number_at.ensures ∙ c.if-number_at-ne0.false))

pub returns : goal.returns
returns c = let e : c.loop-j.j ≡ 8 = omega arith in sym (rw e at c.loop-j.invariant)
