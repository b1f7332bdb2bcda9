-- The loop has added up the runs that start below slot i.
use Rattle.std.proofs.Common.{◌≡◌, refl, ap, ◌∙◌, arith}
use Rattle.rules.specs.Sets.{sum}
use Rattle.rules.specs.Wheels.{words_at}
use Rattle.laws.specs.Counting.{sum_more}
use Rattle.runs.specs.Steps.{words_at_most}
use Rattle.runs.proofs.words_of_runs.Goals as goal

pub loop-i-init : goal.loop-i-init
unfolding sum
loop-i-init c = (refl, omega arith)

pub overflow_add-total : goal.overflow_add-total
overflow_add-total c =
    omega (arith, c.words_at-total.ensures, words_at_most c.args.w c.requires c.args.x c.loop-i.i)

pub loop-i-preserved : goal.loop-i-preserved
loop-i-preserved c =
    let at = c.loop-i in
    let next = c.words_at-total.ensures in (
      omega (arith, next, at.invariant.0, sum_more (words_at c.args.w c.args.x) at.i),
      omega (arith, next, words_at_most c.args.w c.requires c.args.x at.i),
    )

pub returns : goal.returns
returns c =
    let a = c.args in
    let all : c.loop-i.i ≡ a.w.n = omega arith in
    c.loop-i.invariant.0 ∙ ap (sum (words_at a.w a.x) 0) all
