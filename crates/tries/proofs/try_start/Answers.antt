-- Each way out is a case of one start more: it is shut, hopeless, not worth enough, not worth more, or better.
use Rattle.std.proofs.Common.{◌≡◌, ◌+◌, refl, ap, ◌∙◌, arith}
use Rattle.line.specs.Packets.{opens}
use Rattle.optimum.specs.Search.{sofar_range, cap_range, short_run, start_shut, start_hopeless, start_some, start_new}
use Rattle.tries.proofs.try_start.Goals.{then-f-eq0-via-then-f-eq0, then-f-eq0-via-else-f-eq0+then-hopeless}
use Rattle.tries.proofs.try_start.Goals as goal

pub hopeless-requires : goal.hopeless-requires
hopeless-requires c = (sofar_range _ _ _ c.requires.1, short_run _ c.args.cut.task.sound _ _ c.requires.0)

pub returns-then-f-eq0 : goal.returns-then-f-eq0
returns-then-f-eq0 c =
    let cut = c.args.cut in
    let run = c.free_run-f.ensures.1 in
    elim c.then-f-eq0.branch [
      | then-f-eq0-via-then-f-eq0 w ↦
          let none : 0 ≡ 0 + c.free_run-f.result = omega arith in
          start_shut _ cut.task.sound _ _ c.requires.1 (ap (opens cut.task cut.start.0) none ∙ run.stop)
      | then-f-eq0-via-else-f-eq0+then-hopeless w ↦
          start_hopeless _ cut.task.sound _ _ c.requires.1 _ (omega arith) run (w.hopeless.ensures w.if-hopeless.true)
    ]

pub rebuild-requires-clause-some : goal.rebuild-requires-clause-some
rebuild-requires-clause-some c =
    let good = c.args.cut.task.sound in
    let weighed = c.in-Some.ensures in (
      start_some _ good _ _ c.requires.1 _ _ _ c.cap.ensures _ weighed,
      omega (arith, c.cap.ensures, cap_range _ _ _ c.requires.1 good.legal.n1, good.legal.n64),
      omega (arith, weighed.0.2),
    )

pub returns : goal.returns
returns c =
    let better = c.improves.ensures.yes c.if-not-improves.false in
    start_new _ c.args.cut.task.sound _ _ c.requires.1 _ _ _ c.cap.ensures _ c.in-Some.ensures _ better refl refl refl c.rebuild.ensures
