-- The loop has added up the runs that start below slot i.
use Rattle.std.proofs.Common.{◌≡◌, ◌*◌, ◌≤◌}
use Rattle.rules.specs.Sets.{sum}
use Rattle.rules.specs.Wheels.{words_at}
use Rattle.runs.proofs.words_of_runs.Given as goal

abbrev pub invariant-loop-i : goal.invariant-loop-i
invariant-loop-i l = (l.total ≡ sum (words_at l.w l.x) 0 l.i) × (l.total ≤ 4096 * l.i)
