-- 5, 6 and 7 are tests, each behind those before it.
use Rattle.std.proofs.Common.{arith}
use Rattle.std.proofs.Common.{List, ◌≤◌}
use Rattle.rules.specs.declared.Chip.{Chip}
use Rattle.rules.specs.declared.Path.{Path}
use Rattle.rules.specs.Paths.{Inside}
use Rattle.rules.specs.Numbers.{Line, Passes}
use Rattle.rules.specs.Orders.{path_lines}
use Rattle.laws.specs.Refusals.{before, first, more, none_before}
use Rattle.decide.specs.Decisions.{Asks}
use Rattle.decide.specs.Behind.{neither_of}
use Rattle.decide.proofs.Passed.{outside}
use Rattle.decide.proofs.pass_path.Goals as goal

abbrev order : Chip → Path → List Line
order chip path = path_lines chip path.entries path.len

module _ (chip : Chip) (path : Path) (some : 1 ≤ path.len) (fits : path.len ≤ 16) where
  p6 : Passes (before (order chip path) 6)
  p6 = more (order chip path) 5 none_before (neither_of (λ e. omega (arith, e)) (λ l. omega (arith, l)))

  p7 : Inside chip.channels path.entries path.len → Passes (before (order chip path) 7)
  p7 inside = more (order chip path) 6 p6 (λ no. no inside)

pub returns-then-path-lt1 : goal.returns-then-path-lt1
unfolding Asks
returns-then-path-lt1 c = first (order c.args.chip c.args.path) 5 none_before (outside c.then-path-lt1.either)

pub returns-then-not-inside : goal.returns-then-not-inside
unfolding Asks
returns-then-not-inside c = first _ 6 (p6 c.args.chip c.args.path (omega arith) (omega arith)) (c.inside.ensures.no c.if-not-inside.true)

pub returns-then-not-once : goal.returns-then-not-once
unfolding Asks
returns-then-not-once c =
    first _ 7 (p7 c.args.chip c.args.path (omega arith) (omega arith) (c.inside.ensures.yes c.if-not-inside.false)) (c.once.ensures.no c.if-not-once.true)

pub returns : goal.returns
unfolding Asks
returns c =
    more (order c.args.chip c.args.path) 7
    (p7 c.args.chip c.args.path (omega arith) (omega arith) (c.inside.ensures.yes c.if-not-inside.false))
    (λ no. no (c.once.ensures.yes c.if-not-once.false))
