-- Each of the four is one test; a refusal has passed those before it.
use Rattle.std.proofs.Common.{arith}
use Rattle.rules.specs.Orders.{Listed}
use Rattle.laws.specs.Refusals.{first, none_before}
use Rattle.decide.specs.Decisions.{Gates}
use Rattle.decide.proofs.Passed.{order, p2, p3, p4, held_told}
use Rattle.decide.proofs.enter.Goals as goal

pub returns-then-not-legal : goal.returns-then-not-legal
unfolding Gates
returns-then-not-legal c =
    first (order c.args.chip c.args.table.now c.args.n c.args.held) 1 none_before (c.legal.ensures.no c.if-not-legal.true)

pub returns-then-not-is_table : goal.returns-then-not-is_table
unfolding Gates
returns-then-not-is_table c =
    first _ 2 (p2 c.args.chip c.args.table.now c.args.n c.args.held (c.legal.ensures.yes c.if-not-legal.false)) (c.is_table.ensures.no c.if-not-is_table.true)

pub returns-then-n-lt1 : goal.returns-then-n-lt1
unfolding Gates
returns-then-n-lt1 c =
    first _ 3
    (p3 c.args.chip c.args.table.now c.args.n c.args.held (c.legal.ensures.yes c.if-not-legal.false) (c.is_table.ensures.yes c.if-not-is_table.false))
    λ l. omega (arith, l.some)

pub returns : goal.returns
returns c =
    let listed : Listed c.args.n = record { some = omega arith; most = omega arith } in
    rw c.ok_or.ensures.value
    (held_told c.args.chip c.args.table.now c.args.n c.args.held
    (p4 c.args.chip c.args.table.now c.args.n c.args.held (c.legal.ensures.yes c.if-not-legal.false) (c.is_table.ensures.yes c.if-not-is_table.false) listed))
