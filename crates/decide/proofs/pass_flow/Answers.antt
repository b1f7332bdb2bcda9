-- 8, on both sides.
use Rattle.std.proofs.Common.{arith}
use Rattle.rules.specs.Orders.{flow_lines}
use Rattle.laws.specs.Refusals.{first, none_before}
use Rattle.ledger.specs.Lines.{listed_passes}
use Rattle.decide.specs.Decisions.{Asks}
use Rattle.decide.proofs.Passed.{outside}
use Rattle.decide.proofs.pass_flow.Goals as goal

pub returns-then-flow-lt1 : goal.returns-then-flow-lt1
unfolding Asks
returns-then-flow-lt1 c = first (flow_lines c.args.n c.args.flow) 8 none_before (outside c.then-flow-lt1.either)

pub returns : goal.returns
unfolding Asks
returns c = listed_passes c.args.n c.args.flow (omega arith) (omega arith)
