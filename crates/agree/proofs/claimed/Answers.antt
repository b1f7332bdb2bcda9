-- One record: not its own rules; not its own cells; in order, with its cells counted.
use Rattle.std.proofs.Common.{arith}
use Rattle.rules.specs.Flows.{Own}
use Rattle.ledger.specs.Totals.{cells_most}
use Rattle.table.specs.Along.{Walkable, own_walkable}
use Rattle.agree.specs.OneRecord.{held_ordered, ordered_held}
use Rattle.agree.proofs.claimed.Goals.{After-own, Else-not-own}
use Rattle.agree.proofs.claimed.Goals as goal

own : (c : Else-not-own) → Own c.args.chip c.args.r.state c.args.r
own c = c.own.ensures.yes c.if-not-own.false

walkable : (c : Else-not-own) → Walkable c.args.chip c.args.table.now c.args.r.path.entries c.args.r.path.len
walkable c = own_walkable _ _ _ _ (own c) c.requires.ready.1

pub holds-requires-clause-walkable : goal.holds-requires-clause-walkable
holds-requires-clause-walkable c = walkable (goal.at.holds-requires-clause-walkable c).Else-not-own

pub returns-then-not-holds : goal.returns-then-not-holds
returns-then-not-holds c = λ o.
    c.holds.ensures.no c.if-not-holds.true (ordered_held _ _ _ _ (own (goal.at.returns-then-not-holds c).Else-not-own) o)

pub cells_of-requires-clause-len_bound : goal.cells_of-requires-clause-len_bound
cells_of-requires-clause-len_bound c = (walkable (goal.at.cells_of-requires-clause-len_bound c).Else-not-own).fits

pub returns : goal.returns
returns c =
    let at = (goal.at.returns c).Else-not-own in
    record {
      ordered = held_ordered _ _ _ _ (own at) (c.holds.ensures.yes c.if-not-holds.false);
      cells = c.cells_of.ensures;
      few = omega (arith, c.cells_of.ensures, cells_most c.args.chip.wheel c.args.r c.requires.ready.0.n64 (walkable at).fits);
    }
