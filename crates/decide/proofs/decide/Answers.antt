-- Part by part of the order: what refuses a part refuses the whole, and what settles the last part settles the whole.
use Rattle.std.proofs.Common.{◌≡◌, sym, subst, false, is_some}
use Rattle.std.proofs.lemmas.Result.{err_from_is_err_and}
use Rattle.rules.specs.Numbers.{Passes}
use Rattle.rules.specs.Orders.{Ready, checked, way_lines, flow_lines, state_lines}
use Rattle.laws.specs.Logic.{not_false_true}
use Rattle.laws.specs.Refusals.{passed}
use Rattle.ledger.specs.Lines.{checked_ready}
use Rattle.table.specs.Along.{own_walkable}
use Rattle.decide.specs.Decisions.{Gates, Asks, Settles}
use Rattle.decide.specs.Behind.{through, refused_gate, refused_way, refused_flow, settled_behind, way_walkable}
use Rattle.decide.proofs.decide.Goals.{In_ok-enter, In_ok-pass_way, In_ok-pass_flow}
use Rattle.decide.proofs.decide.Goals as goal

-- what has passed after each part
gate : (c : In_ok-enter) → Passes (checked c.args.chip c.args.table.now c.args.n (is_some c.args.held ≡ false))
gate c = through c.args.chip c.args.table.now c.args.n c.args.held _ c.in_ok-enter.ensures

way : (c : In_ok-pass_way) → Passes (way_lines c.args.chip c.args.call c.args.call.verb)
unfolding Asks
way c = c.in_ok-pass_way.ensures

flow : (c : In_ok-pass_flow) → Passes (flow_lines c.args.n c.args.call.flow)
unfolding Asks
flow c = c.in_ok-pass_flow.ensures

ready : (c : In_ok-enter) → Ready c.args.chip c.args.table.now c.args.n
ready c = checked_ready c.args.chip c.args.table.now c.args.n _ (gate c)

pub returns-in_err-enter : goal.returns-in_err-enter
unfolding Gates Settles
returns-in_err-enter c =
    let a = c.args in
    let p = err_from_is_err_and c.from_residual.result c.from_residual.ensures.1 in
    rw (p.1, p.2) (refused_gate a.chip a.table.now a.n _ a.r a.call a.call.verb _ c.in_err-enter.ensures)

pub returns-in_err-pass_way : goal.returns-in_err-pass_way
unfolding Asks Settles
returns-in_err-pass_way c =
    let a = c.args in
    let at = goal.at.returns-in_err-pass_way c in
    let p = err_from_is_err_and c.from_residual-in_err-pass_way.result c.from_residual-in_err-pass_way.ensures.1 in
    rw (p.1, p.2) (refused_way a.chip a.table.now a.n _ a.r a.call a.call.verb (gate at.In_ok-enter) _ c.in_err-pass_way.ensures)

pub returns-in_err-pass_flow : goal.returns-in_err-pass_flow
unfolding Asks Settles
returns-in_err-pass_flow c =
    let a = c.args in
    let at = goal.at.returns-in_err-pass_flow c in
    let p = err_from_is_err_and c.from_residual-in_err-pass_flow.result c.from_residual-in_err-pass_flow.ensures.1 in
    rw (p.1, p.2)
    (refused_flow a.chip a.table.now a.n _ a.r a.call a.call.verb (gate at.In_ok-enter) (way at.In_ok-pass_way) _ c.in_err-pass_flow.ensures)

pub decide_opening-requires-clause-legal : goal.decide_opening-requires-clause-legal
decide_opening-requires-clause-legal c = (ready (goal.at.decide_opening-requires-clause-legal c).In_ok-enter).legal

pub decide_opening-requires-clause-walkable : goal.decide_opening-requires-clause-walkable
decide_opening-requires-clause-walkable c =
    let at = goal.at.decide_opening-requires-clause-walkable c in
    way_walkable c.args.chip c.args.table.now c.args.call _ _ c.in-ToOpen.is (way at.In_ok-pass_way) (ready at.In_ok-enter).tabled

pub decide_closing-requires : goal.decide_closing-requires
decide_closing-requires c =
    let a = c.args in
    let at = goal.at.decide_closing-requires c in
    let agrees = not_false_true (is_some a.held) (passed (checked a.chip a.table.now a.n (is_some a.held ≡ false)) 4 (gate at.In_ok-enter)) in
    ((ready at.In_ok-enter).legal, (own_walkable _ _ _ _ (c.requires agrees) (ready at.In_ok-enter).tabled).fits)

pub returns-in-ToOpen : goal.returns-in-ToOpen
returns-in-ToOpen c =
    let a = c.args in
    let at = goal.at.returns-in-ToOpen c in
    settled_behind a.chip a.table.now a.n _ a.r a.call a.call.verb (gate at.In_ok-enter) (way at.In_ok-pass_way) (flow at.In_ok-pass_flow) _
    (subst (λ v. Settles (state_lines a.chip a.table.now a.r.state a.call v) a.chip a.table.now a.r a.call v c.decide_opening.result)
    (sym c.in-ToOpen.is) c.decide_opening.ensures)

pub returns-in-ToClose : goal.returns-in-ToClose
returns-in-ToClose c =
    let a = c.args in
    let at = goal.at.returns-in-ToClose c in
    settled_behind a.chip a.table.now a.n _ a.r a.call a.call.verb (gate at.In_ok-enter) (way at.In_ok-pass_way) (flow at.In_ok-pass_flow) _
    (subst (λ v. Settles (state_lines a.chip a.table.now a.r.state a.call v) a.chip a.table.now a.r a.call v c.decide_closing.result)
    (sym c.in-ToClose.is) (c.decide_closing.ensures a.table.now a.call))
