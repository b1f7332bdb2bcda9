-- The record that was read is the flow's, and so obeys its own rules where table and list agree; what is decided, marked and put
-- is what was asked.
use Rattle.std.proofs.Common.{arith}
use Rattle.std.proofs.lemmas.Result.{err_from_is_err_and}
use Rattle.perform.specs.Joined.{own_told, performs_not, flow_one, flow_inside, change_written, performs_yes}
use Rattle.perform.proofs.perform.Goals as goal

pub decide-requires : goal.decide-requires
decide-requires g c = own_told _ _ _ _ _ c.held-held.ensures.agree _ c.args.call c.flow_record-r.ensures

pub returns-in_err-yes : goal.returns-in_err-yes
returns-in_err-yes g c =
    let l = g.T.FlowList in
    let p = err_from_is_err_and c.from_residual.result c.from_residual.ensures.1 in
    rw (p.1, p.2)
    (performs_not l.count l.records l.Put l.form _ _ _ _ c.held-held.ensures.agree _ c.args.call c.flow_record-r.ensures _ c.count-n.ensures _
    c.in_err-yes.ensures)

pub overflow_cast-change : goal.overflow_cast-change
overflow_cast-change g c =
    let l = g.T.FlowList in
    let written =
    change_written l.count l.records l.Put l.form _ _ _ _ c.held-held.ensures.agree _ c.args.call c.flow_record-r.ensures _ c.count-n.ensures
    _ c.in_ok-yes.ensures _ c.change-change.ensures in
    omega (arith, written.small)

pub mark-requires-clause-legal : goal.mark-requires-clause-legal
mark-requires-clause-legal g c =
    let l = g.T.FlowList in
    (change_written l.count l.records l.Put l.form _ _ _ _ c.held-held.ensures.agree _ c.args.call c.flow_record-r.ensures _ c.count-n.ensures
    _ c.in_ok-yes.ensures _ c.change-change.ensures).legal

pub mark-requires-clause-walkable : goal.mark-requires-clause-walkable
mark-requires-clause-walkable g c =
    let l = g.T.FlowList in
    (change_written l.count l.records l.Put l.form _ _ _ _ c.held-held.ensures.agree _ c.args.call c.flow_record-r.ensures _ c.count-n.ensures
    _ c.in_ok-yes.ensures _ c.change-change.ensures).walkable

pub overflow_sub-call : goal.overflow_sub-call
overflow_sub-call g c =
    let l = g.T.FlowList in
    flow_one l.count l.records l.Put l.form _ _ _ _ c.held-held.ensures.agree _ c.args.call c.flow_record-r.ensures _ c.count-n.ensures
    _ c.in_ok-yes.ensures _ c.change-change.ensures

pub put-requires-clause-inside : goal.put-requires-clause-inside
put-requires-clause-inside g c =
    let l = g.T.FlowList in
    let inside =
    flow_inside l.count l.records l.Put l.form _ _ _ _ c.held-held.ensures.agree _ c.args.call c.flow_record-r.ensures _ c.count-n.ensures
    _ c.in_ok-yes.ensures _ c.change-change.ensures in
    omega (arith, inside)

pub put-requires-clause-fits : goal.put-requires-clause-fits
put-requires-clause-fits g c =
    let l = g.T.FlowList in
    (change_written l.count l.records l.Put l.form _ _ _ _ c.held-held.ensures.agree _ c.args.call c.flow_record-r.ensures _ c.count-n.ensures
    _ c.in_ok-yes.ensures _ c.change-change.ensures).fits

pub returns : goal.returns
returns g c =
    let l = g.T.FlowList in
    performs_yes l.count l.records l.Put l.form _ _ _ _ c.held-held.ensures.agree _ c.args.call c.flow_record-r.ensures _ c.count-n.ensures
    _ c.in_ok-yes.ensures _ c.change-change.ensures _ _ c.mark.ensures c.put.ensures
